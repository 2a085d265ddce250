-- `read_field` meets its contract.
use mathlib.Core.Path.{sym, ap, ◌∙◌}
use Rattle.std.proofs.lemmas.Result.{err_from_is_err_and}
use Rattle.stored_form.specs.Reader.{head_reading}
use Rattle.stored_form.proofs.Readers.{field_stops, body_inside, body_allowed, check_stops_field, field_passes}
use Rattle.stored_form.proofs.read_field.Goals as goal

pub returns-in_default : goal.returns-in_default
returns-in_default c =
    field_stops _ c.args.h _ _ (sym (ap head_reading c.unwrap_err.ensures) ∙ c.read_head-head.ensures c.args.h)

pub bytes-requires : goal.bytes-requires
bytes-requires c = body_inside _ _ _ _ (c.in-Ok.ensures c.args.h)

pub with_field-values-requires : goal.with_field-values-requires
with_field-values-requires c = rw c.bytes.ensures (body_allowed _ c.args.h _ _ (c.in-Ok.ensures c.args.h))

pub returns-in_err-check_field : goal.returns-in_err-check_field
returns-in_err-check_field c =
    let p = err_from_is_err_and c.from_residual.result c.from_residual.ensures.1 in
    rw (p.1, p.2) (check_stops_field _ _ _ _ (c.in-Ok.ensures c.args.h) (rw c.bytes.ensures at c.with_field-values.ensures) _ (c.in_err-check_field.ensures _))

pub returns : goal.returns
returns c = field_passes _ _ _ _ (c.in-Ok.ensures c.args.h) (rw c.bytes.ensures at c.with_field-values.ensures) (c.in_ok-check_field.ensures _)
