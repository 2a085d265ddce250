-- `check_form` meets its contract: the range after the shape.
use mathlib.Core.{Path.◌∙◌, Path.ap, Bool.◌&&◌}
use Rattle.std.proofs.lemmas.Result.{err_from_is_err_and}
use Rattle.binary_field.specs.Answer.{below}
use Rattle.binary_field.proofs.{Refusing.stops_first, Refusing.goes_on, Degrees.bound_accepted}
use Rattle.jacobian.specs.{Checks.unless, Classes.range_refusal, internal.Refusals.form_refusal}
use Rattle.jacobian.proofs.classes.check_form.Goals as goal

pub returns-in_err-check_shape : goal.returns-in_err-check_shape
unfolding form_refusal
returns-in_err-check_shape c =
    let p = err_from_is_err_and c.from_residual.result c.from_residual.ensures.1 in
    rw (p.1, p.2) (stops_first _ _ c.in_err-check_shape.ensures)

pub returns : goal.returns
unfolding form_refusal range_refusal
returns c =
    let a = c.args.a in
    goes_on c.in_ok-check_shape.ensures (c.check_range.ensures ∙ ap (λ m. unless (below m a.u && below m a.v) 110) (c.bound.ensures ∙ bound_accepted _ c.requires))
