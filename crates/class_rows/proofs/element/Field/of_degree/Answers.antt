-- `of_degree` meets its contract: the check of the degree passes where it is accepted.
use mathlib.Core.Path.{sym, ◌∙◌, ap}
use Rattle.std.specs.Prelude.{is_some}
use Rattle.class_rows.proofs.Elements.{degree_passes, degree_fails}
use Rattle.class_rows.proofs.element.Field.of_degree.Goals as goal

pub returns-in_err-ok : goal.returns-in_err-ok
returns-in_err-ok c =
    rw c.from_residual.ensures (degree_fails c.check_degree.result _ c.check_degree.ensures (sym c.ok.ensures.variant ∙ ap is_some c.in_err-ok.was))

pub invariant_of-result : goal.invariant_of-result
invariant_of-result c =
    record { accepted = degree_passes c.check_degree.result _ c.check_degree.ensures (sym c.ok.ensures.variant ∙ ap is_some c.in_ok-ok.was) }
