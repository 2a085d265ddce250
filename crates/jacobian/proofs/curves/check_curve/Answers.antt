-- `check_curve` meets its contract: the coefficients are tested after the degree.
use mathlib.Core.Path.{sym, ◌∙◌, ap, ap₂}
use Rattle.std.proofs.lemmas.Result.{err_from_is_err_and}
use Rattle.binary_field.specs.Answer.{below}
use Rattle.binary_field.proofs.{Refusing.stops_first, Refusing.goes_on, Degrees.accepted_degree, Degrees.bound_accepted}
use Rattle.jacobian.specs.{Checks.unless, Curves.coefficient_refusal, Curves.curve_refusal}
use Rattle.jacobian.proofs.curves.check_curve.Goals as goal

pub returns-in_err-check_degree : goal.returns-in_err-check_degree
unfolding curve_refusal
returns-in_err-check_degree c =
    let p = err_from_is_err_and c.from_residual.result c.from_residual.ensures.1 in
    rw (p.1, p.2) (stops_first _ _ c.in_err-check_degree.ensures)

pub returns-else-all_below : goal.returns-else-all_below
unfolding curve_refusal coefficient_refusal unless
returns-else-all_below c =
    let d = c.in_ok-check_degree.ensures in
    let size = c.bound.ensures ∙ bound_accepted _ (accepted_degree _ (sym d)) in
    goes_on d (ap (λ t. unless t 107) (sym c.if-all_below.false ∙ c.all_below.ensures ∙ ap₂ below size c.coefficients.ensures))

pub returns-then-all_below : goal.returns-then-all_below
unfolding curve_refusal coefficient_refusal unless
returns-then-all_below c =
    let d = c.in_ok-check_degree.ensures in
    let size = c.bound.ensures ∙ bound_accepted _ (accepted_degree _ (sym d)) in
    goes_on d (ap (λ t. unless t 107) (sym c.if-all_below.true ∙ c.all_below.ensures ∙ ap₂ below size c.coefficients.ensures))
