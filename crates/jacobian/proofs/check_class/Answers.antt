-- `check_class` meets its contract: the division comes last.
use mathlib.Core.Path.{sym}
use Rattle.std.proofs.lemmas.Result.{err_from_is_err_and}
use Rattle.binary_field.proofs.Refusing.{number_positive, goes_on}
use Rattle.jacobian.specs.Answer.{refusal}
use Rattle.jacobian.proofs.{ByValue.Checks.then_zero, ByValue.Refusals.form_first}
use Rattle.jacobian.proofs.check_class.Goals as goal

pub returns-in_err-check_curve_and_form : goal.returns-in_err-check_curve_and_form
returns-in_err-check_curve_and_form c =
    let p = err_from_is_err_and c.from_residual.result c.from_residual.ensures.1 in
    rw (p.1, p.2) (form_first _ _ c.in_err-check_curve_and_form.ensures (number_positive _))

pub check_divisor-requires : goal.check_divisor-requires
check_divisor-requires c = then_zero _ _ (sym c.in_ok-check_curve_and_form.ensures)

pub returns : goal.returns
unfolding refusal
returns c =
    let z = then_zero _ _ (sym c.in_ok-check_curve_and_form.ensures) in
    goes_on (sym z.0) c.check_divisor.ensures
