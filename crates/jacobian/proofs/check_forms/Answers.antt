-- `check_forms` meets its contract: the second class after the first.
use mathlib.Core.Path.{◌≡◌, refl, sym}
use Rattle.std.proofs.lemmas.Result.{err_from_is_err_and}
use Rattle.binary_field.proofs.Refusing.{number_positive, stops_first, goes_on}
use Rattle.refusals.specs.{Refusals.number, declared.Refusal.Refusal}
use Rattle.jacobian.specs.{Answer.refusal, Answer.refusal_of_two, internal.Refusals.FormRefusalOfTwo, declared.Curve.Curve, declared.Class.Class}
use Rattle.jacobian.proofs.{ByValue.Checks.then_zero, ByValue.Checks.curve_passes, ByValue.Refusals.class_first, ByValue.Refusals.form_first}
use Rattle.jacobian.proofs.check_forms.Goals as goal

refuses : {c : Curve} {a b : Class} (r : Refusal) → number r ≡ refusal_of_two c a b → FormRefusalOfTwo c a b (number r)
refuses r e = record { refused = λ _. e; none = λ z. absurd (number_positive r z) }

pub returns-in_err-check_curve_and_form : goal.returns-in_err-check_curve_and_form
unfolding refusal_of_two
returns-in_err-check_curve_and_form c =
    let p = err_from_is_err_and c.from_residual.result c.from_residual.ensures.1 in
    rw (p.1, p.2) (refuses _ (stops_first _ _ (form_first _ _ c.in_err-check_curve_and_form.ensures (number_positive _))))

pub check_form-requires : goal.check_form-requires
check_form-requires c = (curve_passes _ (then_zero _ _ (sym c.in_ok-check_curve_and_form.ensures)).0).accepted

pub check_divisor-requires : goal.check_divisor-requires
check_divisor-requires c = then_zero _ _ (sym c.in_ok-check_curve_and_form.ensures)

pub returns-in_err-check_divisor : goal.returns-in_err-check_divisor
unfolding refusal refusal_of_two
returns-in_err-check_divisor c =
    let z = then_zero _ _ (sym c.in_ok-check_curve_and_form.ensures) in
    let p = err_from_is_err_and c.from_residual-in_err-check_divisor.result c.from_residual-in_err-check_divisor.ensures.1 in
    rw (p.1, p.2) (refuses _ (stops_first _ _ (goes_on (sym z.0) c.in_err-check_divisor.ensures)))

pub returns-in-Err : goal.returns-in-Err
unfolding refusal refusal_of_two
returns-in-Err c =
    let z = then_zero _ _ (sym c.in_ok-check_curve_and_form.ensures) in
    refuses _ (goes_on (goes_on (sym z.0) c.in_ok-check_divisor.ensures) (class_first _ _ c.in-Err.ensures (number_positive _)))

pub returns : goal.returns
returns c =
    let z = then_zero _ _ (sym c.in_ok-check_curve_and_form.ensures) in
    record { refused = λ h. absurd (h refl); none = λ _. (z.0, z.1, sym c.in_default.ensures) }
