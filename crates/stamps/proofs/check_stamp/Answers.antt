-- `check_stamp` meets its contract.
use mathlib.Core.Path.{sym}
use native.Mathlib.Omega.{arith}
use Rattle.std.proofs.lemmas.Result.{err_from_is_err_and}
use Rattle.binary_field.proofs.Refusing.{stops_first}
use Rattle.jacobian.proofs.ByValue.Checks.{curve_passes}
use Rattle.stamps.specs.Stamps.{stamp_refusal}
use Rattle.stamps.proofs.Search.{too_large, none_due, eighth}
use Rattle.stamps.proofs.check_stamp.Goals as goal

pub returns-in_err-check_curve : goal.returns-in_err-check_curve
unfolding stamp_refusal
returns-in_err-check_curve c =
    let p = err_from_is_err_and c.from_residual.result c.from_residual.ensures.1 in
    rw (p.1, p.2) (stops_first _ _ c.in_err-check_curve.ensures)

pub returns-then-s-bound : goal.returns-then-s-bound
returns-then-s-bound c =
    let e = c.in_ok-check_curve.ensures in
    let ok = (curve_passes _ (sym e)).accepted in none_due _ _ e (eighth _ ok c.bound.ensures) (omega arith)

pub returns-else-s-bound : goal.returns-else-s-bound
returns-else-s-bound c =
    let e = c.in_ok-check_curve.ensures in
    let ok = (curve_passes _ (sym e)).accepted in too_large _ _ e (eighth _ ok c.bound.ensures) (omega arith)
