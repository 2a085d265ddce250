-- `binary_rows` meets its contract.
use mathlib.Core.{Path.sym, Path.◌∙◌, Path.ap, Path.ap₂, Bool.◌&&◌}
use Rattle.class_rows.specs.Checked.{is_divisor}
use Rattle.std.proofs.{Common.rules, Math.Bool.and-false}
use Rattle.std.specs.Prelude.{is_some}
use Rattle.class_rows.proofs.{Tests.Sized, Tests.shown, Tests.no_curve, Answers.binary_refused, Answers.binary_given, Answers.binary_moved}
use Rattle.class_rows.proofs.binary_rows.Goals as goal

pub returns-in_err-curve : goal.returns-in_err-curve
returns-in_err-curve c =
    let b = is_divisor c.args.d c.args.f c.args.b in rw c.from_residual.ensures (binary_refused (ap (λ x. x && b) (no_curve _ _ c.args.a c.in_err-curve.ensures)))

pub returns-in_err-cofactor_of_divisor : goal.returns-in_err-cofactor_of_divisor
returns-in_err-cofactor_of_divisor c =
    let e = c.in_ok-curve.ensures in
    let a = is_divisor c.in_ok-curve.curve.field.degree c.in_ok-curve.curve.f c.args.a in
    let second = sym c.cofactor_of_divisor.ensures.decides ∙ ap is_some c.in_err-cofactor_of_divisor.was in
    rw c.from_residual-in_err-cofactor_of_divisor.ensures (binary_moved e.0 e.1 (binary_refused (ap (λ x. a && x) second ∙ and-false a)))

pub returns-in_err-w : goal.returns-in_err-w
returns-in_err-w c =
    let e = c.in_ok-curve.ensures in
    let first = sym c.cofactor_of_divisor-2.ensures.decides ∙ ap is_some c.in_err-w.was in
    let second = sym c.cofactor_of_divisor.ensures.decides ∙ ap is_some c.in_ok-cofactor_of_divisor.was in
    rw c.from_residual-in_err-w.ensures (binary_moved e.0 e.1 (binary_refused (ap₂ ◌&&◌ first second)))

pub binary-requires-clause-a_reduced : goal.binary-requires-clause-a_reduced
binary-requires-clause-a_reduced c = (shown (sym c.cofactor_of_divisor-2.ensures.decides ∙ ap is_some c.in_ok-w.was)).divisor.reduced

pub binary-requires-clause-cofactor : goal.binary-requires-clause-cofactor
binary-requires-clause-cofactor c = c.cofactor_of_divisor-2.ensures.cofactor _ c.in_ok-w.was

pub binary-requires-clause-b_reduced : goal.binary-requires-clause-b_reduced
binary-requires-clause-b_reduced c = (shown (sym c.cofactor_of_divisor.ensures.decides ∙ ap is_some c.in_ok-cofactor_of_divisor.was)).divisor.reduced

pub returns : goal.returns
returns c =
    let e = c.in_ok-curve.ensures in
    let z : Sized c.binary.result.pair = record { u_size = search rules; v_size = search rules } in
    binary_moved e.0 e.1 (binary_given c.args.op (sym c.cofactor_of_divisor-2.ensures.decides ∙ ap is_some c.in_ok-w.was) (sym c.cofactor_of_divisor.ensures.decides ∙ ap is_some c.in_ok-cofactor_of_divisor.was) z c.binary.ensures)
