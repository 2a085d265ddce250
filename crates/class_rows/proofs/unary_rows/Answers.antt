-- `unary_rows` meets its contract.
use mathlib.Core.Path.{sym, ◌∙◌, ap}
use Rattle.std.proofs.Common.{rules}
use Rattle.std.specs.Prelude.{is_some}
use Rattle.class_rows.proofs.{Tests.Sized, Tests.shown, Tests.no_curve, Answers.unary_refused, Answers.unary_given, Answers.unary_moved}
use Rattle.class_rows.proofs.unary_rows.Goals as goal

pub returns-in_err-curve : goal.returns-in_err-curve
returns-in_err-curve c = rw c.from_residual.ensures (unary_refused (no_curve _ _ _ c.in_err-curve.ensures))

pub returns-in_err-w : goal.returns-in_err-w
returns-in_err-w c =
    let e = c.in_ok-curve.ensures in
    rw c.from_residual-in_err-w.ensures (unary_moved e.0 e.1 (unary_refused (sym c.cofactor_of_divisor.ensures.decides ∙ ap is_some c.in_err-w.was)))

pub unary-requires-clause-reduced : goal.unary-requires-clause-reduced
unary-requires-clause-reduced c = (shown (sym c.cofactor_of_divisor.ensures.decides ∙ ap is_some c.in_ok-w.was)).divisor.reduced

pub unary-requires-clause-cofactor : goal.unary-requires-clause-cofactor
unary-requires-clause-cofactor c = c.cofactor_of_divisor.ensures.cofactor _ c.in_ok-w.was

pub returns : goal.returns
returns c =
    let e = c.in_ok-curve.ensures in
    let z : Sized c.unary.result.pair = record { u_size = search rules; v_size = search rules } in
    unary_moved e.0 e.1 (unary_given c.args.op (sym c.cofactor_of_divisor.ensures.decides ∙ ap is_some c.in_ok-w.was) z c.unary.ensures)
