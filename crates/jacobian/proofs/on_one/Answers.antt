-- `on_one` meets its contract: where no check before the division refuses, the division of the rows decides.
use mathlib.Core.Path.{sym}
use Rattle.std.proofs.lemmas.Result.{err_from_is_err_and}
use Rattle.binary_field.proofs.Refusing.{number_positive}
use Rattle.class_rows.specs.Operations.{unary}
use Rattle.class_rows.proofs.Answers.{unary_divisor, unary_stands}
use Rattle.jacobian.specs.{Curves.curve, Classes.pair}
use Rattle.jacobian.proofs.{ByValue.Checks.then_zero, ByValue.Passing.row_curve_is, ByValue.Passing.rows_pair_is, ByValue.Refusals.form_first, ByValue.Refusals.form_shape, ByValue.Refusals.one_due, ByValue.Answers.at_refusal, ByValue.Answers.refuses}
use Rattle.jacobian.proofs.on_one.Goals as goal

pub returns-in_err-check_curve_and_form : goal.returns-in_err-check_curve_and_form
returns-in_err-check_curve_and_form c =
    let p = err_from_is_err_and c.from_residual.result c.from_residual.ensures.1 in
    rw (p.1, p.2) (refuses _ _ _ (form_first _ _ c.in_err-check_curve_and_form.ensures (number_positive _)))

pub rows-requires : goal.rows-requires
rows-requires c =
    (form_shape c.args.curve c.args.a (then_zero _ _ (sym c.in_ok-check_curve_and_form.ensures)).1).low

pub returns : goal.returns
returns c =
    let d = c.args.curve.degree in
    let z = then_zero _ _ (sym c.in_ok-check_curve_and_form.ensures) in
    let f = c.f_row-f.ensures in
    let rows = c.rows.ensures in
    let given = c.unary_rows.ensures in
    at_refusal d (unary c.args.op (curve c.args.curve) (pair d c.args.a)) (one_due c.args.curve c.args.a z.1 z.0 f rows (unary_divisor given))
    (c.answered.ensures d _ (λ r is. rw (rows_pair_is d rows, row_curve_is c.args.curve f) at (unary_stands given is)))
