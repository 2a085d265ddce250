-- `on_two` meets its contract: where no check before the divisions refuses, the divisions of the rows decide.
use mathlib.Core.Path.{refl}
use Rattle.std.proofs.lemmas.Result.{err_from_is_err_and}
use Rattle.binary_field.proofs.Refusing.{number_positive}
use Rattle.class_rows.specs.Operations.{binary}
use Rattle.class_rows.proofs.Answers.{binary_divisor, binary_stands}
use Rattle.jacobian.specs.{Curves.curve, Classes.pair}
use Rattle.jacobian.proofs.{ByValue.Passing.row_curve_is, ByValue.Passing.rows_pair_is, ByValue.Refusals.form_shape, ByValue.Refusals.two_due, ByValue.Answers.at_refusal, ByValue.Answers.refuses}
use Rattle.jacobian.proofs.on_two.Goals as goal

pub returns-in_err-check_forms : goal.returns-in_err-check_forms
returns-in_err-check_forms c =
    let p = err_from_is_err_and c.from_residual.result c.from_residual.ensures.1 in
    rw (p.1, p.2) (refuses _ _ _ (c.in_err-check_forms.ensures.refused (number_positive _)))

pub rows-left-requires : goal.rows-left-requires
rows-left-requires c = (form_shape c.args.curve c.args.a (c.in_ok-check_forms.ensures.none refl).1).low

pub rows-right-requires : goal.rows-right-requires
rows-right-requires c = (form_shape c.args.curve c.args.b (c.in_ok-check_forms.ensures.none refl).2).low

pub returns : goal.returns
returns c =
    let d = c.args.curve.degree in
    let z = c.in_ok-check_forms.ensures.none refl in
    let f = c.f_row-f.ensures in
    let first = c.rows-left.ensures in
    let second = c.rows-right.ensures in
    let given = c.binary_rows.ensures in
    at_refusal d (binary c.args.op (curve c.args.curve) (pair d c.args.a) (pair d c.args.b))
    (two_due c.args.curve c.args.a c.args.b z.0 z.1 z.2 f first second (binary_divisor given))
    (c.answered.ensures d _
    (λ r is. rw (rows_pair_is d first, rows_pair_is d second, row_curve_is c.args.curve f) at (binary_stands given is)))
