-- `of_row` meets its contract: each test in turn.
use Rattle.std.proofs.Common.{◌≡◌, rules, length}
use mathlib.Core.{Path.sym, Path.◌∙◌, Path.ap, Bool.true≢false}
use Rattle.class_rows.proofs.Tests.{both, row_answer, curve_formed, curve_parts}
use Rattle.class_rows.specs.Checked.{is_row}
use Rattle.class_rows.proofs.curve.Curve.of_row.Goals as goal
use Rattle.class_rows.proofs.curve.Curve.of_row.Goals.{After-is_row}
use Rattle.class_rows.proofs.curve.Curve.of_row.Goals.{else-is_row-via-then-is_row+then-length-eq8+else-f-eq1, else-is_row-via-then-is_row+else-length-eq8, else-is_row-via-else-is_row}

-- the test of each number
row_is : (c : After-is_row) → c.is_row.result ≡ is_row c.in_ok-field.field.degree c.args.f
row_is c = let size : length c.args.f ≡ 12 = search rules in row_answer _ _ _ c.in_ok-field.field.accepted size c.is_row.ensures

pub invariant_of-result : goal.invariant_of-result
invariant_of-result c =
    record { monic_of_degree_7 = curve_formed _ _ (sym (row_is (goal.at.invariant_of-result c).After-is_row) ∙ c.if-is_row.true) c.length.ensures c.if-length-eq8.true c.if-f-eq1.true }

pub returns-else-is_row : goal.returns-else-is_row
returns-else-is_row c e =
    let p = curve_parts _ _ (both _ _ e).1 in
    let row = row_is (goal.at.returns-else-is_row c).After-is_row ∙ ap (λ d. is_row d c.args.f) c.in_ok-field.ensures ∙ p.0 in
    elim c.else-is_row.branch [
      | else-is_row-via-then-is_row+then-length-eq8+else-f-eq1 w ↦ w.if-f-eq1.false p.2
      | else-is_row-via-then-is_row+else-length-eq8 w ↦ w.if-length-eq8.false (w.length.ensures ∙ p.1)
      | else-is_row-via-else-is_row w ↦ true≢false (sym row ∙ w.if-is_row.false)
    ]
