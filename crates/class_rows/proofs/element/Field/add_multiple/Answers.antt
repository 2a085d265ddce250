-- `add_multiple` meets its contract. The invariant: the numbers below shift + i are those of a + c x^shift b, the others
-- those of a.
use Rattle.std.proofs.Common.{◌≡◌, rules, arith, length}
use Rattle.row_theory.proofs.Rows.{Fill.filled_start, Fill.filled_turn, Fill.filled_to, Fill.filled_end, Sums.added_turn, Sums.added_past, Length.places_len}
use Rattle.row_theory.proofs.{Rows.Coefficients.stands_eq, Rows.Coefficients.self_stands, Rows.Sums.multiple_zero, Rows.Sums.added_below}
use Rattle.class_rows.proofs.element.Field.add_multiple.Goals as goal

pub loop-i-init : goal.loop-i-init
loop-i-init c =
    let size : length c.args.a ≡ 12 = search rules in
    let len = places_len _ c.length-i-end.ensures _ c.requires.b_in in
    let room = c.requires.room in
    (omega arith, filled_start size c.requires.a_in (λ i h. added_below _ _ _ _ _ i (omega arith)))

pub loop-i-preserved : goal.loop-i-preserved
loop-i-preserved c =
    let s = c.loop-i.invariant.1 in
    (c.loop-i.invariant.0, filled_to (omega arith) (filled_turn s (omega arith) (added_turn _ _ _ _ _ _ (s.above _ (omega arith)) c.product.ensures c.sum.ensures)))

pub returns : goal.returns
returns c =
    let len = places_len _ c.length-i-end.ensures _ c.requires.b_in in
    filled_end c.loop-i.invariant.1 (λ i h. added_past _ _ _ _ _ c.length-i-end.result i (omega arith) (omega arith))

pub returns-then-c-eq0 : goal.returns-then-c-eq0
returns-then-c-eq0 c = stands_eq _ (multiple_zero _ _ _ c.if-c-eq0.true) (self_stands _ _ c.requires.a_in)
