-- `root_row` meets its contract. The invariant: the numbers below i are those of the square root, the others 0.
use mathlib.Core.Path.{refl, sym, ◌∙◌}
use Rattle.std.proofs.Common.{◌≡◌, rules, arith, length}
use Rattle.row_theory.proofs.{Rows.Length.length_le, Rows.Fill.zeros_range, Rows.Fill.coeff_zeros, Rows.Fill.filled_start, Rows.Length.places_len}
use Rattle.row_theory.proofs.{Rows.Fill.filled_turn, Rows.Fill.filled_end, Rows.Squares.root_at, Rows.Squares.root_past}
use Rattle.class_rows.proofs.element.Field.root_row.Goals as goal

pub loop-i-init : goal.loop-i-init
loop-i-init c =
    let size : length c.args.a ≡ 12 = search rules in
    let short = length_le _ _ (places_len _ c.length.ensures _ c.requires) size in
    (omega arith, filled_start refl (zeros_range _ 12) (λ i h. absurd (omega arith)))

pub loop-i-preserved : goal.loop-i-preserved
loop-i-preserved c = (c.loop-i.invariant.0, filled_turn c.loop-i.invariant.1 (omega arith) (root_at _ _ _ c.root.ensures))

pub returns : goal.returns
returns c =
    let len = places_len _ c.length.ensures _ c.requires in
    filled_end c.loop-i.invariant.1 (λ i h. coeff_zeros _ 12 i ∙ sym (root_past _ _ i (omega arith)))

pub overflow_add-i-end : goal.overflow_add-i-end
overflow_add-i-end c =
    let size : length c.args.a ≡ 12 = search rules in
    let short = length_le _ _ (places_len _ c.length.ensures _ c.requires) size in omega arith
