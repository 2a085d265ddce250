-- `square_row` meets its contract. The invariant: the numbers below 2 i are those of a², the others 0.
use mathlib.Core.Path.{refl, sym, ◌∙◌}
use native.Mathlib.Omega.{arith}
use Rattle.row_theory.proofs.Rows.{Fill.zeros_range, Fill.coeff_zeros, Fill.filled_start, Fill.filled_turn, Squares.squared_past, Length.places_len}
use Rattle.row_theory.proofs.{Rows.Fill.filled_skip, Rows.Fill.filled_to, Rows.Fill.filled_end, Rows.Squares.squared_at, Rows.Squares.squared_odd}
use Rattle.class_rows.proofs.element.Field.square_row.Goals as goal

pub loop-i-init : goal.loop-i-init
loop-i-init c =
    let len = places_len _ c.length-i-end.ensures _ c.requires.a_in in
    let short = c.requires.short in (omega arith, filled_start refl (zeros_range _ 12) (λ i h. absurd (omega arith)))

pub loop-i-preserved : goal.loop-i-preserved
loop-i-preserved c = (
  c.loop-i.invariant.0,
  filled_to (omega arith) (filled_skip (filled_turn c.loop-i.invariant.1 (omega arith) (squared_at _ _ _ c.square.ensures)) (coeff_zeros _ 12 _ ∙ sym (squared_odd _ _ _))),
)

pub returns : goal.returns
returns c =
    let len = places_len _ c.length-i-end.ensures _ c.requires.a_in in
    filled_end c.loop-i.invariant.1 (λ i h. coeff_zeros _ 12 i ∙ sym (squared_past _ _ c.length-i-end.result i (omega arith) (omega arith)))
