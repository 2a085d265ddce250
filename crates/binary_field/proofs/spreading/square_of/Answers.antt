-- `square_of` meets its contract: the square is the spread number, folded.
use mathlib.Core.Path.{ap, sym, ◌∙◌}
use native.Mathlib.Omega.{arith}
use lib.Bits.{mask_lt}
use Rattle.binary_field_theory.specs.{Carryless.remainder, Element.low}
use Rattle.binary_field_theory.proofs.{Products.square_spread, Spread.spread_lt, Words.Halves.spread_words}
use Rattle.binary_field.proofs.spreading.square_of.Goals as goal

-- ---- over GF(2^5)
pub fold_5-requires : goal.fold_5-requires
fold_5-requires c = rw c.spread_word.ensures (spread_lt 5 _ (rw c.in-Five.is at c.requires))

pub returns-in-Five : goal.returns-in-Five
returns-in-Five c =
    rw c.in-Five.is (c.fold_5.ensures ∙ ap (remainder 5 (low 5)) c.spread_word.ensures ∙ sym (square_spread 5 _))

-- ---- over GF(2^61)
pub invariant_of-fold_61 : goal.invariant_of-fold_61
invariant_of-fold_61 c =
    let h = rw c.in-SixtyOne.is at c.requires in
    let low = mask_lt c.spread_word-low.result 61 in
    (low, omega (arith, low, spread_words _ h c.spread_word-high.ensures c.spread_word-low.ensures, spread_lt 61 _ h))

pub returns-in-SixtyOne : goal.returns-in-SixtyOne
returns-in-SixtyOne c =
    let h = rw c.in-SixtyOne.is at c.requires in
    rw c.in-SixtyOne.is
    (c.fold_61.ensures ∙ ap (remainder 61 (low 61)) (spread_words _ h c.spread_word-high.ensures c.spread_word-low.ensures)
    ∙ sym (square_spread 61 _))
