-- `fold_61` meets its contract.
use mathlib.Core.Path.{ap, ◌∙◌}
use native.Mathlib.Omega.{arith}
use lib.{Dec.lit<, Bits.mask_lt}
use Rattle.binary_field_theory.specs.{Carryless.◌⊕◌, Carryless.remainder, Element.low}
use Rattle.binary_field_theory.proofs.Words.Folding.{left_61, fold_61}
use Rattle.binary_field.proofs.carryless.fold_61.Goals as goal

pub multiples-first-requires : goal.multiples-first-requires
multiples-first-requires c = (omega (arith, c.w.invariant.1), lit< tt)

pub multiples-second-requires : goal.multiples-second-requires
unfolding ◌⊕◌
multiples-second-requires c =
    let w = c.w.inside in
    (omega (arith, left_61 w.hi _ c.w.invariant.1 c.multiples-first.ensures, mask_lt w.hi 56), lit< tt)

pub returns : goal.returns
unfolding ◌⊕◌ low
returns c =
    let w = c.w.inside in
    fold_61 w.hi _ c.w.invariant.1 c.multiples-first.ensures w.lo c.w.invariant.0 c.multiples-second.ensures
    ∙ ap (remainder 61 (low 61)) c.w.view_is
