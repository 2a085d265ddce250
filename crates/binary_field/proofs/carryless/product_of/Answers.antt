-- `product_of` meets its contract.
use mathlib.Core.Path.{ap, ◌∙◌}
use native.Mathlib.Omega.{arith}
use Rattle.binary_field_theory.specs.{Carryless.remainder, Element.low, Element.product}
use Rattle.binary_field_theory.proofs.Words.Sizes.{elements_lt}
use Rattle.binary_field.proofs.carryless.product_of.Goals as goal

-- ---- over GF(2^5)
pub clmul32-requires : goal.clmul32-requires
clmul32-requires c =
    let (ha, hb) = rw c.in-Five.is at c.requires in
    (omega (arith, ha), omega (arith, hb))

pub fold_5-requires : goal.fold_5-requires
fold_5-requires c =
    let (ha, hb) = rw c.in-Five.is at c.requires in
    rw c.clmul32.ensures (elements_lt _ _ 5 tt ha hb)

pub returns-in-Five : goal.returns-in-Five
unfolding product
returns-in-Five c = rw c.in-Five.is (c.fold_5.ensures ∙ ap (remainder 5 (low 5)) c.clmul32.ensures)

-- ---- over GF(2^61)
pub wide_product-requires : goal.wide_product-requires
wide_product-requires c = rw c.in-SixtyOne.is at c.requires

pub returns-in-SixtyOne : goal.returns-in-SixtyOne
unfolding product
returns-in-SixtyOne c = rw c.in-SixtyOne.is (c.fold_61.ensures ∙ ap (remainder 61 (low 61)) c.wide_product.ensures)
