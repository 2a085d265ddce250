-- `wide_product` meets its contract.
use Prim.Native.Nat.{ℕ, ◌-◌, ◌/◌, ◌^◌, ◌<◌}
use native.Mathlib.Omega.{arith}
use lib.Bits.{bit_and, bit_xor, mask_lt, xor_lt}
use Rattle.binary_field_theory.specs.Carryless.{◌⊕◌}
use Rattle.binary_field_theory.proofs.Words.{Karatsuba.words, Sizes.elements_lt}
use Rattle.binary_field.proofs.carryless.wide_product.Goals as goal

low_fits : (a : ℕ) → bit_and a (2 ^ 31 - 1) < 2 ^ 32
low_fits a = omega (arith, mask_lt a 31)

both_fit : (a : ℕ) → a < 2 ^ 61 → bit_xor (bit_and a (2 ^ 31 - 1)) (a / 2 ^ 31) < 2 ^ 32
both_fit a h = xor_lt 32 (bit_and a (2 ^ 31 - 1)) (a / 2 ^ 31) (low_fits a) (omega arith)

pub returns : goal.returns
unfolding ◌⊕◌
returns c =
    (words c.args.a c.args.b _ _ _ c.requires.0 c.requires.1
    c.clmul32-low.ensures c.clmul32-high.ensures c.clmul32-both.ensures).1

pub invariant_of-result : goal.invariant_of-result
unfolding ◌⊕◌
invariant_of-result c =
    let (low, value) = words c.args.a c.args.b _ _ _ c.requires.0 c.requires.1 c.clmul32-low.ensures c.clmul32-high.ensures c.clmul32-both.ensures in
    (low, omega (arith, value, elements_lt _ _ 61 tt c.requires.0 c.requires.1))

pub clmul32-low-requires : goal.clmul32-low-requires
clmul32-low-requires c = (low_fits c.args.a, low_fits c.args.b)

pub clmul32-both-requires : goal.clmul32-both-requires
clmul32-both-requires c = (both_fit _ c.requires.0, both_fit _ c.requires.1)
