-- The numbers of the field's operations, and the element of a number.
-- `add_number`, `mul_number`: the number of a sum and of a product.
-- `inverse_number`, `root_number`: the number of an inverse and of a square root.
-- `zero_number`, `one_number`: the numbers of 0 and 1.
-- `element_small`: the element of a number below 2^d has that number.
-- `element_number`: an element is the element of its number.
-- `computing`: under `unfolding field element computing` operations on closed elements compute.
use Prim.Native.Nat.{ℕ, ◌^◌, ◌<◌}
use mathlib.Core.Path.{◌≡◌, refl}
use native.Mathlib.Decide.{ℕ_discrete, Fin-discrete}
use Rattle.binary_field_theory.specs.{Carryless.◌⊕◌, Carryless.digits_to, Carryless.digits, Carryless.clmul, Carryless.spread, Carryless.reduce, Carryless.remainder, Element.Accepted, Element.Element, Element.low, Element.product, Element.root, Element.inverse, Chain.spreadings, Chain.chain_turn, Chain.chain, Chain.chain_inverse}
use Rattle.binary_field_theory.proofs.{Remainder.remainder_small, Products.low_lt, Elements.element_path, Elements.chain_number, Elements.spreadings_root}
use Rattle.binary_field.specs.Field.{field, element}

module _ (d : ℕ) (ok : Accepted d) where
  pub add_number : (x y : Element d) → ((field d ok).ring.add x y).0 ≡ x.0 ⊕ y.0
  unfolding field
  add_number x y = refl

  pub mul_number : (x y : Element d) → ((field d ok).ring.mul x y).0 ≡ product d x.0 y.0
  unfolding field
  mul_number x y = refl

  pub zero_number : (field d ok).ring.zero.0 ≡ 0
  unfolding field
  zero_number = refl

  pub one_number : (field d ok).ring.one.0 ≡ 1
  unfolding field
  one_number = refl

  -- for an element other than 0
  pub inverse_number : (x : Element d) (ne : ¬ (x.0 ≡ 0)) → ((field d ok).inverse x).0 ≡ inverse d x.0 ne
  unfolding field
  inverse_number x ne = chain_number d ok x.0 x.1

  pub root_number : (x : Element d) → ((field d ok).root x).0 ≡ root d x.0
  unfolding field
  root_number x = spreadings_root d ok x.0

  pub element_small : (n : ℕ) → n < 2 ^ d → (element d ok n).0 ≡ n
  unfolding element
  element_small = remainder_small d (low d) (low_lt d ok)

  pub element_number : (x : Element d) → element d ok x.0 ≡ x
  element_number x = element_path d (element_small x.0 x.1)

-- one name that unfolds what the operations use
unfoldable pub computing : Unit {0}
unfolding ◌⊕◌ digits_to digits clmul spread reduce remainder low product spreadings chain_turn chain chain_inverse ℕ_discrete Fin-discrete
computing = tt
