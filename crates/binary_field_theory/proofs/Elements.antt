-- The laws that a field record of the elements of degree 5 or 61 needs. None depends on the inverse of 0.
-- `element_path`: elements with the same number are equal.
-- `spreadings_root`, `spreadings_lt`, `spreadings_square`: repeated spreading gives the square root, an element.
-- `chain_number`, `chain_lt`: the inverse by few products is the power 2^d - 2, an element.
-- `product_chain`: for a other than 0, a times it is 1.
use Prim.Native.Nat.{ℕ, ◌-◌, ◌^◌, ◌<◌}
use mathlib.Core.Path.{◌≡◌}
use native.Mathlib.Fin
use Rattle.binary_field_theory.specs.Element.{Accepted, Element, product, square, root, power}
use Rattle.binary_field_theory.specs.Chain.{spreadings, chain_inverse}
use Rattle.binary_field_theory.proofs.{Products.low_lt, Frobenius.root_lt, Frobenius.square_root, Certificate.certified}
use Rattle.binary_field_theory.proofs.{Inverses.product_inverse, Power.power_lt, Chain.chain_is_power, Chain.spreadings_squarings}

pub element_path : (d : ℕ) {x y : Element d} → x.0 ≡ y.0 → x ≡ y
element_path d {x} {y} = Fin.val_path {n = 2 ^ d} {i = x} {j = y}

module _ (d : ℕ) (ok : Accepted d) where
  pub spreadings_root : (a : ℕ) → spreadings d (d - 1) a ≡ root d a
  unfolding root
  spreadings_root = spreadings_squarings d (d - 1)

  module _ (a : ℕ) (ha : a < 2 ^ d) where
    pub spreadings_lt : spreadings d (d - 1) a < 2 ^ d
    spreadings_lt = rw (spreadings_root a) (root_lt d (low_lt d ok) (certified d ok).fixed a ha)

    pub spreadings_square : product d (spreadings d (d - 1) a) (spreadings d (d - 1) a) ≡ a
    unfolding square
    spreadings_square = rw (spreadings_root a) (square_root d (low_lt d ok) (certified d ok).fixed a ha)

    pub chain_number : chain_inverse d a ≡ power d a (2 ^ d - 2)
    chain_number = chain_is_power d (low_lt d ok) a ha

    pub chain_lt : chain_inverse d a < 2 ^ d
    chain_lt = rw chain_number (power_lt d (low_lt d ok) a (2 ^ d - 2))

    pub product_chain : ¬ (a ≡ 0) → product d a (chain_inverse d a) ≡ 1
    product_chain ne = rw chain_number (product_inverse d (certified d ok) a ha ne)
