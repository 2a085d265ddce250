-- The square root as the code computes it, from the digits at even and at odd positions and the root of t.
-- `times_root`: the square of n times a root of t is t times the square of n.
-- `root_made`: the result of the code is the root.
-- `odd_below`: the digits at odd positions, joined, are an element of at most 30 digits.
-- `root_5`, `root_61`: the roots of t for both degrees.
use mathlib.Core.Path.{◌≡◌, refl, ap, ap₂, sym, ◌∙◌}
use Prim.Native.Nat.{ℕ, ◌*◌, ◌/◌, ◌^◌, ◌<◌}
use native.Mathlib.Omega.{arith}
use lib.Bits.{bit_xor}
use Rattle.binary_field_theory.specs.{Carryless.◌⊕◌, Carryless.clmul, Carryless.spread, Carryless.reduce, Carryless.remainder, Carryless.digits, Carryless.digits_to, Element.Accepted, Element.low, Element.product, Element.square, Element.root, Spreading.evens}
use Rattle.binary_field_theory.proofs.{Sums.sum_lt, Remainder.remainder_sum, Remainder.remainder_small, Remainder.remainder_double, Remainder.remainder_idem, Products.low_lt, Products.product_lt, Products.product_comm, Products.two_product, Products.square_sum, Products.square_product, Products.square_spread, Certificate.certified, Frobenius.square_root, Frobenius.square_injective, Frobenius.root_lt, Degrees.digits_61, Words.Evens.evens_parts, Words.Evens.evens_le, Words.Evens.evens_lt}

-- the square of the code's result is the element
module _ (d : ℕ) (hd : Accepted d) where
  fits : low d < 2 ^ d
  fits = low_lt d hd

  double_square : (o : ℕ) → product d 2 (square d o) ≡ remainder d (low d) (2 * spread o)
  double_square o =
      ap (product d 2) (square_spread d o) ∙ two_product d fits (remainder d (low d) (spread o))
      ∙ remainder_double d (low d) (remainder d (low d) (spread o))
      ∙ ap (λ (x : ℕ). reduce d (low d) (2 * x)) (remainder_idem d (low d) fits (spread o)) ∙ sym (remainder_double d (low d) (spread o))

  pub times_root : (n s : ℕ) {p : ℕ} → square d s ≡ 2 → p ≡ product d n s → (square d p ≡ product d 2 (square d n)) × (p < 2 ^ d)
  times_root n s e f =
      (ap (square d) f ∙ square_product d fits n s ∙ ap (product d (square d n)) e ∙ product_comm d (square d n) 2, rw f (product_lt d fits n s))

  root_squared : (a p : ℕ) → a < 2 ^ d → square d p ≡ product d 2 (square d (evens 32 (a / 2))) → square d (evens 32 a ⊕ p) ≡ a
  root_squared a p ha e =
      square_sum d fits (evens 32 a) p
      ∙ ap₂ ◌⊕◌ (square_spread d (evens 32 a)) (e ∙ double_square (evens 32 (a / 2)))
      ∙ sym (remainder_sum d (low d) fits (spread (evens 32 a)) (2 * spread (evens 32 (a / 2))))
      ∙ ap (remainder d (low d)) (evens_parts a (omega (arith, digits_61 a d hd ha))) ∙ remainder_small d (low d) fits a ha

  pub root_made : (a e o p : ℕ) → a < 2 ^ d → e ≡ evens 32 a → o ≡ evens 32 (a / 2)
      → (square d p ≡ product d 2 (square d o)) × (p < 2 ^ d) → bit_xor e p ≡ root d a
  unfolding ◌⊕◌
  root_made a e o p ha ee eo (ep, hp) =
      let f = (certified d hd).fixed in
      rw ee
      (square_injective d fits f (evens 32 a ⊕ p) (root d a)
      (sum_lt d (evens 32 a) p (omega (arith, evens_le 32 a)) hp) (root_lt d fits f a ha)
      (root_squared a p ha (rw eo at ep) ∙ sym (square_root d fits f a ha)))

pub odd_below : (d a o : ℕ) → Accepted d → a < 2 ^ d → o ≡ evens 32 (a / 2) → (o < 2 ^ d) × (o < 2 ^ 30)
odd_below d a o hd ha e =
    (omega (arith, evens_le 32 (a / 2)), rw e (evens_lt 32 30 (a / 2) (omega (arith, digits_61 a d hd ha))))

pub root_5 : square 5 0x1b ≡ 2
unfolding square product remainder reduce clmul low digits digits_to ◌⊕◌
root_5 = refl

pub root_61 : square 61 0x7fff_ffff_8000_0072 ≡ 2
unfolding square product remainder reduce clmul low digits digits_to ◌⊕◌
root_61 = refl
