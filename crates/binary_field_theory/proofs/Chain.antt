-- Square roots and inverses by few products.
-- `spreadings_squarings`: repeated spreading is repeated squaring.
-- `chain_is_power`: the inverse by few products is the power 2^d - 2.
use Prim.Native.Nat.{ℕ, zero, suc, ◌+◌, ◌-◌, ◌*◌, ◌/◌, ◌%◌, ◌^◌, ◌<◌}
use mathlib.Core.Path.{◌≡◌, refl, sym, ap, ap₂, ◌∙◌}
use native.Mathlib.Omega.{arith}
use lib.Arith.{bin_ind}
use Rattle.binary_field_theory.specs.Carryless.{digits_to, digits, spread, remainder}
use Rattle.binary_field_theory.specs.Element.{low, product, square, squarings, power}
use Rattle.binary_field_theory.specs.Chain.{spreadings, chain_turn, chain, chain_inverse}
use Rattle.binary_field_theory.proofs.{Sums.bit_cases, Sums.bit_lt, Clmul.digits_step}
use Rattle.binary_field_theory.proofs.Products
use Rattle.binary_field_theory.proofs.Power

pub spreadings_squarings : (d k a : ℕ) → spreadings d k a ≡ squarings d k a
unfolding spreadings squarings
spreadings_squarings d zero a = refl
spreadings_squarings d (suc k) a = ap (λ x. remainder d (low d) (spread x)) (spreadings_squarings d k a) ∙ sym (Products.square_spread d (squarings d k a))

module _ (d : ℕ) (h : low d < 2 ^ d) (a : ℕ) (ha : a < 2 ^ d) where
  turn_zero : chain_turn d a 0 1 ≡ 1
  unfolding chain_turn spreadings
  turn_zero = Products.product_one d h 1 (Products.one_lt d h)

  doubled : (k : ℕ) → product d (spreadings d k (power d a (2 ^ k - 1))) (power d a (2 ^ k - 1)) ≡ power d a (2 ^ (k + k) - 1)
  doubled k = rw (spreadings_squarings, ← Power.power_ones_add d h a k k)

  one_more : (k : ℕ) → product d (spreadings d 1 (power d a (2 ^ k - 1))) a ≡ power d a (2 ^ (k + 1) - 1)
  one_more k =
      ap₂ (product d) (spreadings_squarings d 1 (power d a (2 ^ k - 1))) (sym (Power.power_one d h a ha))
      ∙ sym (Power.power_ones_add d h a k 1)

  turn_ones : (k x : ℕ) → x < 2 → chain_turn d a (2 * k + x) (power d a (2 ^ k - 1)) ≡ power d a (2 ^ (2 * k + x) - 1)
  unfolding chain_turn
  turn_ones k =
      bit_cases (λ x. chain_turn d a (2 * k + x) (power d a (2 ^ k - 1)) ≡ power d a (2 ^ (2 * k + x) - 1))
      (let e : (2 * k + 0) % 2 ≡ 0 = omega arith in
      let g : (2 * k + 0) / 2 ≡ k = omega arith in
      let n : k + k ≡ 2 * k + 0 = omega arith in
      rw (e, g) (doubled k ∙ ap (λ j. power d a (2 ^ j - 1)) n))
      (let e : (2 * k + 1) % 2 ≡ 1 = omega arith in
      let g : (2 * k + 1) / 2 ≡ k = omega arith in
      let n : k + k + 1 ≡ 2 * k + 1 = omega arith in
      rw (e, g) (ap (λ y. product d (spreadings d 1 y) a) (doubled k) ∙ one_more (k + k) ∙ ap (λ j. power d a (2 ^ j - 1)) n))

  chain_zero : chain d a 0 ≡ 1
  unfolding chain digits digits_to
  chain_zero = refl

  chain_ones : (k : ℕ) → chain d a k ≡ power d a (2 ^ k - 1)
  unfolding chain
  chain_ones =
      bin_ind (λ k. chain d a k ≡ power d a (2 ^ k - 1)) (chain_zero ∙ sym (Power.power_zero d a))
      (λ k ih. let e : 2 * (k / 2) + k % 2 ≡ k = omega arith in
      digits_step 1 (chain_turn d a) turn_zero k ∙ ap (chain_turn d a k) ih ∙ (rw e at (turn_ones (k / 2) (k % 2) (bit_lt k))))

  pub chain_is_power : chain_inverse d a ≡ power d a (2 ^ d - 2)
  unfolding chain_inverse
  chain_is_power =
      spreadings_squarings d 1 (chain d a (d - 1)) ∙ Power.squarings_suc d 0 (chain d a (d - 1))
      ∙ ap (square d) (Power.squarings_zero d (chain d a (d - 1)) ∙ chain_ones (d - 1)) ∙ sym (Power.ones_squared d h a)
