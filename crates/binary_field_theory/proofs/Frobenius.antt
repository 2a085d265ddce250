-- Squaring and square roots, where squaring t d times gives t.
-- `frobenius`: squaring an element d times gives the element.
-- `square_root`, `root_square`: square and root undo each other.
-- `square_injective`: elements with the same square are equal.
-- `root_lt`: the root of an element is an element.
use Prim.Native.Nat.{ℕ, suc, ◌-◌, ◌*◌, ◌/◌, ◌%◌, ◌^◌, ◌<◌}
use mathlib.Core.Path.{◌≡◌, sym, ap, ap₂, ◌∙◌}
use native.Mathlib.{Numerals.add-one, Omega.arith}
use lib.Arith.{bin_ind}
use Rattle.binary_field_theory.specs.{Carryless.◌⊕◌, Element.low, Element.product, Element.square, Element.squarings, Element.root}
use Rattle.binary_field_theory.proofs.{Sums.bit_cases, Sums.bit_lt, Clmul.digit_split, Linear.additive_zero, Remainder.remainder_small}
use Rattle.binary_field_theory.proofs.Products
use Rattle.binary_field_theory.proofs.Power

module _ (d : ℕ) (h : low d < 2 ^ d) (fixed : squarings d d 2 ≡ 2) where
  fixed_bit : (x : ℕ) → x < 2 → squarings d d x ≡ x
  fixed_bit = bit_cases (λ x. squarings d d x ≡ x) (additive_zero (squarings d d) (Power.squarings_sum d h d)) (Power.squarings_one d h d)

  -- t times an element of degree below d - 1
  fixed_double : (a : ℕ) → 2 * a < 2 ^ d → squarings d d a ≡ a → squarings d d (2 * a) ≡ 2 * a
  fixed_double a ha e =
      ap (squarings d d) (sym twice) ∙ Power.squarings_product d h d 2 a ∙ ap₂ (product d) fixed e ∙ twice
    where
      twice : product d 2 a ≡ 2 * a
      twice = Products.two_product d h a ∙ remainder_small d (low d) h (2 * a) ha

  pub frobenius : (a : ℕ) → a < 2 ^ d → squarings d d a ≡ a
  frobenius =
      bin_ind (λ n. n < 2 ^ d → squarings d d n ≡ n) (λ hn. fixed_bit 0 (omega arith))
      (λ n ih hn.
      ap (squarings d d) (digit_split n) ∙ Power.squarings_sum d h d (2 * (n / 2)) (n % 2)
      ∙ ap₂ ◌⊕◌ (fixed_double (n / 2) (omega arith) (ih (omega arith))) (fixed_bit (n % 2) (bit_lt n))
      ∙ sym (digit_split n))

  d_suc : suc (d - 1) ≡ d
  d_suc = omega (arith, Products.degree_pos d h)

  pub square_root : (a : ℕ) → a < 2 ^ d → square d (root d a) ≡ a
  unfolding root
  square_root a ha = sym (Power.squarings_suc d (d - 1) a) ∙ ap (λ k. squarings d k a) d_suc ∙ frobenius a ha

  pub root_square : (a : ℕ) → a < 2 ^ d → root d (square d a) ≡ a
  unfolding root
  root_square a ha =
      ap (squarings d (d - 1)) (sym (Power.squarings_suc d 0 a ∙ ap (square d) (Power.squarings_zero d a)))
      ∙ sym (Power.squarings_add d (d - 1) 1 a) ∙ ap (λ k. squarings d k a) (add-one (d - 1) ∙ d_suc) ∙ frobenius a ha

  pub square_injective : (a b : ℕ) → a < 2 ^ d → b < 2 ^ d → square d a ≡ square d b → a ≡ b
  square_injective a b ha hb e = sym (root_square a ha) ∙ ap (root d) e ∙ root_square b hb

  pub root_lt : (a : ℕ) → a < 2 ^ d → root d a < 2 ^ d
  unfolding root
  root_lt = Power.squarings_lt d h (d - 1)
