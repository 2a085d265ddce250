-- Inverses of elements other than 0, for a certified degree.
-- The power 2^d - 1 of a is its own square, hence 0 or 1, and times a it is a.
-- `product_inverse`: an element other than 0 times its inverse is 1.
-- `product_cancel`: a product of elements is 0 only if a factor is 0.
-- `one_inverse`: no other element times a is 1.
use Prim.Native.Nat.{ℕ, suc, ◌+◌, ◌-◌, ◌^◌, ◌<◌}
use mathlib.Core.Path.{◌≡◌, refl, sym, ap, ap₂, ◌∙◌}
use native.Mathlib.Omega.{arith}
use Rattle.binary_field_theory.specs.{Carryless.◌⊕◌, Element.product, Element.square, Element.power, Element.inverse, Element.OneInverse}
use Rattle.binary_field_theory.proofs.{Sums.bit_cases, Sums.sum_cancel, Sums.sum_lt, Sums.sum_self, Certificate.Certified, Certificate.idempotent_lt}
use Rattle.binary_field_theory.proofs.Products
use Rattle.binary_field_theory.proofs.Power
use Rattle.binary_field_theory.proofs.Frobenius

module _ (d : ℕ) (c : Certified d) (a : ℕ) (ha : a < 2 ^ d) where
  pub power_degree : power d a (2 ^ d) ≡ a
  power_degree = Power.power_pow d c.fits a d ha ∙ Frobenius.frobenius d c.fits c.fixed a ha

  -- a times its power 2^d - 2 is the power 2^d - 1
  product_ones : product d a (power d a (2 ^ d - 2)) ≡ power d a (2 ^ d - 1)
  product_ones =
      let e : suc (2 ^ d - 2) ≡ 2 ^ d - 1 = omega (arith, Products.one_lt d c.fits) in
      sym (Power.power_suc d c.fits a (2 ^ d - 2)) ∙ ap (power d a) e

  ones_product : product d a (power d a (2 ^ d - 1)) ≡ a
  ones_product =
      let e : suc (2 ^ d - 1) ≡ 2 ^ d = omega (arith, Products.one_lt d c.fits) in
      sym (Power.power_suc d c.fits a (2 ^ d - 1)) ∙ ap (power d a) e ∙ power_degree

  ones_idempotent : square d (power d a (2 ^ d - 1)) ≡ power d a (2 ^ d - 1)
  unfolding square
  ones_idempotent =
      let e : 2 ^ d - 1 + (2 ^ d - 1) ≡ 2 ^ d + (2 ^ d - 2) = omega (arith, Products.one_lt d c.fits) in
      sym (Power.power_add d c.fits a (2 ^ d - 1) (2 ^ d - 1)) ∙ ap (power d a) e
      ∙ Power.power_add d c.fits a (2 ^ d) (2 ^ d - 2) ∙ ap (λ x. product d x (power d a (2 ^ d - 2))) power_degree ∙ product_ones

  ones_one : ¬ (a ≡ 0) → (x : ℕ) → x < 2 → power d a (2 ^ d - 1) ≡ x → x ≡ 1
  ones_one ne =
      bit_cases (λ x. power d a (2 ^ d - 1) ≡ x → x ≡ 1)
      (λ e. absurd (ne (sym ones_product ∙ ap (product d a) e ∙ Products.product_zero d a))) (λ e. refl)

  pub product_inverse : (ne : ¬ (a ≡ 0)) → product d a (inverse d a ne) ≡ 1
  product_inverse ne =
      product_ones
      ∙ ones_one ne (power d a (2 ^ d - 1))
      (idempotent_lt d c (power d a (2 ^ d - 1)) (Power.power_lt d c.fits a (2 ^ d - 1)) ones_idempotent) refl

module _ (d : ℕ) (c : Certified d) where
  pub product_cancel : (a b : ℕ) → a < 2 ^ d → b < 2 ^ d → product d a b ≡ 0 → ¬ (a ≡ 0) → b ≡ 0
  product_cancel a b ha hb e ne =
      sym (Products.one_product d c.fits b hb) ∙ ap (λ x. product d x b) (sym (product_inverse d c a ha ne))
      ∙ ap (λ x. product d x b) (Products.product_comm d a (inverse d a ne))
      ∙ Products.product_assoc d c.fits (inverse d a ne) a b ∙ ap (product d (inverse d a ne)) e ∙ Products.product_zero d (inverse d a ne)

  -- where a x and a b are 1, a (x + b) is 0
  pub one_inverse : (a : ℕ) → a < 2 ^ d → (ne : ¬ (a ≡ 0)) → OneInverse d a (inverse d a ne)
  one_inverse a ha ne =
      let b = inverse d a ne in
      let b_lt : b < 2 ^ d = Power.power_lt d c.fits a (2 ^ d - 2) in
      let b_inverts : product d a b ≡ 1 = product_inverse d c a ha ne in
      record {
        below = b_lt;
        inverts = b_inverts;
        only = λ x hx e. sum_cancel x b (product_cancel a (x ⊕ b) ha (sum_lt d x b hx b_lt) (Products.product_sum d c.fits a x b ∙ ap₂ ◌⊕◌ e b_inverts ∙ sum_self 1) ne);
      }
