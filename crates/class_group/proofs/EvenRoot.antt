-- The square root of a polynomial without odd powers, made monic by a constant.
-- `even_nonzero`: a polynomial that is `Even` is not 0.
-- `even_root`: its multiple by c is the square of a monic polynomial.
use Prim.Native.Nat.{ℕ, suc, ◌+◌}
use mathlib.Core.Path.{◌≡◌, sym, ◌∙◌, ap}
use Rattle.field_laws.specs.Field.{Field2}
use Rattle.char2_algebra.specs.Polynomials.{Polynomials}
use Rattle.char2_algebra.specs.Lead.{Monic}
use Rattle.char2_algebra.specs.Square.{sqrt}
use Rattle.char2_algebra.proofs.Ring.{·_𝟘, 𝟘_·}
use Rattle.char2_algebra.proofs.Degree.{len_bound, len_is, coeff_zero}
use Rattle.char2_algebra.proofs.Product.{len_con_mul}
use Rattle.char2_algebra.proofs.Lead.{lead_is}
use Rattle.char2_algebra.proofs.Square.{sqrt_square, len_sqrt_is, sqrt_monic}
use Rattle.class_group.proofs.Rows.{Even}

module _ {K P : Type 0} {F : Field2 K} (A : Polynomials F P) where
  open A use {ring, coeff, con, len}
  open F.ring use {mul as ◌·ₖ◌, zero as 𝟘ₖ, one as 𝟙ₖ}

  infixl 70 ◌·ₖ◌
  -- a is monic of degree m, and a² = c p
  pub record MonicRoot (c : K) (m : ℕ) (p a : P) : Type 0 where
    pub factor : ¬ (c ≡ 𝟘ₖ)
    pub square : ring.mul a a ≡ ring.mul (con c) p
    pub monic : Monic A a
    pub length : len a ≡ suc m

  even_top : (c : K) (m : ℕ) (p : P) → Even A c m p → ¬ (coeff p (m + m) ≡ 𝟘ₖ)
  even_top c m p e z = F.one≢zero (sym e.top ∙ ap (λ y. c ·ₖ y) z ∙ ·_𝟘 F.ring c)

  pub even_nonzero : {c : K} {m : ℕ} {p : P} → Even A c m p → ¬ (p ≡ ring.zero)
  even_nonzero {c} {m} {p} e z = even_top c m p e (ap (λ y. coeff y (m + m)) z ∙ coeff_zero A (m + m))

  pub even_root : (c : K) (m : ℕ) (p : P) → Even A c m p → MonicRoot c m p (sqrt A (ring.mul (con c) p))
  even_root c m p e =
      record { factor = c≢; square = sqrt_square A cp odd; monic = sqrt_monic A cp odd monic; length = len_sqrt_is A cp odd m cp_len }
    where
      cp : P
      cp = ring.mul (con c) p

      c≢ : ¬ (c ≡ 𝟘ₖ)
      c≢ z = F.one≢zero (sym e.top ∙ ap (λ y. y ·ₖ coeff p (m + m)) z ∙ 𝟘_· F.ring _)

      odd : (i : ℕ) → coeff cp (suc (i + i)) ≡ 𝟘ₖ
      odd i = A.coeff_con_mul c p _ ∙ ap (λ y. c ·ₖ y) (e.odd i) ∙ ·_𝟘 F.ring c

      p_len : len p ≡ suc (m + m)
      p_len = len_is A p (m + m) (len_bound A p (suc (m + m)) (λ i h. e.past i h)) (even_top c m p e)

      cp_len : len cp ≡ suc (m + m)
      cp_len = len_con_mul A c p c≢ ∙ p_len

      monic : Monic A cp
      monic = lead_is A cp (m + m) cp_len ∙ A.coeff_con_mul c p (m + m) ∙ e.top
