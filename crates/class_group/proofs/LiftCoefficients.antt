-- The coefficients of w + k + k² u, the third polynomial of a lift by k = k2 x² + k1 x + k0.
use Prim.Native.Nat.{ℕ, suc}
use mathlib.Core.Path.{◌≡◌, sym, ◌∙◌, ap, ap₂}
use Rattle.field_laws.specs.Ring.{Ring2}
use Rattle.field_laws.specs.Field.{Field2}
use Rattle.char2_algebra.specs.Polynomials.{Polynomials}
use Rattle.char2_algebra.proofs.Ring.{ring2, ⊞_𝟘, 𝟘_⊞}
use Rattle.class_group.specs.Half.{quadratic}

module _ {B : Type 0} (R : Ring2 B) where
  open R use {add as ◌⊞◌, mul as ◌·◌, one as 𝟙}

  infixl 60 ◌⊞◌
  infixl 70 ◌·◌
  square_identity :
      (x c0 c1 c2 u : B)
      → (c0 ⊞ x · (c1 ⊞ x · c2)) · (c0 ⊞ x · (c1 ⊞ x · c2)) · u
      ≡ c0 · c0 · u ⊞ x · (x · (c1 · c1 · u ⊞ x · (x · (c2 · c2 · u))))
  square_identity x c0 c1 c2 u = simp (ring2, R)

module _ {K P : Type 0} {F : Field2 K} (A : Polynomials F P) where
  open A use {ring, coeff, con, x}
  open ring use {add as ◌⊞◌, mul as ◌·◌}
  open F.ring use {add as ◌⊞ₖ◌, mul as ◌·ₖ◌, zero as 𝟘ₖ}

  infixl 60 ◌⊞◌
  infixl 70 ◌·◌
  infixl 60 ◌⊞ₖ◌
  infixl 70 ◌·ₖ◌
  coeff_con_mul2 : (a b : K) (p : P) (i : ℕ) → coeff (con a · con b · p) i ≡ a ·ₖ b ·ₖ coeff p i
  coeff_con_mul2 a b p i =
      ap (λ z. coeff z i) (ring.mul_assoc (con a) (con b) p)
      ∙ A.coeff_con_mul a (con b · p) i
      ∙ ap (λ z. a ·ₖ z) (A.coeff_con_mul b p i)
      ∙ sym (F.ring.mul_assoc a b (coeff p i))

  module _ (k2 k1 k0 : K) (u w : P) where
    abbrev pub lifted : P
    lifted = w ⊞ quadratic A k2 k1 k0 ⊞ quadratic A k2 k1 k0 · quadratic A k2 k1 k0 · u

    inner2 : P
    inner2 = x · (x · (con k2 · con k2 · u))

    inner1 : P
    inner1 = con k1 · con k1 · u ⊞ inner2

    k_square : quadratic A k2 k1 k0 · quadratic A k2 k1 k0 · u ≡ con k0 · con k0 · u ⊞ x · (x · inner1)
    unfolding quadratic inner1 inner2
    k_square = square_identity ring x (con k0) (con k1) (con k2) u

    lifted_coeff : (n : ℕ) → coeff lifted n ≡ coeff w n ⊞ₖ coeff (quadratic A k2 k1 k0) n ⊞ₖ (k0 ·ₖ k0 ·ₖ coeff u n ⊞ₖ coeff (x · (x · inner1)) n)
    lifted_coeff n =
        A.coeff_add _ _ n
        ∙ ap₂ ◌⊞ₖ◌ (A.coeff_add _ _ n) (ap (λ z. coeff z n) k_square ∙ A.coeff_add _ _ n ∙ ap (λ z. z ⊞ₖ coeff (x · (x · inner1)) n) (coeff_con_mul2 k0 k0 u n))

    xx_suc : (p : P) (n : ℕ) → coeff (x · (x · p)) (suc (suc n)) ≡ coeff p n
    xx_suc p n = A.coeff_x_mul_suc (x · p) (suc n) ∙ A.coeff_x_mul_suc p n

    xx_one : (p : P) → coeff (x · (x · p)) 1 ≡ 𝟘ₖ
    xx_one p = A.coeff_x_mul_suc (x · p) 0 ∙ A.coeff_x_mul p

    quadratic_one : coeff (quadratic A k2 k1 k0) 1 ≡ k1
    unfolding quadratic
    quadratic_one =
        A.coeff_add _ _ 1
        ∙ ap₂ ◌⊞ₖ◌ (A.coeff_con_suc k0 0) (A.coeff_x_mul_suc _ 0 ∙ A.coeff_add _ _ 0 ∙ ap₂ ◌⊞ₖ◌ (A.coeff_con k1) (A.coeff_x_mul (con k2)))
        ∙ 𝟘_⊞ F.ring _
        ∙ ⊞_𝟘 F.ring k1

    quadratic_past : (n : ℕ) → coeff (quadratic A k2 k1 k0) (suc (suc (suc n))) ≡ 𝟘ₖ
    unfolding quadratic
    quadratic_past n =
        A.coeff_add _ _ (suc (suc (suc n)))
        ∙ ap₂
        ◌⊞ₖ◌
        (A.coeff_con_suc k0 (suc (suc n)))
        (A.coeff_x_mul_suc _ (suc (suc n))
        ∙ A.coeff_add _ _ (suc (suc n))
        ∙ ap₂ ◌⊞ₖ◌ (A.coeff_con_suc k1 (suc n)) (A.coeff_x_mul_suc (con k2) (suc n) ∙ A.coeff_con_suc k2 n))
        ∙ 𝟘_⊞ F.ring _
        ∙ 𝟘_⊞ F.ring 𝟘ₖ

    pub lifted_one : coeff lifted 1 ≡ coeff w 1 ⊞ₖ k1 ⊞ₖ k0 ·ₖ k0 ·ₖ coeff u 1
    lifted_one =
        lifted_coeff 1
        ∙ ap₂ ◌⊞ₖ◌ (ap (λ z. coeff w 1 ⊞ₖ z) quadratic_one) (ap (λ z. k0 ·ₖ k0 ·ₖ coeff u 1 ⊞ₖ z) (xx_one inner1) ∙ ⊞_𝟘 F.ring _)

    pub lifted_three : coeff lifted 3 ≡ coeff w 3 ⊞ₖ (k0 ·ₖ k0 ·ₖ coeff u 3 ⊞ₖ k1 ·ₖ k1 ·ₖ coeff u 1)
    unfolding inner1 inner2
    lifted_three =
        lifted_coeff 3
        ∙ ap₂
        ◌⊞ₖ◌
        (ap (λ z. coeff w 3 ⊞ₖ z) (quadratic_past 0) ∙ ⊞_𝟘 F.ring _)
        (ap
        (λ z. k0 ·ₖ k0 ·ₖ coeff u 3 ⊞ₖ z)
        (xx_suc inner1 1 ∙ A.coeff_add _ _ 1 ∙ ap₂ ◌⊞ₖ◌ (coeff_con_mul2 k1 k1 u 1) (xx_one _) ∙ ⊞_𝟘 F.ring _))

    pub lifted_past :
        (n : ℕ)
        → coeff lifted (suc (suc (suc (suc n))))
        ≡ coeff w (suc (suc (suc (suc n))))
        ⊞ₖ (k0 ·ₖ k0 ·ₖ coeff u (suc (suc (suc (suc n)))) ⊞ₖ (k1 ·ₖ k1 ·ₖ coeff u (suc (suc n)) ⊞ₖ k2 ·ₖ k2 ·ₖ coeff u n))
    unfolding inner1 inner2
    lifted_past n =
        lifted_coeff (suc (suc (suc (suc n))))
        ∙ ap₂
        ◌⊞ₖ◌
        (ap (λ z. coeff w (suc (suc (suc (suc n)))) ⊞ₖ z) (quadratic_past (suc n)) ∙ ⊞_𝟘 F.ring _)
        (ap
        (λ z. k0 ·ₖ k0 ·ₖ coeff u (suc (suc (suc (suc n)))) ⊞ₖ z)
        (xx_suc inner1 (suc (suc n))
        ∙ A.coeff_add _ _ (suc (suc n))
        ∙ ap₂ ◌⊞ₖ◌ (coeff_con_mul2 k1 k1 u (suc (suc n))) (xx_suc _ n ∙ coeff_con_mul2 k2 k2 u n)))
