-- Products of polynomials.
-- `field_integral`, `inverse_only`: a field has no zero divisors, and inverses are unique.
-- `coeff_mul_zero`, `coeff_mul_suc`, `coeff_mul_top`: the lowest, the other and the highest coefficients of a product.
-- `len_mul`, `len_mul_le`, `len_square`, `len_con_mul`: the length of a product.
-- `mul_nonzero`, `integral`: polynomials have no zero divisors.
-- `cancel_left`, `cancel_right`: a factor that is not 0 may be cancelled.
use Prim.Native.Nat.{ℕ, zero, suc, ◌+◌, ◌≤◌, ◌<◌}
use mathlib.Core.Path.{◌≡◌, refl, sym, ◌∙◌, ap, ap₂}
use native.Mathlib.Omega.{arith}
use Rattle.field_laws.specs.{Field.Field2, Division.inverse_of}
use Rattle.char2_algebra.specs.{Polynomials.Polynomials, Square.tail}
use Rattle.char2_algebra.proofs.Ring.{⊞_𝟘, 𝟘_⊞, ⊞_self, ⊞_·, ·_⊞, ·_comm, ·_assoc, ·_𝟙, 𝟙_·, ·_𝟘, 𝟘_·, eq_of_sum, sum_of_eq}
use Rattle.char2_algebra.proofs.Degree.{len_bound, len_zero, len_is, len_nonzero, len_of_zero, nonzero_of_len, con_of_len, split, len_tail, coeff_tail, is_zero, con_nonzero, len_con}

-- the field alone
module _ {K : Type 0} (F : Field2 K) where
  open F.ring use {mul as ◌·ₖ◌, zero as 𝟘ₖ, one as 𝟙ₖ}

  infixl 70 ◌·ₖ◌
  pub field_integral : (a b : K) → ¬ (a ≡ 𝟘ₖ) → a ·ₖ b ≡ 𝟘ₖ → b ≡ 𝟘ₖ
  field_integral a b h e =
      sym (𝟙_· F.ring b)
      ∙ ap (λ z. z ·ₖ b) (sym (F.mul_inverse a h) ∙ ·_comm F.ring a (F.inverse a))
      ∙ ·_assoc F.ring (F.inverse a) a b
      ∙ ap (λ z. F.inverse a ·ₖ z) e
      ∙ ·_𝟘 F.ring (F.inverse a)

  pub inverse_only : (a b : K) (h : ¬ (a ≡ 𝟘ₖ)) → a ·ₖ b ≡ 𝟙ₖ → b ≡ inverse_of F a h
  inverse_only a b h e =
      sym (·_𝟙 F.ring b)
      ∙ ap (λ z. b ·ₖ z) (sym (F.mul_inverse a h))
      ∙ sym (·_assoc F.ring b a (F.inverse a))
      ∙ ap (λ z. z ·ₖ F.inverse a) (·_comm F.ring b a ∙ e)
      ∙ 𝟙_· F.ring (F.inverse a)

module _ {K P : Type 0} {F : Field2 K} (A : Polynomials F P) where
  open A use {ring as R, coeff, con, x, len}
  open A.ring use {add as ◌⊞◌, mul as ◌·◌, zero as 𝟘, one as 𝟙}
  open F.ring use {add as ◌⊞ₖ◌, mul as ◌·ₖ◌, zero as 𝟘ₖ}

  infixl 60 ◌⊞◌
  infixl 70 ◌·◌
  infixl 60 ◌⊞ₖ◌
  infixl 70 ◌·ₖ◌
  pub coeff_mul_zero : (p q : P) → coeff (p · q) 0 ≡ coeff p 0 ·ₖ coeff q 0
  coeff_mul_zero p q =
      ap (λ z. coeff z 0) (ap (λ z. z · q) (split A p) ∙ ⊞_· R (con (coeff p 0)) (x · tail A p) q ∙ ap (λ z. con (coeff p 0) · q ⊞ z) (·_assoc R x (tail A p) q))
      ∙ A.coeff_add _ _ 0
      ∙ ap₂ ◌⊞ₖ◌ (A.coeff_con_mul (coeff p 0) q 0) (A.coeff_x_mul (tail A p · q))
      ∙ ⊞_𝟘 F.ring _

  pub coeff_mul_suc : (p q : P) (i : ℕ) → coeff (p · q) (suc i) ≡ coeff p 0 ·ₖ coeff q (suc i) ⊞ₖ coeff (tail A p · q) i
  coeff_mul_suc p q i =
      ap (λ z. coeff z (suc i)) (ap (λ z. z · q) (split A p) ∙ ⊞_· R (con (coeff p 0)) (x · tail A p) q ∙ ap (λ z. con (coeff p 0) · q ⊞ z) (·_assoc R x (tail A p) q))
      ∙ A.coeff_add _ _ (suc i)
      ∙ ap₂ ◌⊞ₖ◌ (A.coeff_con_mul (coeff p 0) q (suc i)) (A.coeff_x_mul_suc (tail A p · q) i)

  pub len_mul_le : (m n : ℕ) (p q : P) → len p ≤ suc m → len q ≤ n → len (p · q) ≤ m + n
  len_mul_le zero n p q h k =
      len_bound A (p · q) (0 + n) (λ i l. ap (λ z. coeff (z · q) i) (con_of_len A p h) ∙ A.coeff_con_mul (coeff p 0) q i ∙ ap (λ z. coeff p 0 ·ₖ z) (A.len_past q i (omega arith)) ∙ ·_𝟘 F.ring _)
  len_mul_le (suc m) n p q h k = len_bound A (p · q) (suc m + n) (go (len_mul_le m n (tail A p) q (len_tail A p (suc m) h) k))
    where
      go : len (tail A p · q) ≤ m + n → (i : ℕ) → suc m + n ≤ i → coeff (p · q) i ≡ 𝟘ₖ
      go ih zero l = absurd (omega arith)
      go ih (suc i) l =
          coeff_mul_suc p q i
          ∙ ap₂ ◌⊞ₖ◌ (ap (λ z. coeff p 0 ·ₖ z) (A.len_past q (suc i) (omega arith)) ∙ ·_𝟘 F.ring _) (A.len_past (tail A p · q) i (omega arith))
          ∙ ⊞_self F.ring 𝟘ₖ

  pub coeff_mul_top : (m n : ℕ) (p q : P) → len p ≤ suc m → len q ≤ suc n → coeff (p · q) (m + n) ≡ coeff p m ·ₖ coeff q n
  coeff_mul_top zero n p q h k = ap₂ (λ z i. coeff (z · q) i) (con_of_len A p h) (omega arith) ∙ A.coeff_con_mul (coeff p 0) q n
  coeff_mul_top (suc m) n p q h k =
      ap (coeff (p · q)) (omega arith)
      ∙ coeff_mul_suc p q (m + n)
      ∙ ap₂ ◌⊞ₖ◌ (ap (λ z. coeff p 0 ·ₖ z) (A.len_past q (suc (m + n)) (omega arith)) ∙ ·_𝟘 F.ring _) (coeff_mul_top m n (tail A p) q (len_tail A p (suc m) h) k)
      ∙ 𝟘_⊞ F.ring _
      ∙ ap (λ z. z ·ₖ coeff q n) (coeff_tail A p m)

  pub len_mul : (p q : P) → ¬ (p ≡ 𝟘) → ¬ (q ≡ 𝟘) → suc (len (p · q)) ≡ len p + len q
  len_mul p q h k = go (len p) (len q) refl refl
    where
      go : (m n : ℕ) → len p ≡ m → len q ≡ n → suc (len (p · q)) ≡ len p + len q
      go zero n d e = absurd (h (len_zero A p d))
      go (suc m) zero d e = absurd (k (len_zero A q e))
      go (suc m) (suc n) d e =
          let b : len (p · q) ≤ m + suc n = len_mul_le m (suc n) p q (omega arith) (omega arith) in
          let l : len (p · q) ≡ suc (m + n) = len_is A (p · q) (m + n) (omega arith) (λ z. A.len_top q n e (field_integral F (coeff p m) (coeff q n) (A.len_top p m d) (sym (coeff_mul_top m n p q (omega arith) (omega arith)) ∙ z))) in
          omega arith

  pub mul_nonzero : (p q : P) → ¬ (p ≡ 𝟘) → ¬ (q ≡ 𝟘) → ¬ (p · q ≡ 𝟘)
  mul_nonzero p q h k e =
      let l : suc (len (p · q)) ≡ len p + len q = len_mul p q h k in
      let a : 0 < len p = len_nonzero A p h in
      let b : 0 < len q = len_nonzero A q k in
      nonzero_of_len A (p · q) (omega arith) e

  pub integral : (p q : P) → ¬ (p ≡ 𝟘) → p · q ≡ 𝟘 → q ≡ 𝟘
  integral p q h e = elim (is_zero A q) [ yes d ↦ d | no k ↦ absurd (mul_nonzero p q h k e) ]

  pub left_nonzero : (p q : P) → ¬ (p · q ≡ 𝟘) → ¬ (p ≡ 𝟘)
  left_nonzero p q h e = h (ap (λ z. z · q) e ∙ 𝟘_· R q)

  pub right_nonzero : (p q : P) → ¬ (p · q ≡ 𝟘) → ¬ (q ≡ 𝟘)
  right_nonzero p q h e = h (ap (λ z. p · z) e ∙ ·_𝟘 R p)

  pub cancel_left : (c p q : P) → ¬ (c ≡ 𝟘) → c · p ≡ c · q → p ≡ q
  cancel_left c p q h e = eq_of_sum R p q (integral c (p ⊞ q) h (·_⊞ R c p q ∙ sum_of_eq R (c · p) (c · q) e))

  pub cancel_right : (c p q : P) → ¬ (c ≡ 𝟘) → p · c ≡ q · c → p ≡ q
  cancel_right c p q h e = cancel_left c p q h (·_comm R c p ∙ e ∙ ·_comm R q c)

  pub square_nonzero : (p : P) → ¬ (p ≡ 𝟘) → ¬ (p · p ≡ 𝟘)
  square_nonzero p h = mul_nonzero p p h h

  pub square_zero : (p : P) → p · p ≡ 𝟘 → p ≡ 𝟘
  square_zero p e = elim (is_zero A p) [ yes d ↦ d | no h ↦ absurd (square_nonzero p h e) ]

  pub len_square : (p : P) → ¬ (p ≡ 𝟘) → suc (len (p · p)) ≡ len p + len p
  len_square p h = len_mul p p h h

  pub len_con_mul : (a : K) (p : P) → ¬ (a ≡ 𝟘ₖ) → len (con a · p) ≡ len p
  len_con_mul a p h = go (is_zero A p)
    where
      go : Dec (p ≡ 𝟘) → len (con a · p) ≡ len p
      go (yes e) = ap len (ap (λ z. con a · z) e ∙ ·_𝟘 R (con a) ∙ sym e)
      go (no k) =
          let l : suc (len (con a · p)) ≡ len (con a) + len p = len_mul (con a) p (con_nonzero A a h) k in
          let c : len (con a) ≡ 1 = len_con A a h in
          omega arith

  pub len_mul_monotone : (p q : P) → ¬ (q ≡ 𝟘) → len p ≤ len (p · q)
  len_mul_monotone p q k = go (is_zero A p)
    where
      go : Dec (p ≡ 𝟘) → len p ≤ len (p · q)
      go (yes e) = let l : len p ≡ 0 = ap len e ∙ len_of_zero A in omega arith
      go (no h) =
          let l : suc (len (p · q)) ≡ len p + len q = len_mul p q h k in
          let c : 0 < len q = len_nonzero A q k in
          omega arith
