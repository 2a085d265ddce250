-- Squares of polynomials, and square roots of polynomials without odd powers.
-- `coeff_square_even`, `coeff_square_odd`: the even coefficients of a square are squares, the odd ones are zero.
-- `field_square_injective`: an element has one square root. `root_zero`: that of zero is zero.
-- `sqrt_square`: a polynomial without odd powers is the square of its `sqrt`.
-- `len_sqrt`, `len_sqrt_is`, `sqrt_monic`: the root has half the degree, and is monic if the polynomial is.
use Prim.Native.Nat.{ℕ, zero, suc, ◌+◌, ◌≤◌}
use mathlib.Core.Path.{◌≡◌, sym, ◌∙◌, ap, ap₂, fun_ext}
use native.Mathlib.Omega.{arith}
use Rattle.field_laws.specs.{Ring.Ring2, Field.Field2}
use Rattle.char2_algebra.specs.{Polynomials.Polynomials, Lead.lead, Lead.Monic, Square.tail, Square.sqrt_to, Square.sqrt}
use Rattle.char2_algebra.proofs.{Ring.ring2, Ring.𝟘_⊞, Ring.·_𝟙, Ring.·_𝟘, Ring.square_⊞, Ring.eq_of_sum, Ring.sum_of_eq, Lead.lead_mul}
use Rattle.char2_algebra.proofs.Degree.{split, coeff_tail, len_tail, len_zero, con_mul, con_of_zero, coeff_con_add_x_mul, coeff_con_add_x_mul_suc, nonzero_of_len}
use Rattle.char2_algebra.proofs.Product.{field_integral, left_nonzero, len_square}

square_of_split : {A : Type 0} (R : Ring2 A) (c x p : A) → R.mul (R.add c (R.mul x p)) (R.add c (R.mul x p)) ≡ R.add (R.mul c c) (R.mul x (R.mul x (R.mul p p)))
square_of_split R c x p = simp (ring2, R)

module _ {K : Type 0} (F : Field2 K) where
  open F.ring use {add as ◌⊞ₖ◌, mul as ◌·ₖ◌, zero as 𝟘ₖ, one as 𝟙ₖ}

  infixl 60 ◌⊞ₖ◌
  infixl 70 ◌·ₖ◌
  -- c₀², 0, c₁², 0, ..
  abbrev pub squares : (ℕ → K) → ℕ → K
  squares c zero = c 0 ·ₖ c 0
  squares c (suc zero) = 𝟘ₖ
  squares c (suc (suc i)) = squares (λ j. c (suc j)) i

  pub field_square_injective : (a b : K) → a ·ₖ a ≡ b ·ₖ b → a ≡ b
  field_square_injective a b e = eq_of_sum F.ring a b (go (F.discrete (a ⊞ₖ b) 𝟘ₖ))
    where
      go : Dec (a ⊞ₖ b ≡ 𝟘ₖ) → a ⊞ₖ b ≡ 𝟘ₖ
      go (yes h) = h
      go (no h) = field_integral F (a ⊞ₖ b) (a ⊞ₖ b) h (square_⊞ F.ring a b ∙ sum_of_eq F.ring (a ·ₖ a) (b ·ₖ b) e)

  pub root_zero : F.root 𝟘ₖ ≡ 𝟘ₖ
  root_zero = field_square_injective (F.root 𝟘ₖ) 𝟘ₖ (F.root_square 𝟘ₖ ∙ sym (·_𝟘 F.ring 𝟘ₖ))

module _ {K P : Type 0} {F : Field2 K} (A : Polynomials F P) where
  open A use {ring as R, coeff, con, x, len}
  open A.ring use {add as ◌⊞◌, mul as ◌·◌, zero as 𝟘, one as 𝟙}
  open F.ring use {add as ◌⊞ₖ◌, mul as ◌·ₖ◌, zero as 𝟘ₖ, one as 𝟙ₖ}

  infixl 60 ◌⊞◌
  infixl 70 ◌·◌
  infixl 60 ◌⊞ₖ◌
  infixl 70 ◌·ₖ◌
  split_square : (p : P) → p · p ≡ con (coeff p 0 ·ₖ coeff p 0) ⊞ x · (x · (tail A p · tail A p))
  split_square p =
      ap (λ z. z · z) (split A p) ∙ square_of_split R (con (coeff p 0)) x (tail A p) ∙ ap (λ z. z ⊞ x · (x · (tail A p · tail A p))) (sym (con_mul A (coeff p 0) (coeff p 0)))

  pub coeff_square_even : (i : ℕ) (p : P) → coeff (p · p) (i + i) ≡ coeff p i ·ₖ coeff p i
  coeff_square_even zero p = ap (λ z. coeff z 0) (split_square p) ∙ coeff_con_add_x_mul A _ _
  coeff_square_even (suc i) p =
      ap₂ coeff (split_square p) (omega arith)
      ∙ coeff_con_add_x_mul_suc A _ _ (suc (i + i))
      ∙ A.coeff_x_mul_suc _ (i + i)
      ∙ coeff_square_even i (tail A p)
      ∙ ap₂ ◌·ₖ◌ (coeff_tail A p i) (coeff_tail A p i)

  pub coeff_square_odd : (i : ℕ) (p : P) → coeff (p · p) (suc (i + i)) ≡ 𝟘ₖ
  coeff_square_odd zero p = ap (λ z. coeff z 1) (split_square p) ∙ coeff_con_add_x_mul_suc A _ _ 0 ∙ A.coeff_x_mul _
  coeff_square_odd (suc i) p =
      ap₂ coeff (split_square p) (omega arith)
      ∙ coeff_con_add_x_mul_suc A _ _ (suc (suc (i + i)))
      ∙ A.coeff_x_mul_suc _ (suc (i + i))
      ∙ coeff_square_odd i (tail A p)

  -- both in one rule that computes at numerals, for `simp` with `coefficients`
  pub at_square : (i : ℕ) (p : P) → coeff (p · p) i ≡ squares F (coeff p) i
  at_square zero p = coeff_square_even 0 p
  at_square (suc zero) p = coeff_square_odd 0 p
  at_square (suc (suc i)) p =
      ap (λ z. coeff z (suc (suc i))) (split_square p)
      ∙ coeff_con_add_x_mul_suc A _ _ (suc i)
      ∙ A.coeff_x_mul_suc _ i
      ∙ at_square i (tail A p)
      ∙ ap (λ c. squares F c i) (fun_ext (coeff_tail A p))

  even_tails : (p : P) → coeff p 1 ≡ 𝟘ₖ → p ≡ con (coeff p 0) ⊞ x · (x · tail A (tail A p))
  even_tails p e =
      split A p
      ∙ ap
      (λ z. con (coeff p 0) ⊞ x · z)
      (split A (tail A p)
      ∙ ap (λ z. z ⊞ x · tail A (tail A p)) (ap con (coeff_tail A p 0 ∙ e) ∙ con_of_zero A)
      ∙ 𝟘_⊞ R (x · tail A (tail A p)))

  sqrt_to_square : (n : ℕ) (p : P) → len p ≤ n + n → ((i : ℕ) → coeff p (suc (i + i)) ≡ 𝟘ₖ) → sqrt_to A n p · sqrt_to A n p ≡ p
  unfolding sqrt_to
  sqrt_to_square zero p h odd = ·_𝟘 R 𝟘 ∙ sym (len_zero A p (omega arith))
  sqrt_to_square (suc n) p h odd =
      square_of_split R (con (F.root (coeff p 0))) x (sqrt_to A n (tail A (tail A p)))
      ∙ ap₂
      (λ y z. y ⊞ x · (x · z))
      (sym (con_mul A (F.root (coeff p 0)) (F.root (coeff p 0))) ∙ ap con (F.root_square (coeff p 0)))
      (sqrt_to_square n (tail A (tail A p)) (len_tail A (tail A p) (n + n) (len_tail A p (suc (n + n)) (omega arith))) (λ i. coeff_tail A (tail A p) (suc (i + i)) ∙ coeff_tail A p (suc (suc (i + i))) ∙ ap (coeff p) (omega arith) ∙ odd (suc i)))
      ∙ sym (even_tails p (odd 0))

  module _ (p : P) (odd : (i : ℕ) → coeff p (suc (i + i)) ≡ 𝟘ₖ) where
    pub sqrt_square : sqrt A p · sqrt A p ≡ p
    unfolding sqrt
    sqrt_square = sqrt_to_square (len p) p (omega arith) odd

    pub sqrt_nonzero : ¬ (p ≡ 𝟘) → ¬ (sqrt A p ≡ 𝟘)
    sqrt_nonzero h = left_nonzero A (sqrt A p) (sqrt A p) (λ e. h (sym sqrt_square ∙ e))

    pub len_sqrt : ¬ (p ≡ 𝟘) → suc (len p) ≡ len (sqrt A p) + len (sqrt A p)
    len_sqrt h = ap (λ z. suc (len z)) (sym sqrt_square) ∙ len_square A (sqrt A p) (sqrt_nonzero h)

    pub len_sqrt_is : (m : ℕ) → len p ≡ suc (m + m) → len (sqrt A p) ≡ suc m
    len_sqrt_is m e = let l : suc (len p) ≡ len (sqrt A p) + len (sqrt A p) = len_sqrt (nonzero_of_len A p (omega arith)) in omega arith

    pub sqrt_monic : Monic A p → Monic A (sqrt A p)
    sqrt_monic m = field_square_injective F (lead A (sqrt A p)) 𝟙ₖ (sym (lead_mul A (sqrt A p) (sqrt A p)) ∙ ap (lead A) sqrt_square ∙ m ∙ sym (·_𝟙 F.ring 𝟙ₖ))
