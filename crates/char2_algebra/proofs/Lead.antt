-- Leading coefficients and monic polynomials.
-- `lead_mul`, `lead_add_less`, `lead_con`: the leading coefficient of a product, a sum and a constant.
-- `lead_nonzero`, `zero_of_lead`: it is zero only for the polynomial 0.
-- `monic_mul`, `monic_cofactor`: products and cofactors of monic polynomials are monic.
-- `monic_top`, `len_by_top`, `monic_by_top`: 1 at n and zero above is monic of length n + 1.
-- `monic_constant`: the only monic constant is 1.
-- `monic_of_factor`, `monic_of_monic`, `len_monic_of`: p is a constant times p made monic, which is monic and as long.
-- `monic_of_divides`, `divides_monic_of`: p and p made monic divide each other.
-- `monic_antisym`: monic polynomials that divide each other are equal.
-- `quot_monic`: the exact quotient of monic polynomials is monic.
use Prim.Native.Nat.{ℕ, zero, suc, ◌+◌, ◌≤◌, ◌<◌}
use mathlib.Core.Path.{◌≡◌, refl, sym, ◌∙◌, ap, ap₂}
use native.Mathlib.Omega.{arith}
use Rattle.field_laws.specs.{Field.Field2, Division.inverse_of}
use Rattle.char2_algebra.specs.{Polynomials.Polynomials, Divides.Divides, Lead.lead, Lead.Monic, Lead.monic_of}
use Rattle.char2_algebra.proofs.{Ring.𝟘_⊞, Ring.·_comm, Ring.·_assoc, Ring.·_𝟘, Ring.𝟘_·, Ring.·_𝟙, Ring.𝟙_·, Divides.divides_eq, Divides.divides_zero}
use Rattle.char2_algebra.proofs.Degree.{coeff_zero, len_bound, len_is, len_zero, len_nonzero, nonzero_of_len, len_add_less, len_one, len_con, con_mul, con_of_len, coeff_one, is_zero}
use Rattle.char2_algebra.proofs.{Product.len_mul, Product.coeff_mul_top, Product.len_con_mul, Product.inverse_only, Division.divides_len, Division.quot_exact}

module _ {K P : Type 0} {F : Field2 K} (A : Polynomials F P) where
  open A use {ring as R, coeff, con, x, len, quot, rem}
  open A.ring use {add as ◌⊞◌, mul as ◌·◌, zero as 𝟘, one as 𝟙}
  open F.ring use {add as ◌⊞ₖ◌, mul as ◌·ₖ◌, zero as 𝟘ₖ, one as 𝟙ₖ}

  infixl 60 ◌⊞◌
  infixl 70 ◌·◌
  infixl 60 ◌⊞ₖ◌
  infixl 70 ◌·ₖ◌
  pub lead_is : (p : P) (n : ℕ) → len p ≡ suc n → lead A p ≡ coeff p n
  unfolding lead
  lead_is p n e = ap (coeff p) (omega arith)

  pub lead_zero : lead A 𝟘 ≡ 𝟘ₖ
  unfolding lead
  lead_zero = coeff_zero A _

  pub lead_nonzero : (p : P) → ¬ (p ≡ 𝟘) → ¬ (lead A p ≡ 𝟘ₖ)
  lead_nonzero p h = go (len p) refl
    where
      go : (n : ℕ) → len p ≡ n → ¬ (lead A p ≡ 𝟘ₖ)
      go zero e = absurd (h (len_zero A p e))
      go (suc n) e = λ z. A.len_top p n e (sym (lead_is p n e) ∙ z)

  pub lead_mul : (p q : P) → lead A (p · q) ≡ lead A p ·ₖ lead A q
  lead_mul p q = go (len p) (len q) refl refl
    where
      go : (m n : ℕ) → len p ≡ m → len q ≡ n → lead A (p · q) ≡ lead A p ·ₖ lead A q
      go zero n d e =
          let p_is : p ≡ 𝟘 = len_zero A p d in
          ap (lead A) (ap (λ z. z · q) p_is ∙ 𝟘_· R q) ∙ lead_zero ∙ sym (ap (λ z. z ·ₖ lead A q) (ap (lead A) p_is ∙ lead_zero) ∙ 𝟘_· F.ring (lead A q))
      go (suc m) zero d e =
          let q_is : q ≡ 𝟘 = len_zero A q e in
          ap (lead A) (ap (λ z. p · z) q_is ∙ ·_𝟘 R p) ∙ lead_zero ∙ sym (ap (λ z. lead A p ·ₖ z) (ap (lead A) q_is ∙ lead_zero) ∙ ·_𝟘 F.ring (lead A p))
      go (suc m) (suc n) d e =
          let l : suc (len (p · q)) ≡ len p + len q = len_mul A p q (nonzero_of_len A p (omega arith)) (nonzero_of_len A q (omega arith)) in
          lead_is (p · q) (m + n) (omega arith)
          ∙ coeff_mul_top A m n p q (omega arith) (omega arith)
          ∙ ap₂ ◌·ₖ◌ (sym (lead_is p m d)) (sym (lead_is q n e))

  pub lead_add_less : (p q : P) → len p < len q → lead A (p ⊞ q) ≡ lead A q
  lead_add_less p q h = go (len q) refl
    where
      go : (n : ℕ) → len q ≡ n → lead A (p ⊞ q) ≡ lead A q
      go zero e = absurd (omega arith)
      go (suc n) e =
          lead_is (p ⊞ q) n (len_add_less A p q h ∙ e)
          ∙ A.coeff_add p q n
          ∙ ap (λ z. z ⊞ₖ coeff q n) (A.len_past p n (omega arith))
          ∙ 𝟘_⊞ F.ring (coeff q n)
          ∙ sym (lead_is q n e)

  pub lead_con : (a : K) → ¬ (a ≡ 𝟘ₖ) → lead A (con a) ≡ a
  lead_con a h = lead_is (con a) 0 (len_con A a h) ∙ A.coeff_con a

  pub monic_one : Monic A 𝟙
  monic_one = lead_is 𝟙 0 (len_one A) ∙ coeff_one A

  pub monic_nonzero : (p : P) → Monic A p → ¬ (p ≡ 𝟘)
  monic_nonzero p m e = F.one≢zero (sym m ∙ ap (lead A) e ∙ lead_zero)

  pub monic_mul : (p q : P) → Monic A p → Monic A q → Monic A (p · q)
  monic_mul p q m n = lead_mul p q ∙ ap₂ ◌·ₖ◌ m n ∙ ·_𝟙 F.ring 𝟙ₖ

  pub monic_cofactor : (p q : P) → Monic A (p · q) → Monic A q → Monic A p
  monic_cofactor p q m n = sym (·_𝟙 F.ring (lead A p)) ∙ ap (λ z. lead A p ·ₖ z) (sym n) ∙ sym (lead_mul p q) ∙ m

  pub monic_top : (p : P) (n : ℕ) → Monic A p → len p ≡ suc n → coeff p n ≡ 𝟙ₖ
  monic_top p n m e = sym (lead_is p n e) ∙ m

  pub len_by_top : (p : P) (n : ℕ) → coeff p n ≡ 𝟙ₖ → ((i : ℕ) → n < i → coeff p i ≡ 𝟘ₖ) → len p ≡ suc n
  len_by_top p n e h = len_is A p n (len_bound A p (suc n) h) (λ z. F.one≢zero (sym e ∙ z))

  pub monic_by_top : (p : P) (n : ℕ) → coeff p n ≡ 𝟙ₖ → ((i : ℕ) → n < i → coeff p i ≡ 𝟘ₖ) → Monic A p
  monic_by_top p n e h = lead_is p n (len_by_top p n e h) ∙ e

  pub monic_constant : (p : P) → Monic A p → len p ≤ 1 → p ≡ 𝟙
  monic_constant p m h =
      let l : 0 < len p = len_nonzero A p (monic_nonzero p m) in
      con_of_len A p h ∙ ap con (monic_top p 0 m (omega arith)) ∙ sym A.one_con

  -- p times a constant c whose product with the leading coefficient is 1
  module _ (p : P) (c : K) (unit : lead A p ·ₖ c ≡ 𝟙ₖ) where
    c≢ : ¬ (c ≡ 𝟘ₖ)
    c≢ e = F.one≢zero (sym unit ∙ ap (λ z. lead A p ·ₖ z) e ∙ ·_𝟘 F.ring (lead A p))

    pub scaled_factor : p ≡ con (lead A p) · (con c · p)
    scaled_factor =
        sym (𝟙_· R p)
        ∙ ap (λ z. z · p) (A.one_con ∙ ap con (sym unit) ∙ con_mul A (lead A p) c)
        ∙ ·_assoc R (con (lead A p)) (con c) p

    pub scaled_monic : Monic A (con c · p)
    scaled_monic = lead_mul (con c) p ∙ ap (λ z. z ·ₖ lead A p) (lead_con c c≢) ∙ ·_comm F.ring c (lead A p) ∙ unit

    pub scaled_len : len (con c · p) ≡ len p
    scaled_len = len_con_mul A c p c≢

    -- it is p made monic
    pub monic_of_scaled : monic_of A p ≡ con c · p
    unfolding monic_of
    monic_of_scaled = go (F.discrete (lead A p) 𝟘ₖ)
      where
        go : (d : Dec (lead A p ≡ 𝟘ₖ)) → elim d as (λ _. P) [ yes _ ↦ p | no shown ↦ con (inverse_of F (lead A p) shown) · p ] ≡ con c · p
        go (yes e) = absurd (F.one≢zero (sym unit ∙ ap (λ z. z ·ₖ c) e ∙ 𝟘_· F.ring c))
        go (no n) = ap (λ z. con z · p) (sym (inverse_only F (lead A p) c n unit))

  pub zero_of_lead : (p : P) → lead A p ≡ 𝟘ₖ → p ≡ 𝟘
  zero_of_lead p e = elim (is_zero A p) [ yes z ↦ z | no h ↦ absurd (lead_nonzero p h e) ]

  -- the polynomial 0 stays 0
  monic_of_zero : (p : P) → p ≡ 𝟘 → monic_of A p ≡ p
  unfolding monic_of
  monic_of_zero p e = go (F.discrete (lead A p) 𝟘ₖ)
    where
      go : (d : Dec (lead A p ≡ 𝟘ₖ)) → elim d as (λ _. P) [ yes _ ↦ p | no shown ↦ con (inverse_of F (lead A p) shown) · p ] ≡ p
      go (yes _) = refl
      go (no n) = absurd (n (ap (lead A) e ∙ lead_zero))

  -- p made monic
  module _ (p : P) (h : ¬ (p ≡ 𝟘)) where
    unit : lead A p ·ₖ inverse_of F (lead A p) (lead_nonzero p h) ≡ 𝟙ₖ
    unit = F.mul_inverse (lead A p) (lead_nonzero p h)

    pub monic_of_factor : p ≡ con (lead A p) · monic_of A p
    monic_of_factor = scaled_factor p _ unit ∙ ap (λ z. con (lead A p) · z) (sym (monic_of_scaled p _ unit))

    pub monic_of_monic : Monic A (monic_of A p)
    monic_of_monic = ap (lead A) (monic_of_scaled p _ unit) ∙ scaled_monic p _ unit

    pub monic_of_nonzero : ¬ (monic_of A p ≡ 𝟘)
    monic_of_nonzero = monic_nonzero (monic_of A p) monic_of_monic

  pub len_monic_of : (p : P) → len (monic_of A p) ≡ len p
  len_monic_of p = go (is_zero A p)
    where
      go : Dec (p ≡ 𝟘) → len (monic_of A p) ≡ len p
      go (yes e) = ap len (monic_of_zero p e)
      go (no h) = ap len (monic_of_scaled p _ (unit p h)) ∙ scaled_len p _ (unit p h)

  pub monic_of_divides : (p : P) → Divides R (monic_of A p) p
  monic_of_divides p = go (is_zero A p)
    where
      go : Dec (p ≡ 𝟘) → Divides R (monic_of A p) p
      go (yes e) = divides_eq R (sym e) (divides_zero R (monic_of A p))
      go (no h) = (con (lead A p), monic_of_factor p h)

  pub divides_monic_of : (p : P) → Divides R p (monic_of A p)
  divides_monic_of p = go (is_zero A p)
    where
      go : Dec (p ≡ 𝟘) → Divides R p (monic_of A p)
      go (yes e) = (𝟙, monic_of_zero p e ∙ sym (𝟙_· R p))
      go (no h) = (_, monic_of_scaled p _ (unit p h))

  pub monic_antisym : (p q : P) → Monic A p → Monic A q → Divides R p q → Divides R q p → p ≡ q
  monic_antisym p q m n d d' =
      let h : ¬ (p ≡ 𝟘) = monic_nonzero p m in
      let k : ¬ (q ≡ 𝟘) = monic_nonzero q n in
      let s_monic : Monic A d.0 = monic_cofactor d.0 p (sym (ap (lead A) d.1) ∙ n) m in
      let l : suc (len (d.0 · p)) ≡ len d.0 + len p = len_mul A d.0 p (monic_nonzero d.0 s_monic) h in
      let e : len (d.0 · p) ≡ len q = ap len (sym d.1) in
      let a : len p ≤ len q = divides_len A d k in
      let b : len q ≤ len p = divides_len A d' h in
      sym (𝟙_· R p) ∙ ap (λ z. z · p) (sym (monic_constant d.0 s_monic (omega arith))) ∙ sym d.1

  pub quot_monic : (a b : P) → Monic A a → Monic A b → Divides R b a → Monic A (quot a b)
  quot_monic a b m n d = monic_cofactor (quot a b) b (ap (lead A) (sym (quot_exact A b (monic_nonzero b n) a d)) ∙ m) n
