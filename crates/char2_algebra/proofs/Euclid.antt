-- Euclid's algorithm gives a greatest common divisor of two or three polynomials with its coefficients.
-- `bezout_is`, `bezout3_is`: it is a combination of the polynomials, divides each, and is monic unless all are 0.
-- `bezout_scaled_is`, `bezout_zeros_is`: the last call, where b is 0. `bezout_step_is`: one call on the remainder.
-- `bezout_constant_is`: a constant other than 0 has the divisor 1 with every polynomial.
-- `len_substituted`: a call keeps the coefficients short.
-- `bezout_twice`: the divisor of three, from that of two and that of this divisor and the third.
-- `bezout_coprime`: where the divisor of two is 1, it is the divisor of three.
-- `bezout3_greatest`: every common divisor divides the divisor of three.
-- `bezout3_unique`: the divisor does not depend on the coefficients.
-- `bezout3_monic`, `bezout3_nonzero`: it is monic, so not 0, where the first polynomial is not 0.
use Prim.Native.Nat.{ℕ, zero, suc, pred, max, ◌+◌, ◌≤◌, ◌<◌}
use mathlib.Core.Path.{◌≡◌, refl, sym, ◌∙◌, ap}
use native.Mathlib.{Omega.arith, Decide.dec_le}
use Rattle.field_laws.specs.{Ring.Ring2, Field.Field2, Division.inverse_of}
use Rattle.char2_algebra.specs.{Polynomials.Polynomials, Divides.Divides, Lead.lead, Lead.Monic}
use Rattle.char2_algebra.specs.Euclid.{Bezout, Bezout3, IsBezout, IsBezout3, bezout_zero, bezout_to, bezout, bezout3}
use Rattle.char2_algebra.proofs.Ring.{ring2, ⊞_𝟘, 𝟘_⊞, ·_𝟘, 𝟘_·, by, both, combine}
use Rattle.char2_algebra.proofs.Degree.{len_zero, len_nonzero, len_add, nonzero_of_len}
use Rattle.char2_algebra.proofs.{Product.len_mul_le, Division.len_quot, Division.rem_short, Division.quot_short}
use Rattle.char2_algebra.proofs.Divides.{divides_eq, divides_zero, divides_add, divides_mul, divides_trans, divides_by_eq, zero_divides, one_divides}
use Rattle.char2_algebra.proofs.Lead.{scaled_factor, scaled_monic, scaled_len, zero_of_lead, monic_nonzero, monic_antisym, monic_one, monic_constant}

-- from g = s b + t r and a = q b + r
back_substitution : {A : Type 0} (R : Ring2 A) (a b g q r s t : A) → g ≡ R.add (R.mul s b) (R.mul t r) → a ≡ R.add (R.mul q b) r
    → g ≡ R.add (R.mul t a) (R.mul (R.add s (R.mul t q)) b)
back_substitution R a b g q r s t h e =
    combine R g _ (both R (by R R.one h) (by R t e)) (simp (ring2, R))

-- from g = s a + t b and e = s' g + t' c
substitution : {A : Type 0} (R : Ring2 A) (a b c g e s t s' t' : A) → g ≡ R.add (R.mul s a) (R.mul t b) → e ≡ R.add (R.mul s' g) (R.mul t' c)
    → e ≡ R.add (R.add (R.mul (R.mul s' s) a) (R.mul (R.mul s' t) b)) (R.mul t' c)
substitution R a b c g e s t s' t' h k = combine R e _ (both R (by R s' h) (by R R.one k)) (simp (ring2, R))

module _ {K P : Type 0} {F : Field2 K} (A : Polynomials F P) where
  open A use {ring as R, con, len, quot, rem}
  open A.ring use {add as ◌⊞◌, mul as ◌·◌, zero as 𝟘, one as 𝟙}
  open F.ring use {mul as ◌·ₖ◌, zero as 𝟘ₖ, one as 𝟙ₖ}

  infixl 60 ◌⊞◌
  infixl 70 ◌·◌
  infixl 70 ◌·ₖ◌
  -- the two cases of a call
  bezout_stop : (n : ℕ) (a b : P) → len b ≡ 0 → bezout_to A (suc n) a b ≡ bezout_zero A a
  unfolding bezout_to
  bezout_stop n a b e = rw (e, bezout_to)

  bezout_go : (n k : ℕ) (a b : P) → len b ≡ suc k → bezout_to A (suc n) a b
      ≡ (let r = bezout_to A n b (rem a b) in record { g = r.g; s = r.t; t = r.s ⊞ r.t · quot a b })
  unfolding bezout_to
  bezout_go n k a b e = rw (e, bezout_to)

  -- where b is 0, with any constant whose product with the leading coefficient of a is one
  pub bezout_scaled_is : (a b : P) (c : K) → lead A a ·ₖ c ≡ 𝟙ₖ → b ≡ 𝟘 → IsBezout A a b (record { g = con c · a; s = con c; t = 𝟘 })
  bezout_scaled_is a b c unit e = record {
    combination = sym (ap (λ z. con c · a ⊞ z) (𝟘_· R b) ∙ ⊞_𝟘 R _);
    divides_first = (con (lead A a), scaled_factor A a c unit);
    divides_second = divides_eq R (sym e) (divides_zero R _);
    monic = λ _. scaled_monic A a c unit;
  }

  pub bezout_zeros_is : (a b : P) → a ≡ 𝟘 → b ≡ 𝟘 → IsBezout A a b (record { g = 𝟘; s = 𝟘; t = 𝟘 })
  bezout_zeros_is a b h k = record {
    combination = sym (ap (λ z. z ⊞ 𝟘 · b) (𝟘_· R a) ∙ 𝟘_⊞ R _ ∙ 𝟘_· R b);
    divides_first = divides_eq R (sym h) (divides_zero R 𝟘);
    divides_second = divides_eq R (sym k) (divides_zero R 𝟘);
    monic = λ n. absurd (n (h, k));
  }

  bezout_zero_is : (a b : P) → b ≡ 𝟘 → IsBezout A a b (bezout_zero A a)
  unfolding bezout_zero
  bezout_zero_is a b e = go (F.discrete (lead A a) 𝟘ₖ)
    where
      go : (d : Dec (lead A a ≡ 𝟘ₖ))
          → IsBezout A a b
          (elim d as (λ _. Bezout P) [
            | yes _ ↦ record { g = 𝟘; s = 𝟘; t = 𝟘 }
            | no shown ↦ record { g = con (inverse_of F (lead A a) shown) · a; s = con (inverse_of F (lead A a) shown); t = 𝟘 }
          ])
      go (yes z) = bezout_zeros_is a b (zero_of_lead A a z) e
      go (no n) = bezout_scaled_is a b _ (F.mul_inverse (lead A a) n) e

  pub bezout_step_is : (a b : P) (r : Bezout P) → ¬ (b ≡ 𝟘) → IsBezout A b (rem a b) r
      → IsBezout A a b (record { g = r.g; s = r.t; t = r.s ⊞ r.t · quot a b })
  bezout_step_is a b r h i = record {
    combination = back_substitution R a b r.g (quot a b) (rem a b) r.s r.t i.combination (A.division a b h);
    divides_first = divides_eq R (sym (A.division a b h)) (divides_add R (divides_mul R (quot a b) i.divides_first) i.divides_second);
    divides_second = i.divides_first;
    monic = λ _. i.monic (λ z. h z.0);
  }

  -- the coefficients stay short: s no longer than b and t no longer than a, or constant
  pub len_substituted : (a b s t : P) → ¬ (b ≡ 𝟘) → len s ≤ max 1 (len (rem a b)) → len t ≤ max 1 (len b) → len (s ⊞ t · quot a b) ≤ max 1 (len a)
  len_substituted a b s t h l m = elim (dec_le (len b) (len a)) [
    | yes k ↦
        (let b_len : 0 < len b = len_nonzero A b h in
        let r_len : len (rem a b) < len b = A.rem_len a b h in
        let q_len : suc (len a) ≡ len (quot a b) + len b = len_quot A b h a k in
        let p_len : len (t · quot a b) ≤ pred (len b) + len (quot a b) = len_mul_le A (pred (len b)) (len (quot a b)) t (quot a b) (omega arith) (omega arith) in
        len_add A s (t · quot a b) (max 1 (len a)) (omega arith) (omega arith))
    | no k ↦
        (let r_is : rem a b ≡ a = rem_short A a b (omega arith) in
        let e : s ⊞ t · quot a b ≡ s = ap (λ z. s ⊞ t · z) (quot_short A a b (omega arith)) ∙ ap (λ z. s ⊞ z) (·_𝟘 R t) ∙ ⊞_𝟘 R s in
        let n : len (s ⊞ t · quot a b) ≡ len s = ap len e in
        let o : len (rem a b) ≡ len a = ap len r_is in
        omega arith)
  ]

  pub bezout_constant_is : (a b : P) (c : K) → len b ≡ 1 → lead A b ·ₖ c ≡ 𝟙ₖ → IsBezout A a b (record { g = 𝟙; s = 𝟘; t = con c })
  bezout_constant_is a b c e unit = record {
    combination = sym (ap (λ z. z ⊞ con c · b) (𝟘_· R a) ∙ 𝟘_⊞ R _ ∙ made_one);
    divides_first = one_divides R a;
    divides_second = one_divides R b;
    monic = λ _. monic_one A;
  }
    where
      made_one : con c · b ≡ 𝟙
      made_one = monic_constant A (con c · b) (scaled_monic A b c unit) (let l : len (con c · b) ≡ len b = scaled_len A b c unit in omega arith)

  bezout_to_is : (n : ℕ) (a b : P) → len b < n → IsBezout A a b (bezout_to A n a b)
  bezout_to_is zero a b h = absurd (omega arith)
  bezout_to_is (suc n) a b h = go (bezout_to_is n b (rem a b)) (len b) refl
    where
      go : (len (rem a b) < n → IsBezout A b (rem a b) (bezout_to A n b (rem a b))) → (k : ℕ) → len b ≡ k → IsBezout A a b (bezout_to A (suc n) a b)
      go ih zero e = rw (bezout_stop n a b e) (bezout_zero_is a b (len_zero A b e))
      go ih (suc k) e =
          let b_nonzero : ¬ (b ≡ 𝟘) = nonzero_of_len A b (omega arith) in
          let l : len (rem a b) < len b = A.rem_len a b b_nonzero in
          rw (bezout_go n k a b e) (bezout_step_is a b (bezout_to A n b (rem a b)) b_nonzero (ih (omega arith)))

  pub bezout_is : (a b : P) → IsBezout A a b (bezout A a b)
  unfolding bezout
  bezout_is a b = bezout_to_is (suc (len b)) a b (omega arith)

  pub bezout_twice : {a b c : P} {B B' : Bezout P} → IsBezout A a b B → IsBezout A B.g c B'
      → IsBezout3 A a b c (record { e = B'.g; s1 = B'.s · B.s; s2 = B'.s · B.t; s3 = B'.t })
  bezout_twice {a} {b} {c} first second = record {
    combination = substitution R a b c _ _ _ _ _ _ first.combination second.combination;
    divides_first = divides_trans R second.divides_first first.divides_first;
    divides_second = divides_trans R second.divides_first first.divides_second;
    divides_third = second.divides_second;
    monic = λ h. second.monic (λ z. h (zero_divides R (divides_by_eq R z.0 first.divides_first), zero_divides R (divides_by_eq R z.0 first.divides_second), z.1));
  }

  pub bezout3_is : (a b c : P) → IsBezout3 A a b c (bezout3 A a b c)
  unfolding bezout3
  bezout3_is a b c = bezout_twice (bezout_is a b) (bezout_is (bezout A a b).g c)

  pub bezout_coprime : {a b : P} {B : Bezout P} (c : P) → IsBezout A a b B → B.g ≡ 𝟙
      → IsBezout3 A a b c (record { e = B.g; s1 = B.s; s2 = B.t; s3 = 𝟘 })
  bezout_coprime {a} {b} {B} c i e = record {
    combination = i.combination ∙ sym (ap (λ z. B.s · a ⊞ B.t · b ⊞ z) (𝟘_· R c) ∙ ⊞_𝟘 R _);
    divides_first = i.divides_first;
    divides_second = i.divides_second;
    divides_third = divides_by_eq R (sym e) (one_divides R c);
    monic = λ _. ap (lead A) e ∙ monic_one A;
  }

  pub bezout3_greatest : {a b c d : P} {B : Bezout3 P} → IsBezout3 A a b c B → Divides R d a → Divides R d b → Divides R d c → Divides R d B.e
  bezout3_greatest {B = B} i p q r =
      divides_eq
      R
      (sym i.combination)
      (divides_add R (divides_add R (divides_mul R B.s1 p) (divides_mul R B.s2 q)) (divides_mul R B.s3 r))

  pub bezout3_unique : {a b c : P} {B B' : Bezout3 P} → ¬ ((a ≡ 𝟘) × (b ≡ 𝟘) × (c ≡ 𝟘)) → IsBezout3 A a b c B → IsBezout3 A a b c B' → B.e ≡ B'.e
  bezout3_unique {B = B} {B' = B'} h i j =
      monic_antisym
      A
      B.e
      B'.e
      (i.monic h)
      (j.monic h)
      (bezout3_greatest j i.divides_first i.divides_second i.divides_third)
      (bezout3_greatest i j.divides_first j.divides_second j.divides_third)

  pub bezout3_monic : {a b c : P} {B : Bezout3 P} → IsBezout3 A a b c B → ¬ (a ≡ 𝟘) → Monic A B.e
  bezout3_monic i h = i.monic (λ z. h z.0)

  pub bezout3_nonzero : {a b c : P} {B : Bezout3 P} → IsBezout3 A a b c B → ¬ (a ≡ 𝟘) → ¬ (B.e ≡ 𝟘)
  bezout3_nonzero {B = B} i h = monic_nonzero A B.e (bezout3_monic i h)
