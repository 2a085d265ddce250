-- Division of polynomials with remainder.
-- `divides_len`, `divides_short`: a multiple that is shorter than its divisor is 0.
-- `congruent_short`: congruent polynomials that are shorter than the modulus are equal.
-- `remainder_unique`, `quotient_unique`, `rem_is`, `quot_is`: quotient and remainder are unique.
-- `rem_short`, `quot_short`: those of a dividend that is shorter than the divisor.
-- `rem_congruent`: congruent polynomials have the same remainder.
-- `rem_of_divides`, `divides_of_rem`: the remainder is 0 exactly for multiples.
-- `quot_exact`, `quot_mul`: the quotient of a multiple.
-- `len_quot`, `len_quot_exact`, `len_quot_le`: the length of a quotient.
use Prim.Native.Nat.{ℕ, zero, suc, ◌+◌, ◌≤◌, ◌<◌}
use mathlib.Core.Path.{◌≡◌, refl, sym, ◌∙◌, ap}
use native.Mathlib.{Omega.arith, Decide.dec_le}
use Rattle.field_laws.specs.{Ring.Ring2, Field.Field2}
use Rattle.char2_algebra.specs.{Polynomials.Polynomials, Divides.Divides}
use Rattle.char2_algebra.proofs.Ring.{ring2, ⊞_comm, ⊞_𝟘, 𝟘_⊞, ·_comm, 𝟘_·, eq_of_sum, sum_of_eq, by, both, combine}
use Rattle.char2_algebra.proofs.Degree.{len_of_zero, len_nonzero, nonzero_of_len, len_add, len_add_less, is_zero}
use Rattle.char2_algebra.proofs.{Product.len_mul_monotone, Product.cancel_right, Product.len_mul, Product.integral, Divides.divides_right}

-- identities of a few terms, over plain variables
module _ {A : Type 0} (R : Ring2 A) where
  open R use {add as ◌⊞◌, mul as ◌·◌}

  infixl 60 ◌⊞◌
  infixl 70 ◌·◌
  last_cancels : (a b : A) → a ⊞ b ⊞ b ≡ a
  last_cancels a b = simp (ring2, R)

  difference : (b q r q' r' : A) → q · b ⊞ r ≡ q' · b ⊞ r' → r ⊞ r' ≡ (q ⊞ q') · b
  difference b q r q' r' h = combine R (r ⊞ r') ((q ⊞ q') · b) (by R R.one h) (simp (ring2, R))

  congruent_division : (b k a a' q r : A) → a ⊞ a' ≡ k · b → a ≡ q · b ⊞ r → a' ≡ (q ⊞ k) · b ⊞ r
  congruent_division b k a a' q r h e = combine R a' ((q ⊞ k) · b ⊞ r) (both R (by R R.one h) (by R R.one e)) (simp (ring2, R))

module _ {K P : Type 0} {F : Field2 K} (A : Polynomials F P) where
  open A use {ring as R, coeff, con, x, len, quot, rem}
  open A.ring use {add as ◌⊞◌, mul as ◌·◌, zero as 𝟘, one as 𝟙}

  infixl 60 ◌⊞◌
  infixl 70 ◌·◌
  pub divides_len : {b a : P} → Divides R b a → ¬ (a ≡ 𝟘) → len b ≤ len a
  divides_len {b} {a} (q, e) h =
      let k : ¬ (q ≡ 𝟘) = λ d. h (e ∙ ap (λ z. z · b) d ∙ 𝟘_· R b) in
      let l : len b ≤ len (b · q) = len_mul_monotone A b q k in
      let m : len (b · q) ≡ len a = ap len (·_comm R b q ∙ sym e) in
      omega arith

  pub divides_short : {b a : P} → Divides R b a → len a < len b → a ≡ 𝟘
  divides_short {b} {a} d h = elim (is_zero A a) [ yes e ↦ e | no k ↦ absurd (let l : len b ≤ len a = divides_len d k in omega arith) ]

  pub congruent_short : (b a a' : P) → Divides R b (a ⊞ a') → len a < len b → len a' < len b → a ≡ a'
  congruent_short b a a' d h k = eq_of_sum R a a' (divides_short d (go (len b) refl))
    where
      go : (n : ℕ) → len b ≡ n → len (a ⊞ a') < len b
      go zero e = absurd (omega arith)
      go (suc n) e = let l : len (a ⊞ a') ≤ n = len_add A a a' n (omega arith) (omega arith) in omega arith

  divisor_nonzero : (b r : P) → len r < len b → ¬ (b ≡ 𝟘)
  divisor_nonzero b r h = nonzero_of_len A b (omega arith)

  pub remainder_unique : (b q r q' r' : P) → len r < len b → len r' < len b → q · b ⊞ r ≡ q' · b ⊞ r' → r ≡ r'
  remainder_unique b q r q' r' h k e = congruent_short b r r' (q ⊞ q', difference R b q r q' r' e) h k

  pub quotient_unique : (b q r q' r' : P) → len r < len b → len r' < len b → q · b ⊞ r ≡ q' · b ⊞ r' → q ≡ q'
  quotient_unique b q r q' r' h k e =
      eq_of_sum
      R
      q
      q'
      (integral A b (q ⊞ q') (divisor_nonzero b r h) (·_comm R b (q ⊞ q') ∙ sym (difference R b q r q' r' e) ∙ sum_of_eq R r r' (remainder_unique b q r q' r' h k e)))

  pub rem_is : (a b q r : P) → len r < len b → a ≡ q · b ⊞ r → rem a b ≡ r
  rem_is a b q r h e =
      let k : ¬ (b ≡ 𝟘) = divisor_nonzero b r h in
      remainder_unique b (quot a b) (rem a b) q r (A.rem_len a b k) h (sym (A.division a b k) ∙ e)

  pub quot_is : (a b q r : P) → len r < len b → a ≡ q · b ⊞ r → quot a b ≡ q
  quot_is a b q r h e =
      let k : ¬ (b ≡ 𝟘) = divisor_nonzero b r h in
      quotient_unique b (quot a b) (rem a b) q r (A.rem_len a b k) h (sym (A.division a b k) ∙ e)

  pub rem_short : (a b : P) → len a < len b → rem a b ≡ a
  rem_short a b h = rem_is a b 𝟘 a h (sym (𝟘_⊞ R a) ∙ ap (λ z. z ⊞ a) (sym (𝟘_· R b)))

  pub quot_short : (a b : P) → len a < len b → quot a b ≡ 𝟘
  quot_short a b h = quot_is a b 𝟘 a h (sym (𝟘_⊞ R a) ∙ ap (λ z. z ⊞ a) (sym (𝟘_· R b)))

  module _ (b : P) (h : ¬ (b ≡ 𝟘)) where
    pub rem_divides : (a : P) → Divides R b (a ⊞ rem a b)
    rem_divides a = (quot a b, ap (λ z. z ⊞ rem a b) (A.division a b h) ∙ last_cancels R (quot a b · b) (rem a b))

    pub rem_congruent : (a a' : P) → Divides R b (a ⊞ a') → rem a b ≡ rem a' b
    rem_congruent a a' (k, e) =
        sym (rem_is a' b (quot a b ⊞ k) (rem a b) (A.rem_len a b h) (congruent_division R b k a a' (quot a b) (rem a b) e (A.division a b h)))

    pub rem_of_divides : (a : P) → Divides R b a → rem a b ≡ 𝟘
    rem_of_divides a (q, e) = rem_is a b q 𝟘 (let l : len 𝟘 ≡ 0 = len_of_zero A in let m : 0 < len b = len_nonzero A b h in omega arith) (e ∙ sym (⊞_𝟘 R (q · b)))

    pub divides_of_rem : (a : P) → rem a b ≡ 𝟘 → Divides R b a
    divides_of_rem a e = (quot a b, A.division a b h ∙ ap (λ z. quot a b · b ⊞ z) e ∙ ⊞_𝟘 R (quot a b · b))

    pub quot_exact : (a : P) → Divides R b a → a ≡ quot a b · b
    unfolding divides_of_rem
    quot_exact a d = (divides_of_rem a (rem_of_divides a d)).1

    pub quot_mul : (q : P) → quot (q · b) b ≡ q
    quot_mul q = cancel_right A b (quot (q · b) b) q h (sym (quot_exact (q · b) (divides_right R q b)))

    pub len_quot : (a : P) → len b ≤ len a → suc (len a) ≡ len (quot a b) + len b
    len_quot a l =
        let r : len (rem a b) < len b = A.rem_len a b h in
        let k : ¬ (quot a b ≡ 𝟘) = λ e. too_short (ap len (A.division a b h ∙ ap (λ z. z · b ⊞ rem a b) e ∙ ap (λ z. z ⊞ rem a b) (𝟘_· R b) ∙ 𝟘_⊞ R (rem a b))) in
        let m : suc (len (quot a b · b)) ≡ len (quot a b) + len b = len_mul A (quot a b) b k h in
        let q : 0 < len (quot a b) = len_nonzero A (quot a b) k in
        let e : len a ≡ len (quot a b · b) = ap len (A.division a b h ∙ ⊞_comm R (quot a b · b) (rem a b)) ∙ len_add_less A (rem a b) (quot a b · b) (omega arith) in
        omega arith
      where
        too_short : ¬ (len a ≡ len (rem a b))
        too_short e = let r : len (rem a b) < len b = A.rem_len a b h in omega arith

    pub len_quot_exact : (a : P) → ¬ (a ≡ 𝟘) → Divides R b a → suc (len a) ≡ len (quot a b) + len b
    len_quot_exact a k d = len_quot a (divides_len d k)

    pub quot_exact_nonzero : (a : P) → ¬ (a ≡ 𝟘) → Divides R b a → ¬ (quot a b ≡ 𝟘)
    quot_exact_nonzero a k d e = k (quot_exact a d ∙ ap (λ z. z · b) e ∙ 𝟘_· R b)

  pub len_quot_le : (a b : P) → ¬ (b ≡ 𝟘) → len (quot a b) ≤ len a
  len_quot_le a b h = elim (dec_le (len b) (len a)) [
    | yes k ↦
        (let l : suc (len a) ≡ len (quot a b) + len b = len_quot b h a k in
        let m : 0 < len b = len_nonzero A b h in
        omega arith)
    | no k ↦ (let l : len (quot a b) ≡ 0 = ap len (quot_short a b (omega arith)) ∙ len_of_zero A in omega arith)
  ]
