-- The schoolbook division of lists of coefficients.
-- `of_cons`, `of_add`, `of_scale`, `of_trim`, `of_coefficients`: the polynomial with given coefficients.
-- `steps_law`, `divide_law`, `division`: the dividend is quotient times divisor plus remainder.
-- `divide_short`: the remainder is shorter than the divisor.
use Prim.Native.Nat.{ℕ, zero, suc, ◌≤◌, ◌<◌, suc-le-suc}
use mathlib.Core.{Path.◌≡◌, Path.refl, Path.sym, Path.◌∙◌, Path.ap, Path.ap₂, Path.subst, List.List, List.[], List.◌∷◌}
use native.Mathlib.{Omega.arith, Decide.ℕ_discrete}
use lib.ListN.{length, get_or-eq_default}
use Rattle.field_laws.specs.{Ring.Ring2, Field.Field2, Division.inverse_of}
use Rattle.char2_algebra.specs.Polynomial.{Polynomial, Trimmed, trim, trim_trimmed, of_list, add_lists, scale_list, invert, divide_steps, divide_lists, coeff, zero_polynomial, con, x, add, mul, quot, rem}
use Rattle.char2_algebra.proofs.Ring.{ring2, 𝟘_·, 𝟘_⊞, ⊞_𝟘, ⊞_self, ·_𝟘, by, combine}
use Rattle.char2_algebra.proofs.ListCoefficients.{at, at_add, at_scale, at_trim, at_end, length_le}
use Rattle.char2_algebra.proofs.PolynomialRing.{ext, coeff_of_list, coeff_add, coeff_con, coeff_con_suc, coeff_con_mul, coeff_x_mul, coeff_x_mul_suc, ring}

-- one step of the division, over plain variables
module _ {A : Type 0} (R : Ring2 A) where
  open R use {add as ◌⊞◌, mul as ◌·◌, zero as 𝟘}

  infixl 60 ◌⊞◌
  infixl 70 ◌·◌
  step_identity : (a b c q r t : A) → a ⊞ t · (q · b ⊞ r) ≡ (c ⊞ t · q) · b ⊞ (a ⊞ t · r ⊞ c · b)
  step_identity a b c q r t = simp (ring2, R)

module _ {K : Type 0} (F : Field2 K) where
  open F use {ring as K_ring, discrete}
  open K_ring use {add as ◌⊞◌, mul as ◌·◌, zero as 𝟘, one as 𝟙}

  infixl 60 ◌⊞◌
  infixl 70 ◌·◌
  -- the polynomial with given coefficients
  pub of_cons : (a : K) (p : List K) → of_list F (a ∷ p) ≡ add F (con F a) (mul F (x F) (of_list F p))
  of_cons a p = ext F (of_list F (a ∷ p)) (add F (con F a) (mul F (x F) (of_list F p))) each
    where
      each : (i : ℕ) → coeff F (of_list F (a ∷ p)) i ≡ coeff F (add F (con F a) (mul F (x F) (of_list F p))) i
      each zero =
          coeff_of_list F (a ∷ p) 0
          ∙ sym (⊞_𝟘 K_ring a)
          ∙ ap₂ ◌⊞◌ (sym (coeff_con F a)) (sym (coeff_x_mul F (of_list F p)))
          ∙ sym (coeff_add F (con F a) (mul F (x F) (of_list F p)) 0)
      each (suc i) =
          coeff_of_list F (a ∷ p) (suc i)
          ∙ sym (coeff_of_list F p i)
          ∙ sym (𝟘_⊞ K_ring (coeff F (of_list F p) i))
          ∙ ap₂ ◌⊞◌ (sym (coeff_con_suc F a i)) (sym (coeff_x_mul_suc F (of_list F p) i))
          ∙ sym (coeff_add F (con F a) (mul F (x F) (of_list F p)) (suc i))

  pub of_add : (p q : List K) → of_list F (add_lists F p q) ≡ add F (of_list F p) (of_list F q)
  of_add p q =
      ext F (of_list F (add_lists F p q)) (add F (of_list F p) (of_list F q))
      (λ i. coeff_of_list F (add_lists F p q) i
      ∙ at_add F p q i
      ∙ ap₂ ◌⊞◌ (sym (coeff_of_list F p i)) (sym (coeff_of_list F q i))
      ∙ sym (coeff_add F (of_list F p) (of_list F q) i))

  pub of_scale : (c : K) (p : List K) → of_list F (scale_list F c p) ≡ mul F (con F c) (of_list F p)
  of_scale c p =
      ext F (of_list F (scale_list F c p)) (mul F (con F c) (of_list F p))
      (λ i. coeff_of_list F (scale_list F c p) i
      ∙ at_scale F c p i
      ∙ ap (λ z. c · z) (sym (coeff_of_list F p i))
      ∙ sym (coeff_con_mul F c (of_list F p) i))

  pub of_trim : (p : List K) → of_list F (trim F p) ≡ of_list F p
  of_trim p =
      ext F (of_list F (trim F p)) (of_list F p)
      (λ i. coeff_of_list F (trim F p) i ∙ at_trim F p i ∙ sym (coeff_of_list F p i))

  pub of_coefficients : (p : Polynomial F) → of_list F p.coefficients ≡ p
  unfolding coeff
  of_coefficients p = ext F (of_list F p.coefficients) p (coeff_of_list F p.coefficients)

  -- one step, with any coefficient c of the quotient
  step_law : (b q r p : List K) (c a : K) → of_list F p ≡ add F (mul F (of_list F q) (of_list F b)) (of_list F r)
      → of_list F (a ∷ p) ≡ add F (mul F (of_list F (c ∷ q)) (of_list F b)) (of_list F (trim F (add_lists F (a ∷ r) (scale_list F c b))))
  unfolding ring
  step_law b q r p c a h =
      of_cons a p
      ∙ ap (λ z. add F (con F a) (mul F (x F) z)) h
      ∙ step_identity (ring F) (con F a) (of_list F b) (con F c) (of_list F q) (of_list F r) (x F)
      ∙ ap₂ (add F)
      (ap (λ z. mul F z (of_list F b)) (sym (of_cons c q)))
      (ap₂ (add F) (sym (of_cons a r)) (sym (of_scale c b)) ∙ sym (of_add (a ∷ r) (scale_list F c b)) ∙ sym (of_trim (add_lists F (a ∷ r) (scale_list F c b))))

  zero_law : (b : Polynomial F) (p : List K) → of_list F p ≡ add F (mul F (of_list F []) b) (of_list F p)
  unfolding ring of_list zero_polynomial
  zero_law b p =
      sym (𝟘_⊞ (ring F) (of_list F p)) ∙ ap (λ z. add F z (of_list F p)) (sym (𝟘_· (ring F) b))

  pub steps_law : (b : List K) (d : ℕ) (i : K) (p : List K)
      → of_list F p ≡ add F (mul F (of_list F (divide_steps F b d i p).0) (of_list F b)) (of_list F (divide_steps F b d i p).1)
  unfolding divide_steps
  steps_law b d i [] = zero_law (of_list F b) []
  steps_law b d i (a ∷ p) =
      let s : List K × List K = divide_steps F b d i p in
      step_law b s.0 s.1 p (at F (a ∷ s.1) d · i) a (steps_law b d i p)

  pub divide_law : (p b : List K)
      → of_list F p ≡ add F (mul F (of_list F (divide_lists F p b).0) (of_list F b)) (of_list F (divide_lists F p b).1)
  unfolding divide_lists
  divide_law p [] = zero_law (of_list F []) p
  divide_law p (a ∷ b) = by_test (discrete (at F (a ∷ b) (length b)) 𝟘)
    where
      leading : K
      leading = at F (a ∷ b) (length b)

      by_test : (t : Dec (leading ≡ 𝟘)) → (let s : List K × List K = elim t as (λ _. List K × List K) [ yes _ ↦ ([], p) | no shown ↦ divide_steps F (a ∷ b) (length b) (invert F leading shown) p ] in of_list F p ≡ add F (mul F (of_list F s.0) (of_list F (a ∷ b))) (of_list F s.1))
      by_test (yes _) = zero_law (of_list F (a ∷ b)) p
      by_test (no shown) = steps_law (a ∷ b) (length b) (invert F leading shown) p

  -- a step makes the coefficient at the divisor's degree zero
  cleared : (a b i : K) → b · i ≡ 𝟙 → a ⊞ a · i · b ≡ 𝟘
  cleared a b i h = combine K_ring (a ⊞ a · i · b) 𝟘 (by K_ring a h) (simp (ring2, K_ring))

  Below : List K → ℕ → Type 0
  Below p d = (j : ℕ) → d ≤ j → at F p j ≡ 𝟘

  step_below : (b : List K) (d : ℕ) (i a : K) (r : List K) → Below b (suc d) → at F b d · i ≡ 𝟙 → Below r d
      → Below (trim F (add_lists F (a ∷ r) (scale_list F (at F (a ∷ r) d · i) b))) d
  unfolding Below
  step_below b d i a r hb hi hr j l =
      at_trim F (add_lists F (a ∷ r) (scale_list F c b)) j ∙ at_add F (a ∷ r) (scale_list F c b) j ∙ ap (λ z. at F (a ∷ r) j ⊞ z) (at_scale F c b j) ∙ each j (ℕ_discrete d j) l
    where
      c : K
      c = at F (a ∷ r) d · i

      each : (j : ℕ) → Dec (d ≡ j) → d ≤ j → at F (a ∷ r) j ⊞ c · at F b j ≡ 𝟘
      each j (yes e) l = subst (λ k. at F (a ∷ r) k ⊞ c · at F b k ≡ 𝟘) e (cleared (at F (a ∷ r) d) (at F b d) i hi)
      each zero (no n) l = absurd (n (omega arith))
      each (suc j) (no n) l =
          let m : d ≤ j = omega (arith, n) in
          ap₂ (λ y z. y ⊞ c · z) (hr j m) (hb (suc j) (omega arith)) ∙ ap (λ z. 𝟘 ⊞ z) (·_𝟘 K_ring c) ∙ ⊞_self K_ring 𝟘

  steps_below : (b : List K) (d : ℕ) (i : K) → Below b (suc d) → at F b d · i ≡ 𝟙 → (p : List K) → Below (divide_steps F b d i p).1 d
  unfolding Below divide_steps
  steps_below b d i hb hi [] = λ j l. refl
  steps_below b d i hb hi (a ∷ p) = step_below b d i a (divide_steps F b d i p).1 hb hi (steps_below b d i hb hi p)

  invert_law : (a : K) (h : ¬ (a ≡ 𝟘)) → a · invert F a h ≡ 𝟙
  unfolding invert
  invert_law a h = by_test (discrete a 𝟙)
    where
      by_test : (d : Dec (a ≡ 𝟙)) → a · elim d [ yes _ ↦ 𝟙 | no _ ↦ inverse_of F a h ] ≡ 𝟙
      by_test (yes e) = K_ring.mul_one a ∙ e
      by_test (no _) = F.mul_inverse a h

  pub divide_short : (p b : List K) → Trimmed F b → ¬ (b ≡ []) → length (trim F (divide_lists F p b).1) < length b
  unfolding divide_lists Below
  divide_short p [] t h = absurd (h refl)
  divide_short p (a ∷ b) t h = suc-le-suc (length_le F (trim F r) (trim_trimmed F r) (length b) (λ j l. at_trim F r j ∙ by_test (discrete leading 𝟘) j l))
    where
      r : List K
      r = (divide_lists F p (a ∷ b)).1

      leading : K
      leading = at F (a ∷ b) (length b)

      by_test : (s : Dec (leading ≡ 𝟘)) → Below (elim s as (λ _. List K × List K) [ yes _ ↦ ([], p) | no shown ↦ divide_steps F (a ∷ b) (length b) (invert F leading shown) p ]).1 (length b)
      by_test (yes e) = absurd (at_end F a b t e)
      by_test (no shown) =
          steps_below (a ∷ b) (length b) (invert F leading shown) (λ j l. get_or-eq_default (a ∷ b) 𝟘 l) (invert_law leading shown) p

  pub division : (a b : Polynomial F) → a ≡ add F (mul F (quot F a b) b) (rem F a b)
  unfolding quot rem
  division a b =
      sym (of_coefficients a)
      ∙ divide_law a.coefficients b.coefficients
      ∙ ap (λ z. add F (mul F (quot F a b) z) (rem F a b)) (of_coefficients b)
