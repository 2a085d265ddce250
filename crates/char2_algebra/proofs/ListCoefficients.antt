-- Coefficients of lists.
-- `at_add`, `at_scale`, `at_mul`, `at_trim`: the coefficients of a sum, a multiple, a product and a trimmed list.
-- `at_end`, `at_last`: the last coefficient of a trimmed list is not zero.
-- `eq_of_at`: trimmed lists with the same coefficients are equal.
-- `length_le`: a trimmed list has at most d elements if its coefficients from d on are zero.
use Prim.Native.Nat.{ℕ, zero, suc, ◌≤◌, zero-le}
use mathlib.Core.{Path.◌≡◌, Path.refl, Path.sym, Path.◌∙◌, Path.ap₂, Path.subst, List.List, List.[], List.◌∷◌}
use native.Mathlib.{Omega.arith, Decide.dec_le}
use lib.ListN.{length, get_or}
use Rattle.field_laws.specs.{Field.Field2}
use Rattle.char2_algebra.specs.Polynomial.{IsNo, Nonzero, Trimmed, attach, trim, add_lists, scale_list, mul_lists}
use Rattle.char2_algebra.proofs.{Ring.𝟘_⊞, Ring.⊞_𝟘, Ring.·_𝟘, Convolution.conv, Convolution.conv_none, Convolution.conv_zero, Convolution.conv_suc}

module _ {K : Type 0} (F : Field2 K) where
  open F use {ring, discrete}
  open ring use {add as ◌⊞◌, mul as ◌·◌, zero as 𝟘, one as 𝟙}

  infixl 60 ◌⊞◌
  infixl 70 ◌·◌
  abbrev pub at : List K → ℕ → K
  at p i = get_or p i 𝟘

  pub at_add : (p q : List K) (i : ℕ) → at (add_lists F p q) i ≡ at p i ⊞ at q i
  unfolding add_lists
  at_add [] q i = sym (𝟘_⊞ ring (at q i))
  at_add (a ∷ p) [] i = sym (⊞_𝟘 ring (at (a ∷ p) i))
  at_add (a ∷ p) (b ∷ q) zero = refl
  at_add (a ∷ p) (b ∷ q) (suc i) = at_add p q i

  pub at_scale : (c : K) (p : List K) (i : ℕ) → at (scale_list F c p) i ≡ c · at p i
  unfolding scale_list
  at_scale c [] i = sym (·_𝟘 ring c)
  at_scale c (a ∷ p) zero = refl
  at_scale c (a ∷ p) (suc i) = at_scale c p i

  pub at_mul : (p q : List K) (i : ℕ) → at (mul_lists F p q) i ≡ conv ring (at p) (at q) i
  unfolding mul_lists
  at_mul [] q i = sym (conv_none ring (λ _. 𝟘) (at q) (λ _. refl) i)
  at_mul (a ∷ p) q zero = at_add (scale_list F a q) (𝟘 ∷ mul_lists F p q) 0 ∙ ⊞_𝟘 ring (at (scale_list F a q) 0) ∙ at_scale a q 0 ∙ sym (conv_zero ring (at (a ∷ p)) (at q))
  at_mul (a ∷ p) q (suc i) =
      at_add (scale_list F a q) (𝟘 ∷ mul_lists F p q) (suc i)
      ∙ ap₂ ◌⊞◌ (at_scale a q (suc i)) (at_mul p q i)
      ∙ sym (conv_suc ring (at (a ∷ p)) (at q) i)

  at_attach : (a : K) (p : List K) (i : ℕ) → at (attach F a p) i ≡ at (a ∷ p) i
  unfolding attach
  at_attach a [] i = by_test (discrete a 𝟘) i
    where
      by_test : (d : Dec (a ≡ 𝟘)) (i : ℕ) → at (elim d [ yes _ ↦ [] | no _ ↦ a ∷ [] ]) i ≡ at (a ∷ []) i
      by_test (yes e) zero = sym e
      by_test (yes e) (suc i) = refl
      by_test (no h) i = refl
  at_attach a (b ∷ p) i = refl

  pub at_trim : (p : List K) (i : ℕ) → at (trim F p) i ≡ at p i
  unfolding trim
  at_trim [] i = refl
  at_trim (a ∷ p) zero = at_attach a (trim F p) 0
  at_trim (a ∷ p) (suc i) = at_attach a (trim F p) (suc i) ∙ at_trim p i

  pub not_zero : (a : K) → Nonzero F a → ¬ (a ≡ 𝟘)
  not_zero a n = by_test (discrete a 𝟘) n
    where
      by_test : (d : Dec (a ≡ 𝟘)) → IsNo d → ¬ (a ≡ 𝟘)
      by_test (yes _) n = absurd n
      by_test (no h) n = h

  trimmed_tail : (a : K) (p : List K) → Trimmed F (a ∷ p) → Trimmed F p
  trimmed_tail a [] t = tt
  trimmed_tail a (b ∷ p) t = t

  pub at_end : (a : K) (p : List K) → Trimmed F (a ∷ p) → ¬ (at (a ∷ p) (length p) ≡ 𝟘)
  at_end a [] t = not_zero a t
  at_end a (b ∷ p) t = at_end b p t

  pub at_last : (p : List K) → Trimmed F p → (i : ℕ) → length p ≡ suc i → ¬ (at p i ≡ 𝟘)
  at_last [] t i e = absurd (omega arith)
  at_last (a ∷ p) t i e = let h : length p ≡ i = omega arith in subst (λ k. ¬ (at (a ∷ p) k ≡ 𝟘)) h (at_end a p t)

  pub eq_of_at : (p q : List K) → Trimmed F p → Trimmed F q → ((i : ℕ) → at p i ≡ at q i) → p ≡ q
  eq_of_at [] [] s t h = refl
  eq_of_at [] (b ∷ q) s t h = absurd (at_end b q t (sym (h (length q))))
  eq_of_at (a ∷ p) [] s t h = absurd (at_end a p s (h (length p)))
  eq_of_at (a ∷ p) (b ∷ q) s t h = ap₂ ◌∷◌ (h 0) (eq_of_at p q (trimmed_tail a p s) (trimmed_tail b q t) (λ i. h (suc i)))

  pub length_le : (p : List K) → Trimmed F p → (d : ℕ) → ((j : ℕ) → d ≤ j → at p j ≡ 𝟘) → length p ≤ d
  length_le [] t d h = zero-le
  length_le (a ∷ p) t d h = by_test (dec_le d (length p))
    where
      by_test : Dec (d ≤ length p) → suc (length p) ≤ d
      by_test (yes l) = absurd (at_end a p t (h (length p) l))
      by_test (no n) = omega arith
