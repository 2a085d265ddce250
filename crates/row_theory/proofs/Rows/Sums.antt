-- Coefficients of a + c x^s b, in the words of the loops that compute them.
use Prim.Native.Nat.{ℕ, ◌+◌, ◌≤◌, ◌<◌}
use mathlib.Core.{Path.◌≡◌, Path.sym, Path.◌∙◌, Path.ap, Path.ap₂, List.List}
use lib.ListN.{get_or, replicate}
use Rattle.char2_algebra.proofs.{Ring.⊞_𝟘, Ring.𝟘_⊞, Ring.·_𝟘, Ring.𝟘_·, Ring.𝟙_·, Degree.con_of_zero, Degree.con_one}
use Rattle.row_theory.specs.{Field.K, Field.F, Field.Poly, Field.𝔸, Field.el, Field.poly, internal.Elements.Is, internal.Elements.x_power}
use Rattle.row_theory.proofs.{Rows.Elements.el_zero, Rows.Elements.el_one, Rows.Elements.is_eq, Rows.Coefficients.coeff_poly, Rows.Fill.zeros_poly, Rows.Shift.coeff_shift}
use Rattle.row_theory.proofs.Rows.Shift.{coeff_shift_below, coeff_shift_past}

module _ (d : ℕ) where
  open 𝔸 d use {ring, coeff, con, len}
  open (𝔸 d).ring use {add as ◌⊞◌, mul as ◌·◌}
  open (F d).ring use {add as ◌⊞ₖ◌, mul as ◌·ₖ◌, zero as 𝟘ₖ}

  infixl 60 ◌⊞◌
  infixl 70 ◌·◌
  infixl 60 ◌⊞ₖ◌
  infixl 70 ◌·ₖ◌
  -- a + c x^s b
  coeff_added : (p q : Poly d) (c : K d) (i : ℕ) → coeff (p ⊞ con c · q) i ≡ coeff p i ⊞ₖ c ·ₖ coeff q i
  coeff_added p q c i = (𝔸 d).coeff_add _ _ i ∙ ap (λ z. coeff p i ⊞ₖ z) ((𝔸 d).coeff_con_mul c q i)

  same_where_zero : (p q : Poly d) (c : K d) (i : ℕ) → coeff q i ≡ 𝟘ₖ → coeff p i ≡ coeff (p ⊞ con c · q) i
  same_where_zero p q c i e =
      sym (coeff_added p q c i ∙ ap (λ z. coeff p i ⊞ₖ c ·ₖ z) e ∙ ap (λ z. coeff p i ⊞ₖ z) (·_𝟘 (F d).ring c) ∙ ⊞_𝟘 (F d).ring (coeff p i))

  pub added_below : (p q : Poly d) (c : K d) (s i : ℕ) → i < s → coeff p i ≡ coeff (p ⊞ con c · (x_power d s · q)) i
  added_below p q c s i h = same_where_zero p (x_power d s · q) c i (coeff_shift_below d s i q h)

  pub added_past : (p q : Poly d) (c : K d) (s n i : ℕ) → len q ≤ n → s + n ≤ i → coeff p i ≡ coeff (p ⊞ con c · (x_power d s · q)) i
  added_past p q c s n i h k = same_where_zero p (x_power d s · q) c i (coeff_shift_past d s n i q h k)

  pub added_at : (p q : Poly d) (c : K d) (s i : ℕ) → coeff (p ⊞ con c · (x_power d s · q)) (s + i) ≡ coeff p (s + i) ⊞ₖ c ·ₖ coeff q i
  added_at p q c s i = coeff_added p (x_power d s · q) c (s + i) ∙ ap (λ z. coeff p (s + i) ⊞ₖ c ·ₖ z) (coeff_shift d s i q)

  pub multiple_zero : (p q : Poly d) {c : ℕ} → c ≡ 0 → p ≡ p ⊞ con (el d c) · q
  multiple_zero p q e =
      sym (ap (λ z. p ⊞ z) (ap (λ z. con z · q) (ap (el d) e ∙ el_zero d) ∙ ap (λ z. z · q) (con_of_zero (𝔸 d)) ∙ 𝟘_· ring q) ∙ ⊞_𝟘 ring p)

  pub multiple_one : (p q : Poly d) → p ⊞ con (el d 1) · (x_power d 0 · q) ≡ p ⊞ q
  unfolding x_power
  multiple_one p q = ap (λ z. p ⊞ z) (ap₂ ◌·◌ (ap con (el_one d) ∙ con_one (𝔸 d)) (𝟙_· ring q) ∙ 𝟙_· ring q)

  pub multiple_alone : (c : K d) (p : Poly d) → poly d (replicate 12 0) ⊞ con c · (x_power d 0 · p) ≡ con c · p
  unfolding x_power
  multiple_alone c p = ap₂ ◌⊞◌ (zeros_poly d 12) (ap (λ z. con c · z) (𝟙_· ring p)) ∙ 𝟘_⊞ ring _

  pub added_turn :
      (p : Poly d) (b : List ℕ) (c : K d) (s i : ℕ) {y : K d} {t v : ℕ}
      → y ≡ coeff p (s + i)
      → Is d t (c ·ₖ el d (get_or b i 0))
      → Is d v (y ⊞ₖ el d t)
      → Is d v (coeff (p ⊞ con c · (x_power d s · poly d b)) (s + i))
  added_turn p b c s i e t v =
      is_eq d (ap₂ ◌⊞ₖ◌ e (t.stands ∙ ap (λ z. c ·ₖ z) (sym (coeff_poly d b i))) ∙ sym (added_at p (poly d b) c s i)) v
