-- The cases of the halving rule: after the lift that `half` chooses, the third polynomial has no odd power, and a
-- constant times its highest coefficient is 1 (`Even`).
-- `row_1`: degree 1. `row_2_square`, `row_2`: degree 2 with u1 zero and not zero.
-- `row_3_square`, `row_3`: degree 3 with t zero and not zero.
-- `first_lift_nonzero`: the third polynomial after the first lift of degree 3 is not 0.
use Prim.Native.Nat.{ℕ, zero, suc, ◌≤◌, ◌<◌, ◌+◌}
use mathlib.Core.Path.{◌≡◌, refl, sym, ◌∙◌, ap}
use native.Mathlib.Omega.{arith}
use Rattle.field_laws.specs.Ring.{Ring2}
use Rattle.field_laws.specs.Field.{Field2}
use Rattle.char2_algebra.specs.Polynomials.{Polynomials}
use Rattle.char2_algebra.proofs.Ring.{ring2, ·_𝟘, by, both, combine}
use Rattle.char2_algebra.proofs.Degree.{coeff_zero}
use Rattle.class_group.specs.Half.{first_lift}
use Rattle.class_group.proofs.LiftCoefficients.{lifted, lifted_one, lifted_three, lifted_past}

module _ {K P : Type 0} {F : Field2 K} (A : Polynomials F P) where
  open A use {coeff}
  open F.ring use {mul as ◌·◌, zero as 𝟘, one as 𝟙}

  infixl 70 ◌·◌
  -- p has degree 2m and no odd power, and c times its highest coefficient is 1
  pub record Even (c : K) (m : ℕ) (p : P) : Type 0 where
    pub top : c · coeff p (m + m) ≡ 𝟙
    pub past : (i : ℕ) → m + m < i → coeff p i ≡ 𝟘
    pub odd : (i : ℕ) → coeff p (suc (i + i)) ≡ 𝟘

module _ {B : Type 0} (R : Ring2 B) where
  open R use {add as ◌⊞◌, mul as ◌·◌, zero as 𝟘, one as 𝟙}

  infixl 60 ◌⊞◌
  infixl 70 ◌·◌
  -- w + k + s u with s u = w + k
  cancels : (a s u : B) → s · u ≡ a → a ⊞ s · u ≡ 𝟘
  cancels a s u h = combine R _ _ (by R 𝟙 h) (simp (ring2, R))

  -- a + (s u + s' u') with u = 0 and s' u' = a
  cancels2 : (a s u s' u' : B) → u ≡ 𝟘 → s' · u' ≡ a → a ⊞ (s · u ⊞ s' · u') ≡ 𝟘
  cancels2 a s u s' u' h k = combine R _ _ (both R (by R 𝟙 k) (by R s h)) (simp (ring2, R))

  cancels3 : (a s u s' u' s'' u'' : B) → u ≡ 𝟘 → u' ≡ 𝟘 → s'' · u'' ≡ a → a ⊞ (s · u ⊞ (s' · u' ⊞ s'' · u'')) ≡ 𝟘
  cancels3 a s u s' u' s'' u'' h h' k = combine R _ _ (both R (by R 𝟙 k) (both R (by R s h) (by R s' h'))) (simp (ring2, R))

  -- a + (s u + (s' u' + s'' u'')) where the three u are 0
  stays : (a s u s' u' s'' u'' : B) → u ≡ 𝟘 → u' ≡ 𝟘 → u'' ≡ 𝟘 → a ⊞ (s · u ⊞ (s' · u' ⊞ s'' · u'')) ≡ a
  stays a s u s' u' s'' u'' h h' h'' = combine R _ _ (both R (by R s h) (both R (by R s' h') (by R s'' h''))) (simp (ring2, R))

  -- c (a + (s u + (s' u' + s'' u''))) where only s'' u'' = i is left, and c i = 1
  leaves_last :
      (c a s u s' u' s'' u'' i : B)
      → a ≡ 𝟘
      → u ≡ 𝟘
      → u' ≡ 𝟘
      → s'' · u'' ≡ i
      → c · i ≡ 𝟙
      → c · (a ⊞ (s · u ⊞ (s' · u' ⊞ s'' · u''))) ≡ 𝟙
  leaves_last c a s u s' u' s'' u'' i h0 h1 h2 h3 h4 =
      combine R _ _ (both R (by R c h0) (both R (by R (c · s) h1) (both R (by R (c · s') h2) (both R (by R c h3) (by R 𝟙 h4))))) (simp (ring2, R))

  -- the same with k2 = 0
  leaves_middle :
      (c a s u s' u' u'' i : B)
      → a ≡ 𝟘
      → u ≡ 𝟘
      → s' · u' ≡ i
      → c · i ≡ 𝟙
      → c · (a ⊞ (s · u ⊞ (s' · u' ⊞ 𝟘 · 𝟘 · u''))) ≡ 𝟙
  leaves_middle c a s u s' u' u'' i h0 h1 h2 h3 =
      combine R _ _ (both R (by R c h0) (both R (by R (c · s) h1) (both R (by R c h2) (by R 𝟙 h3)))) (simp (ring2, R))

  vanishes : (a s u s' u' u'' : B) → a ≡ 𝟘 → u ≡ 𝟘 → u' ≡ 𝟘 → a ⊞ (s · u ⊞ (s' · u' ⊞ 𝟘 · 𝟘 · u'')) ≡ 𝟘
  vanishes a s u s' u' u'' h h' h'' = combine R _ _ (both R (by R 𝟙 h) (both R (by R s h') (by R s' h''))) (simp (ring2, R))

  -- the same with k2 = k1 = 0
  stays_first : (a s u u' u'' : B) → u ≡ 𝟘 → a ⊞ (s · u ⊞ (𝟘 · 𝟘 · u' ⊞ 𝟘 · 𝟘 · u'')) ≡ a
  stays_first a s u u' u'' h = combine R _ _ (by R s h) (simp (ring2, R))

  cancels_first : (a s u u' : B) → s ≡ a → u ≡ 𝟙 → a ⊞ (s · u ⊞ 𝟘 · 𝟘 · u') ≡ 𝟘
  cancels_first a s u u' h h' = combine R _ _ (both R (by R 𝟙 h) (by R s h')) (simp (ring2, R))

  -- the last case: t i = 1 and q q = u + i
  last_one : (u i q t l : B) → l ≡ t · t → t · i ≡ 𝟙 → q · q ≡ u ⊞ i → u ⊞ i ⊞ q · i · (q · i) · l ≡ 𝟘
  last_one u i q t l h1 h2 h3 =
      combine R _ _ (both R (by R (q · q · i · i) h1) (both R (by R (q · q · (t · i ⊞ 𝟙)) h2) (by R 𝟙 h3))) (simp (ring2, R))

  last_three : (u i t l s l' : B) → l ≡ t · t → t · i ≡ 𝟙 → u ≡ 𝟙 → l' ≡ 𝟘 → u ⊞ (s · l' ⊞ i · i · l) ≡ 𝟘
  last_three u i t l s l' h1 h2 h3 h4 =
      combine R _ _ (both R (by R (i · i) h1) (both R (by R (t · i ⊞ 𝟙) h2) (both R (by R 𝟙 h3) (by R s h4)))) (simp (ring2, R))

  pub squares_one : (t i : B) → t · i ≡ 𝟙 → t · t · (i · i) ≡ 𝟙
  squares_one t i h = combine R _ _ (by R (t · i ⊞ 𝟙) h) (simp (ring2, R))

  times_one : (s u a : B) → s ≡ a → u ≡ 𝟙 → s · u ≡ a
  times_one s u a h k = combine R _ _ (both R (by R s k) (by R 𝟙 h)) (simp (ring2, R))

  times_inverse : (s u a i : B) → s ≡ a · i → u · i ≡ 𝟙 → s · u ≡ a
  times_inverse s u a i h k = combine R _ _ (both R (by R u h) (by R a k)) (simp (ring2, R))

module _ {K P : Type 0} {F : Field2 K} (A : Polynomials F P) where
  open A use {coeff, len}
  open F.ring use {add as ◌⊞◌, mul as ◌·◌, zero as 𝟘, one as 𝟙}
  open F use {ring as 𝕂, root, inverse}

  infixl 60 ◌⊞◌
  infixl 70 ◌·◌
  -- a polynomial of degree at most 6 has no odd power if its coefficients 1, 3 and 5 are 0
  odd_by_three : (p : P) (n : ℕ) → n ≤ 7 → ((i : ℕ) → n ≤ i → coeff p i ≡ 𝟘) → coeff p 1 ≡ 𝟘 → coeff p 3 ≡ 𝟘 → coeff p 5 ≡ 𝟘 → (i : ℕ) → coeff p (suc (i + i)) ≡ 𝟘
  odd_by_three p n h past e1 e3 e5 zero = e1
  odd_by_three p n h past e1 e3 e5 (suc zero) = e3
  odd_by_three p n h past e1 e3 e5 (suc (suc zero)) = e5
  odd_by_three p n h past e1 e3 e5 (suc (suc (suc i))) = past _ (omega arith)

  -- past the lengths of w and k² u the coefficients are 0
  lifted_ends : (u w : P) (k2 k1 k0 : K) (n : ℕ) → len w ≤ suc (suc (suc (suc n))) → len u ≤ n → (i : ℕ) → suc (suc (suc (suc n))) ≤ i → coeff (lifted A k2 k1 k0 u w) i ≡ 𝟘
  lifted_ends u w k2 k1 k0 n hw hu zero h = absurd (omega arith)
  lifted_ends u w k2 k1 k0 n hw hu (suc zero) h = absurd (omega arith)
  lifted_ends u w k2 k1 k0 n hw hu (suc (suc zero)) h = absurd (omega arith)
  lifted_ends u w k2 k1 k0 n hw hu (suc (suc (suc zero))) h = absurd (omega arith)
  lifted_ends u w k2 k1 k0 n hw hu (suc (suc (suc (suc j)))) h =
      lifted_past A k2 k1 k0 u w j
      ∙ stays 𝕂 _ _ _ _ _ _ _ (A.len_past u _ (omega arith)) (A.len_past u _ (omega arith)) (A.len_past u _ (omega arith))
      ∙ A.len_past w _ (omega arith)

  -- degree 1: u = x + u0, w = x⁶ + ..
  module _ (u w : P) (u_len : len u ≡ 2) (u_top : coeff u 1 ≡ 𝟙) (w_len : len w ≡ 7) (w_top : coeff w 6 ≡ 𝟙) where
    pub row_1 :
        Even A 𝟙 3 (lifted A (root (coeff w 5)) (root (coeff w 3)) (root (coeff w 1 ⊞ root (coeff w 3))) u w)
    row_1 =
        record {
          top = 𝕂.mul_comm 𝟙 _ ∙ 𝕂.mul_one _ ∙ lifted_past A _ _ _ u w 2 ∙ stays 𝕂 _ _ _ _ _ _ _ (u_past 6 (omega arith)) (u_past 4 (omega arith)) (u_past 2 (omega arith)) ∙ w_top;
          past = past;
          odd =
              odd_by_three
              _
              7
              (omega arith)
              past
              (lifted_one A _ _ _ u w ∙ cancels 𝕂 _ _ _ (times_one 𝕂 _ _ _ (F.root_square _) u_top))
              (lifted_three A _ _ _ u w ∙ cancels2 𝕂 _ _ _ _ _ (u_past 3 (omega arith)) (times_one 𝕂 _ _ _ (F.root_square _) u_top))
              (lifted_past A _ _ _ u w 1 ∙ cancels3 𝕂 _ _ _ _ _ _ _ (u_past 5 (omega arith)) (u_past 3 (omega arith)) (times_one 𝕂 _ _ _ (F.root_square _) u_top));
        }
      where
        u_past : (i : ℕ) → 2 ≤ i → coeff u i ≡ 𝟘
        u_past i h = A.len_past u i (omega arith)

        past : (i : ℕ) → 7 ≤ i → coeff (lifted A (root (coeff w 5)) (root (coeff w 3)) (root (coeff w 1 ⊞ root (coeff w 3))) u w) i ≡ 𝟘
        past = lifted_ends u w _ _ _ 3 (omega arith) (omega arith)

  -- degree 2, u = x² + u0
  pub row_2_square : (u : P) → len u ≡ 3 → coeff u 2 ≡ 𝟙 → coeff u 1 ≡ 𝟘 → Even A 𝟙 1 u
  row_2_square u u_len u_top e =
      record {
        top = 𝕂.mul_comm 𝟙 _ ∙ 𝕂.mul_one _ ∙ u_top;
        past = past;
        odd = odd_by_three u 3 (omega arith) past e (past 3 (omega arith)) (past 5 (omega arith));
      }
    where
      past : (i : ℕ) → 3 ≤ i → coeff u i ≡ 𝟘
      past i h = A.len_past u i (omega arith)

  -- degree 2, u = x² + u1 x + u0 with u1 ≠ 0, w = x⁵ + ..
  module _
      (u w : P)
      (u_len : len u ≡ 3)
      (u_top : coeff u 2 ≡ 𝟙)
      (w_len : len w ≡ 6)
      (w_top : coeff w 5 ≡ 𝟙)
      (i : K)
      (inverts : coeff u 1 · i ≡ 𝟙)
    where
      pub row_2 : Even A (coeff u 1) 3 (lifted A (root i) (root (coeff w 3 · i)) (root ((coeff w 1 ⊞ root (coeff w 3 · i)) · i)) u w)
      row_2 =
          record {
            top =
                ap (λ z. coeff u 1 · z) (lifted_past A _ _ _ u w 2)
                ∙ leaves_last 𝕂 _ _ _ _ _ _ _ _ i (A.len_past w 6 (omega arith)) (u_past 6 (omega arith)) (u_past 4 (omega arith)) (times_one 𝕂 _ _ _ (F.root_square i) u_top) inverts;
            past = past;
            odd =
                odd_by_three
                _
                7
                (omega arith)
                past
                (lifted_one A _ _ _ u w ∙ cancels 𝕂 _ _ _ (times_inverse 𝕂 _ _ _ i (F.root_square _) inverts))
                (lifted_three A _ _ _ u w ∙ cancels2 𝕂 _ _ _ _ _ (u_past 3 (omega arith)) (times_inverse 𝕂 _ _ _ i (F.root_square _) inverts))
                (lifted_past A _ _ _ u w 1 ∙ cancels3 𝕂 _ _ _ _ _ _ _ (u_past 5 (omega arith)) (u_past 3 (omega arith)) (𝕂.mul_comm _ _ ∙ ap (λ z. coeff u 1 · z) (F.root_square i) ∙ inverts ∙ sym w_top));
          }
        where
          u_past : (i : ℕ) → 3 ≤ i → coeff u i ≡ 𝟘
          u_past i h = A.len_past u i (omega arith)

          past : (j : ℕ) → 7 ≤ j → coeff (lifted A (root i) (root (coeff w 3 · i)) (root ((coeff w 1 ⊞ root (coeff w 3 · i)) · i)) u w) j ≡ 𝟘
          past = lifted_ends u w _ _ _ 3 (omega arith) (omega arith)

  -- degree 3: the third polynomial after both lifts, the second by (x + q)/t, with i = 1/t and q² = u1 + i
  unfoldable pub second_lift : P → P → K → P
  second_lift u w i = lifted A 𝟘 i (root (coeff u 1 ⊞ i) · i) (first_lift A u w) u

  -- u = x³ + .., w = x⁴ + ..; the first lift clears x³
  module _ (u w : P) (u_len : len u ≡ 4) (u_top : coeff u 3 ≡ 𝟙) (w_len : len w ≡ 5) (w_top : coeff w 4 ≡ 𝟙) where
    abbrev L : P
    L = first_lift A u w

    u_past : (i : ℕ) → 4 ≤ i → coeff u i ≡ 𝟘
    u_past i h = A.len_past u i (omega arith)

    L_three : coeff L 3 ≡ 𝟘
    unfolding first_lift
    L_three = lifted_three A _ _ _ u w ∙ cancels_first 𝕂 _ _ _ _ (F.root_square _) u_top

    L_four : coeff L 4 ≡ 𝟙
    unfolding first_lift
    L_four = lifted_past A _ _ _ u w 0 ∙ stays_first 𝕂 _ _ _ _ _ (u_past 4 (omega arith)) ∙ w_top

    L_past : (i : ℕ) → 5 ≤ i → coeff L i ≡ 𝟘
    unfolding first_lift
    L_past zero h = absurd (omega arith)
    L_past (suc zero) h = absurd (omega arith)
    L_past (suc (suc zero)) h = absurd (omega arith)
    L_past (suc (suc (suc zero))) h = absurd (omega arith)
    L_past (suc (suc (suc (suc j)))) h =
        lifted_past A _ _ _ u w j ∙ stays_first 𝕂 _ _ _ _ _ (u_past _ (omega arith)) ∙ A.len_past w _ (omega arith)

    pub first_lift_nonzero : ¬ (first_lift A u w ≡ A.ring.zero)
    first_lift_nonzero e = F.one≢zero (sym L_four ∙ ap (λ z. coeff z 4) e ∙ coeff_zero A 4)

    pub row_3_square : root (coeff L 1) ≡ 𝟘 → Even A 𝟙 2 L
    row_3_square e =
        record {
          top = 𝕂.mul_comm 𝟙 _ ∙ 𝕂.mul_one _ ∙ L_four;
          past = L_past;
          odd = odd_by_three L 5 (omega arith) L_past (sym (F.root_square _) ∙ ap (λ z. z · z) e ∙ ·_𝟘 𝕂 𝟘) L_three (L_past 5 (omega arith));
        }

    -- the second lift, by (x + q)/t with t² = l1, i = 1/t and q² = u1 + i
    module _ (i : K) (inverts : root (coeff L 1) · i ≡ 𝟙) where
      abbrev M : P
      M = second_lift u w i

      M_past : (j : ℕ) → 7 ≤ j → coeff M j ≡ 𝟘
      unfolding second_lift
      M_past zero h = absurd (omega arith)
      M_past (suc zero) h = absurd (omega arith)
      M_past (suc (suc zero)) h = absurd (omega arith)
      M_past (suc (suc (suc zero))) h = absurd (omega arith)
      M_past (suc (suc (suc (suc j)))) h =
          lifted_past A _ _ _ L u j ∙ vanishes 𝕂 _ _ _ _ _ _ (u_past _ (omega arith)) (L_past _ (omega arith)) (L_past _ (omega arith))

      pub row_3 : Even A (root (coeff L 1) · root (coeff L 1)) 3 M
      unfolding second_lift
      row_3 =
          record {
            top =
                ap (λ z. root (coeff L 1) · root (coeff L 1) · z) (lifted_past A _ _ _ L u 2)
                ∙ leaves_middle 𝕂 _ _ _ _ _ _ _ (i · i) (u_past 6 (omega arith)) (L_past 6 (omega arith)) (times_one 𝕂 _ _ _ refl L_four) (squares_one 𝕂 _ i inverts);
            past = M_past;
            odd =
                odd_by_three
                M
                7
                (omega arith)
                M_past
                (lifted_one A _ _ _ L u ∙ last_one 𝕂 _ i _ _ _ (sym (F.root_square _)) inverts (F.root_square _))
                (lifted_three A _ _ _ L u ∙ last_three 𝕂 _ i _ _ _ _ (sym (F.root_square _)) inverts u_top L_three)
                (lifted_past A _ _ _ L u 1 ∙ vanishes 𝕂 _ _ _ _ _ _ (u_past 5 (omega arith)) (L_past 5 (omega arith)) L_three);
          }
