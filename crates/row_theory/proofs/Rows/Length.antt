-- The length of a row: the index from which on its numbers are 0.
use Prim.Native.Nat.{ℕ, zero, suc, ◌-◌, ◌≤◌, ◌<◌}
use mathlib.Core.{Path.◌≡◌, Path.refl, Path.sym, Path.◌∙◌, Path.ap, List.List, List.[], List.◌∷◌}
use native.Mathlib.{Omega.arith, Decide.dec_le}
use lib.ListN.{length, get_or, get_or-eq_default}
use Rattle.row_theory.specs.Row.{InRange, places_cons, places, row_len}
use Rattle.row_theory.proofs.Rows.Coefficients.{row_len_le, row_len_is, row_len_length}

-- the numbers from n on are 0
pub record Blank (r : List ℕ) (n : ℕ) : Type 0 where
  pub zeros : (i : ℕ) → n ≤ i → get_or r i 0 ≡ 0

pub blank_start : {r : List ℕ} → length r ≡ 12 → Blank r 12
blank_start {r} e = record { zeros = λ i h. get_or-eq_default r 0 (omega arith) }

pub blank_less : {r : List ℕ} {n : ℕ} → Blank r n → get_or r (n - 1) 0 ≡ 0 → Blank r (n - 1)
blank_less {r} {n} b e =
    record { zeros = λ i h. elim (dec_le n i) [ yes k ↦ b.zeros i k | no k ↦ ap (λ j. get_or r j 0) (omega arith) ∙ e ] }

-- `places` is the only index from which on all numbers are 0 and before which one is not
past_places :
    (r : List ℕ)
    → ((i : ℕ) → places r ≤ i → get_or r i 0 ≡ 0)
    → (k : ℕ)
    → places r ≡ k
    → (n i : ℕ)
    → places_cons k n ≤ i
    → get_or (n ∷ r) i 0 ≡ 0
unfolding places_cons
past_places r ih (suc k) e n zero h = let z : suc (suc k) ≤ 0 = h in absurd (omega arith)
past_places r ih (suc k) e n (suc i) h = let z : suc (suc k) ≤ suc i = h in ih i (omega arith)
past_places r ih zero e zero zero h = refl
past_places r ih zero e zero (suc i) h = ih i (omega arith)
past_places r ih zero e (suc n) zero h = let z : 1 ≤ 0 = h in absurd (omega arith)
past_places r ih zero e (suc n) (suc i) h = ih i (omega arith)

pub places_past : (r : List ℕ) (i : ℕ) → places r ≤ i → get_or r i 0 ≡ 0
unfolding places
places_past [] i h = refl
places_past (n ∷ r) i h = past_places r (places_past r) (places r) refl n i h

top_places :
    (r : List ℕ)
    → ((m : ℕ) → places r ≡ suc m → ¬ (get_or r m 0 ≡ 0))
    → (k : ℕ)
    → places r ≡ k
    → (n m : ℕ)
    → places_cons k n ≡ suc m
    → ¬ (get_or (n ∷ r) m 0 ≡ 0)
unfolding places_cons
top_places r ih (suc k) z n zero e = let w : suc (suc k) ≡ 1 = e in absurd (omega arith)
top_places r ih (suc k) z n (suc m) e = let w : suc (suc k) ≡ suc (suc m) = e in ih m (omega arith)
top_places r ih zero z zero m e = let w : 0 ≡ suc m = e in absurd (omega arith)
top_places r ih zero z (suc n) zero e = λ w. let v : suc n ≡ 0 = w in absurd (omega arith)
top_places r ih zero z (suc n) (suc m) e = let w : 1 ≡ suc (suc m) = e in absurd (omega arith)

pub places_top : (r : List ℕ) (m : ℕ) → places r ≡ suc m → ¬ (get_or r m 0 ≡ 0)
unfolding places
places_top [] m e = let w : 0 ≡ suc m = e in absurd (omega arith)
places_top (n ∷ r) m e = top_places r (places_top r) (places r) refl n m e

pub places_is : {r : List ℕ} {n : ℕ} → Blank r n → (0 < n → ¬ (get_or r (n - 1) 0 ≡ 0)) → n ≡ places r
places_is {r} {n} b t =
    elim (dec_le n (places r)) [
      | yes a ↦
          elim (dec_le (places r) n) [
            | yes c ↦ omega arith
            | no c ↦ absurd (places_top r (places r - 1) (omega arith) (b.zeros (places r - 1) (omega arith)))
          ]
      | no a ↦ absurd (t (omega arith) (places_past r (n - 1) (omega arith)))
    ]

-- for numbers in range it is the degree plus one
pub places_len : (r : List ℕ) {n : ℕ} → n ≡ places r → (d : ℕ) → InRange d r → n ≡ row_len d r
places_len r {n} e d h =
    elim (dec_le n 0) [
      | yes k ↦ let l : row_len d r ≤ 0 = row_len_le d r 0 (λ i j. places_past r i (omega arith)) in omega arith
      | no k ↦
          let z : suc (n - 1) ≡ n = omega arith in
          sym (row_len_is d r (n - 1) h (λ i j. places_past r i (omega arith)) (places_top r (n - 1) (sym e ∙ sym z)) ∙ z)
    ]

-- what `length` answers is at most 12
pub length_le : (d : ℕ) (r : List ℕ) {n : ℕ} → n ≡ row_len d r → length r ≡ 12 → n ≤ 12
length_le d r e h = let k : row_len d r ≤ 12 = row_len_length d r 12 h in omega arith
