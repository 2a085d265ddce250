-- A row written from the front, number by number.
-- `Filled`, `filled_start`, `filled_turn`, `filled_skip`: the invariant of the loops over a row. Below k its numbers
-- stand for the coefficients of p, which the loop computes, and from k on for those of q, which it had before.
-- `filled_end`: at the end the row stands for p.
use Prim.Native.Nat.{ℕ, zero, suc, ◌+◌, ◌≤◌, ◌<◌, ◌^◌}
use mathlib.Core.{Path.◌≡◌, Path.refl, Path.sym, Path.◌∙◌, Path.ap, Path.subst, List.List}
use native.Mathlib.{Omega.arith, Decide.dec_le, Decide.ℕ_discrete}
use lib.{ListN.length, ListN.get_or, ListN.set, ListN.replicate, ListN.length-set, Seq.get_or-set_same, Seq.get_or-set_other}
use Rattle.char2_algebra.proofs.Degree.{coeff_zero}
use Rattle.row_theory.specs.{Field.degree_of, Field.F, Field.Poly, Field.𝔸, Field.el, Field.poly, internal.Elements.Is, Row.InRange, Row.Stands}
use Rattle.row_theory.proofs.{Rows.Elements.zero_lt, Rows.Elements.el_zero, Rows.Coefficients.coeff_poly, Rows.Coefficients.stands_by}

-- a number in range stored in a row in range
pub range_set : (d : ℕ) (r : List ℕ) (i v : ℕ) → i < length r → InRange d r → v < 2 ^ degree_of d → InRange d (set r i v)
range_set d r i v h k m j = go (ℕ_discrete j i)
  where
    go : Dec (j ≡ i) → get_or (set r i v) j 0 < 2 ^ degree_of d
    go (yes p) = rw (p, get_or-set_same r i v 0 h) m
    go (no p) = rw (get_or-set_other r i j v 0 p) (k j)

-- every number of a row of zeros is 0
pub zeros_at : (n i : ℕ) → ◌≡◌ {A = ℕ} (get_or (replicate n 0) i 0) 0
zeros_at zero i = refl
zeros_at (suc n) zero = refl
zeros_at (suc n) (suc i) = zeros_at n i

pub zeros_range : (d n : ℕ) → InRange d (replicate n 0)
zeros_range d n i = rw (zeros_at n i) (zero_lt d)

pub coeff_zeros : (d n i : ℕ) → (𝔸 d).coeff (poly d (replicate n 0)) i ≡ (F d).ring.zero
coeff_zeros d n i = coeff_poly d (replicate n 0) i ∙ ap (el d) (zeros_at n i) ∙ el_zero d

pub zeros_poly : (d n : ℕ) → poly d (replicate n 0) ≡ (𝔸 d).ring.zero
zeros_poly d n = (𝔸 d).ext _ _ (λ i. coeff_zeros d n i ∙ sym (coeff_zero (𝔸 d) i))

pub record Filled (d : ℕ) (r : List ℕ) (k : ℕ) (p q : Poly d) : Type 0 where
  pub size : length r ≡ 12
  pub range : InRange d r
  pub below : (i : ℕ) → i < k → el d (get_or r i 0) ≡ (𝔸 d).coeff p i
  pub above : (i : ℕ) → k ≤ i → el d (get_or r i 0) ≡ (𝔸 d).coeff q i

module _ {d : ℕ} where
  pub filled_start : {r : List ℕ} {k : ℕ} {p : Poly d} → length r ≡ 12 → InRange d r → ((i : ℕ) → i < k → (𝔸 d).coeff (poly d r) i ≡ (𝔸 d).coeff p i) → Filled d r k p (poly d r)
  filled_start {r} e h b = record { size = e; range = h; below = λ i m. sym (coeff_poly d r i) ∙ b i m; above = λ i m. sym (coeff_poly d r i) }

  pub filled_turn : {r : List ℕ} {k v : ℕ} {p q : Poly d} → Filled d r k p q → k < 12 → Is d v ((𝔸 d).coeff p k) → Filled d (set r k v) (k + 1) p q
  filled_turn {r} {k} {v} {p} {q} s h e =
      record {
        size = length-set r k v ∙ s.size;
        range = range_set d r k v (let z : length r ≡ 12 = s.size in omega arith) s.range e.in_range;
        below = λ i m. before i m (ℕ_discrete i k);
        above = λ i m. ap (el d) (get_or-set_other r k i v 0 (λ w. absurd (omega arith))) ∙ s.above i (omega arith);
      }
    where
      before : (i : ℕ) → i < k + 1 → Dec (i ≡ k) → el d (get_or (set r k v) i 0) ≡ (𝔸 d).coeff p i
      before i m (yes w) = rw w (ap (el d) (get_or-set_same r k v 0 (let z : length r ≡ 12 = s.size in omega arith)) ∙ e.stands)
      before i m (no w) = ap (el d) (get_or-set_other r k i v 0 w) ∙ s.below i (omega arith)

  pub filled_to : {r : List ℕ} {k l : ℕ} {p q : Poly d} → k ≡ l → Filled d r k p q → Filled d r l p q
  filled_to {r} {k} {l} {p} {q} e s = subst (λ z. Filled d r z p q) e s

  -- one more number that stays as it is
  pub filled_skip : {r : List ℕ} {k : ℕ} {p q : Poly d} → Filled d r k p q → (𝔸 d).coeff q k ≡ (𝔸 d).coeff p k → Filled d r (k + 1) p q
  filled_skip {r} {k} {p} {q} s e =
      record {
        size = s.size;
        range = s.range;
        below = λ i m. before i m (ℕ_discrete i k);
        above = λ i m. s.above i (omega arith);
      }
    where
      before : (i : ℕ) → i < k + 1 → Dec (i ≡ k) → el d (get_or r i 0) ≡ (𝔸 d).coeff p i
      before i m (yes w) = rw w (s.above k (omega arith) ∙ e)
      before i m (no w) = s.below i (omega arith)

  pub filled_end : {r : List ℕ} {k : ℕ} {p q : Poly d} → Filled d r k p q → ((i : ℕ) → k ≤ i → (𝔸 d).coeff q i ≡ (𝔸 d).coeff p i) → Stands d r p
  filled_end {r} {k} {p} {q} s h =
      stands_by d r p s.range (λ i. elim (dec_le k i) [ yes m ↦ s.above i m ∙ h i m | no m ↦ s.below i (omega arith) ])
