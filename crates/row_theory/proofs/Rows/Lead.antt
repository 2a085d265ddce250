-- The leading number of a row that does not stand for 0: its index, and the row without it.
use Prim.Native.Nat.{ℕ, suc, ◌-◌, ◌≤◌, ◌<◌}
use mathlib.Core.{Path.◌≡◌, Path.sym, Path.◌∙◌, Path.ap, List.List}
use native.Mathlib.{Omega.arith, Decide.ℕ_discrete}
use lib.{ListN.length, ListN.get_or, ListN.set, Seq.get_or-set_same, Seq.get_or-set_other}
use Rattle.field_laws.specs.Ring.{Ring2}
use Rattle.char2_algebra.specs.Lead.{lead}
use Rattle.char2_algebra.proofs.{Ring.ring2, Degree.len_nonzero, Lead.lead_is}
use Rattle.row_theory.specs.{Field.Poly, Field.𝔸, Field.el, Field.poly, Row.InRange, Row.row_len, internal.Elements.x_power}
use Rattle.row_theory.proofs.{Rows.Elements.zero_lt, Rows.Coefficients.coeff_poly, Rows.Coefficients.row_len_le, Rows.Shift.poly_strike}
use Rattle.row_theory.proofs.{Rows.Coefficients.row_len_length, Rows.Coefficients.zero_past, Rows.Coefficients.top_nonzero, Rows.Fill.range_set}

-- the leading number has index top
pub record Leads (d : ℕ) (r : List ℕ) (top : ℕ) : Type 0 where
  pub size : length r ≡ 12
  pub range : InRange d r
  pub top_lt : top < 12
  pub len : row_len d r ≡ suc top
  pub nonzero : ¬ (get_or r top 0 ≡ 0)

pub length_pos : (d : ℕ) (r : List ℕ) {n : ℕ} → n ≡ row_len d r → ¬ (poly d r ≡ (𝔸 d).ring.zero) → 1 ≤ n
length_pos d r e h = let k : 0 < row_len d r = len_nonzero (𝔸 d) (poly d r) h in omega arith

pub leads_at : (d : ℕ) (r : List ℕ) {top : ℕ} → length r ≡ 12 → InRange d r → row_len d r ≡ suc top → Leads d r top
leads_at d r {top} s g e =
    let l : row_len d r ≤ 12 = row_len_length d r 12 s in
    record { size = s; range = g; top_lt = omega arith; len = e; nonzero = top_nonzero d r top e }

pub leads : (d : ℕ) (r : List ℕ) {n : ℕ} → length r ≡ 12 → InRange d r → n ≡ row_len d r → ¬ (poly d r ≡ (𝔸 d).ring.zero) → Leads d r (n - 1)
leads d r {n} s g e h =
    let k : 0 < row_len d r = len_nonzero (𝔸 d) (poly d r) h in
    leads_at d r s g (omega arith)

module _ {d : ℕ} {r : List ℕ} {top : ℕ} (s : Leads d r top) where
  pub lead_row : lead (𝔸 d) (poly d r) ≡ el d (get_or r top 0)
  lead_row = lead_is (𝔸 d) (poly d r) top s.len ∙ coeff_poly d r top

  -- the row without its leading number
  pub low_range : InRange d (set r top 0)
  low_range = range_set d r top 0 (let z : length r ≡ 12 = s.size in let t : top < 12 = s.top_lt in omega arith) s.range (zero_lt d)

  pub low_top : get_or (set r top 0) top 0 ≡ 0
  low_top = get_or-set_same r top 0 0 (let z : length r ≡ 12 = s.size in let t : top < 12 = s.top_lt in omega arith)

  pub low_len : row_len d (set r top 0) ≤ top
  low_len = row_len_le d (set r top 0) top (λ i h. go i h (ℕ_discrete i top))
    where
      go : (i : ℕ) → top ≤ i → Dec (i ≡ top) → get_or (set r top 0) i 0 ≡ 0
      go i h (yes e) = rw e low_top
      go i h (no e) = get_or-set_other r top i 0 0 e ∙ zero_past d r i s.range (let z : row_len d r ≡ suc top = s.len in omega arith)

  pub row_split : poly d r ≡ (𝔸 d).ring.add (poly d (set r top 0)) ((𝔸 d).ring.mul ((𝔸 d).con (el d (get_or r top 0))) (x_power d top))
  row_split =
      sym (ap (λ z. (𝔸 d).ring.add z m) (poly_strike d r top (let z : length r ≡ 12 = s.size in let t : top < 12 = s.top_lt in omega arith)) ∙ last_cancels (𝔸 d).ring (poly d r) m)
    where
      m : Poly d
      m = (𝔸 d).ring.mul ((𝔸 d).con (el d (get_or r top 0))) (x_power d top)

      last_cancels : {A : Type 0} (R : Ring2 A) (a b : A) → R.add (R.add a b) b ≡ a
      last_cancels R a b = simp (ring2, R)
