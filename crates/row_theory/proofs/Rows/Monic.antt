-- A row made monic.
-- `monic_already`: where the leading number is 1, nothing is done.
-- `monic_made`: else the other numbers are multiplied by its inverse.
use Prim.Native.Nat.{ℕ, ◌<◌}
use mathlib.Core.{Path.◌≡◌, Path.sym, Path.◌∙◌, Path.ap, Path.ap₂, List.List}
use native.Mathlib.Omega.{arith}
use lib.ListN.{length, get_or, set}
use Rattle.field_laws.specs.Ring.{Ring2}
use Rattle.char2_algebra.specs.Lead.{lead, monic_of}
use Rattle.char2_algebra.proofs.{Ring.ring2, Ring.𝟘_⊞, Ring.𝟙_·, Ring.·_𝟘, Ring.·_comm, Degree.con_mul, Degree.con_one, Lead.monic_of_scaled}
use Rattle.row_theory.specs.{Field.F, Field.𝔸, Field.el, Field.poly, internal.Elements.Inverts, Row.Stands, internal.Elements.x_power}
use Rattle.row_theory.proofs.{Rows.Elements.one_lt, Rows.Elements.el_zero, Rows.Elements.el_one, Rows.Answers.inverts_eq, Rows.Coefficients.coeff_poly, Rows.Coefficients.self_stands}
use Rattle.row_theory.proofs.{Rows.Coefficients.stands_eq, Rows.Fill.range_set, Rows.Shift.poly_set, Rows.Lead.Leads, Rows.Lead.lead_row}
use Rattle.row_theory.proofs.Rows.Lead.{low_top, row_split}

scale_split : {A : Type 0} (R : Ring2 A) (i l low x : A) → R.mul i (R.add low (R.mul l x)) ≡ R.add (R.mul i low) (R.mul (R.mul i l) x)
scale_split R i l low x = simp (ring2, R)

module _ {d : ℕ} {r : List ℕ} {top : ℕ} (s : Leads d r top) where
  -- made monic
  pub monic_already : {i : ℕ} → Inverts d i (lead (𝔸 d) (poly d r)) → i ≡ 1 → Stands d r (monic_of (𝔸 d) (poly d r))
  monic_already e one =
      stands_eq d
      (sym (monic_of_scaled (𝔸 d) (poly d r) _ e.unit ∙ ap (λ z. (𝔸 d).ring.mul ((𝔸 d).con z) (poly d r)) (ap (el d) one ∙ el_one d) ∙ ap (λ z. (𝔸 d).ring.mul z (poly d r)) (con_one (𝔸 d)) ∙ 𝟙_· (𝔸 d).ring (poly d r)))
      (self_stands d r s.range)

  pub monic_made :
      {i : ℕ} {t : List ℕ}
      → Inverts d i (lead (𝔸 d) (poly d r))
      → length t ≡ 12
      → Stands d t ((𝔸 d).ring.mul ((𝔸 d).con (el d i)) (poly d (set r top 0)))
      → Stands d (set t top 1) (monic_of (𝔸 d) (poly d r))
  monic_made {i} {t} e z u =
      let h : top < length t = (let k : top < 12 = s.top_lt in omega arith) in
      let one_is : (F d).ring.mul (el d i) (el d (get_or r top 0)) ≡ (F d).ring.one =
      ·_comm (F d).ring _ _ ∙ (inverts_eq d (lead_row s) e).unit in
      let t_top : el d (get_or t top 0) ≡ (F d).ring.zero =
      sym (coeff_poly d t top) ∙ ap (λ y. (𝔸 d).coeff y top) u.stands ∙ (𝔸 d).coeff_con_mul (el d i) (poly d (set r top 0)) top ∙ ap ((F d).ring.mul (el d i)) (coeff_poly d (set r top 0) top ∙ ap (el d) (low_top s) ∙ el_zero d) ∙ ·_𝟘 (F d).ring (el d i) in
      record {
        in_range = range_set d t top 1 h u.in_range (one_lt d);
        stands =
            poly_set d t top 1 (F d).ring.one h (el_one d ∙ sym (ap (λ y. (F d).ring.add y (F d).ring.one) t_top ∙ 𝟘_⊞ (F d).ring (F d).ring.one))
            ∙ ap₂ (𝔸 d).ring.add u.stands (ap (λ y. (𝔸 d).ring.mul y (x_power d top)) (ap (𝔸 d).con (sym one_is) ∙ con_mul (𝔸 d) (el d i) (el d (get_or r top 0))))
            ∙ sym (scale_split (𝔸 d).ring ((𝔸 d).con (el d i)) ((𝔸 d).con (el d (get_or r top 0))) (poly d (set r top 0)) (x_power d top))
            ∙ ap ((𝔸 d).ring.mul ((𝔸 d).con (el d i))) (sym (row_split s))
            ∙ sym (monic_of_scaled (𝔸 d) (poly d r) (el d i) e.unit);
      }
