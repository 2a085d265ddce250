-- The check of rows of any numbers: what each test shows where it holds and where it fails.
use Prim.Native.Nat.{ℕ, ◌-◌, ◌≤◌, ◌<◌, ◌^◌}
use mathlib.Core.{Path.◌≡◌, Path.refl, Path.sym, Path.◌∙◌, Path.ap, Path.subst, Bool.Bool, Bool.true, Bool.false, List.List}
use native.Mathlib.{Omega.arith, Decide.dec_le}
use lib.{Dec.eqb, ListN.length, ListN.get_or, ListN.get_or-eq_default}
use borrow.Author.Tests.{eqb-true, eq-eqb}
use Rattle.binary_field_theory.specs.Element.{Accepted}
use Rattle.binary_field.specs.Answer.{bound}
use Rattle.binary_field.proofs.Degrees.{bound_accepted}
use Rattle.char2_algebra.specs.Lead.{Monic}
use Rattle.char2_algebra.proofs.{Degree.len_zero, Degree.len_of_zero, Division.rem_of_divides, Division.divides_of_rem, Lead.monic_nonzero}
use Rattle.class_group.specs.Mumford.{value}
use Rattle.row_theory.specs.{Field.degree_of, Field.𝔸, Field.el, Field.poly, Row.InRange, Row.Stands, Row.row_len}
use Rattle.class_rows.specs.{Pair.rows_pair, internal.Check.Decides, Core.Divisor, internal.Check.FormedRows}
use Rattle.row_theory.proofs.{Rows.Elements.degree_is, Rows.Elements.zero_lt, Rows.Elements.el_one, Rows.Elements.one_of_one, Rows.Lead.leads, Rows.Lead.lead_row}
use Rattle.class_rows.proofs.ReductionRows.{reduced_on, value_stands}
use Rattle.class_rows.specs.declared.row.RowPair.{RowPair}

-- ---- tests that decide a statement
pub by_number : {m n : ℕ} {P : Type 0} → (m ≡ n → P) → (P → m ≡ n) → Decides (eqb m n) P
by_number {m} {n} f g = (λ e. f (eqb-true m n e), λ p. eq-eqb m n (g p))

pub same_answer : (t x : Bool) {P : Type 0} → Decides t P → Decides x P → t ≡ x
same_answer true x h k = sym (k.1 (h.0 refl))
same_answer false true h k = h.1 (k.0 refl)
same_answer false false h k = refl

-- ---- the range of a row
pub bound_is : (d : ℕ) {m : ℕ} → Accepted d → m ≡ bound d → m ≡ 2 ^ degree_of d
bound_is d ok e = e ∙ bound_accepted d ok ∙ ap (λ n. 2 ^ n) (sym (degree_is d ok))

pub record Below (d : ℕ) (r : List ℕ) (i : ℕ) : Type 0 where
  pub at : (j : ℕ) → j < i → get_or r j 0 < 2 ^ degree_of d

module _ (d : ℕ) where
  module _ {r : List ℕ} where
    pub below_range : {i : ℕ} → Below d r i → 12 ≤ i → length r ≡ 12 → InRange d r
    below_range {i} b h e j = go (dec_le 12 j)
      where
        go : Dec (12 ≤ j) → get_or r j 0 < 2 ^ degree_of d
        go (no l) = b.at j (omega arith)
        go (yes l) = subst (λ n. n < 2 ^ degree_of d) (sym (get_or-eq_default r 0 (omega arith))) (zero_lt d)

  -- ---- the leading coefficient
  pub monic_decides : (r : List ℕ) {n : ℕ} → length r ≡ 12 → InRange d r → n ≡ row_len d r → ¬ (n ≡ 0)
      → Decides (eqb (get_or r (n - 1) 0) 1) (Monic (𝔸 d) (poly d r))
  monic_decides r {n} size range e h =
      let l = leads d r size range e (λ z. h (e ∙ ap (𝔸 d).len z ∙ len_of_zero (𝔸 d))) in
      by_number (λ k. lead_row l ∙ ap (el d) k ∙ el_one d) (λ m. one_of_one d (get_or r (n - 1) 0) (range (n - 1)) (sym (lead_row l) ∙ m))

-- ---- a pair
module _ {d : ℕ} {f : List ℕ} {a : RowPair} where
  pub formed_divisor : Divisor d f a → FormedRows d f a
  unfolding rows_pair
  formed_divisor h =
      let r = h.reduced in
      record {
        degree = h.degree;
        curve = (r.C, r.on_curve);
        pair = record { u_range = r.u_range; v_range = r.v_range; u_monic = r.reduced.u_monic; u_len = r.reduced.u_len; v_len = r.reduced.v_len };
      }

  -- the remainder of v² + v + f decides whether the pair is a divisor
  pub remainder_decides : {n : ℕ} (h : FormedRows d f a) → n ≡ (𝔸 d).len ((𝔸 d).rem (value h.curve.0 (poly d a.v)) (poly d a.u)) → Decides (eqb n 0) (Divisor d f a)
  unfolding rows_pair
  remainder_decides h same =
      let nonzero = monic_nonzero (𝔸 d) (poly d a.u) h.pair.u_monic in
      let C = h.curve.0 in
      by_number
      (λ z. record {
        degree = h.degree;
        reduced = record {
          C = C;
          on_curve = h.curve.1;
          u_range = h.pair.u_range;
          v_range = h.pair.v_range;
          reduced = record {
            u_monic = h.pair.u_monic;
            u_len = h.pair.u_len;
            v_len = h.pair.v_len;
            divides = divides_of_rem (𝔸 d) (poly d a.u) nonzero (value C (poly d a.v)) (len_zero (𝔸 d) _ (sym same ∙ z));
          };
        };
      })
      (λ D. same ∙ ap (𝔸 d).len (rem_of_divides (𝔸 d) (poly d a.u) nonzero (value C (poly d a.v)) (reduced_on d D.reduced h.curve.1).divides) ∙ len_of_zero (𝔸 d))

  -- the same of the rows of a division
  pub division_decides : {n : ℕ} {l rest : List ℕ} (h : FormedRows d f a)
      → Stands d l ((𝔸 d).ring.add ((𝔸 d).ring.add ((𝔸 d).ring.mul (poly d a.v) (poly d a.v)) (poly d a.v)) (poly d f))
      → Stands d rest ((𝔸 d).rem (poly d l) (poly d a.u))
      → n ≡ row_len d rest
      → Decides (eqb n 0) (Divisor d f a)
  division_decides h t s e =
      remainder_decides h (e ∙ ap (𝔸 d).len (s.stands ∙ ap (λ z. (𝔸 d).rem z (poly d a.u)) (value_stands d a.v h.curve.1 t)))
