-- The schoolbook division of rows.
-- `Dividing`, `dividing_start`, `dividing_turn`: the loop's invariant. a = q b + r throughout, and r has no numbers
-- from k on: each turn cancels the number before k.
-- `quotient_stands`, `remainder_stands`: at the end the rows stand for quotient and remainder.
use Prim.Native.Nat.{ℕ, suc, ◌+◌, ◌-◌, ◌≤◌, ◌<◌}
use mathlib.Core.{Path.◌≡◌, Path.refl, Path.sym, Path.◌∙◌, Path.ap, Path.ap₂, List.List}
use native.Mathlib.{Omega.arith, Decide.ℕ_discrete}
use lib.{ListN.length, ListN.get_or, ListN.set, ListN.replicate, ListN.length-set, Seq.get_or-set_same, Seq.get_or-set_other}
use Rattle.field_laws.specs.Ring.{Ring2}
use Rattle.char2_algebra.specs.Lead.{lead}
use Rattle.char2_algebra.proofs.{Ring.ring2, Ring.𝟘_⊞, Ring.𝟘_·, Ring.⊞_𝟘, Ring.·_𝟘, Ring.·_𝟙, Ring.·_assoc, Ring.·_comm, Degree.con_mul}
use Rattle.char2_algebra.proofs.Division.{rem_is, quot_is}
use Rattle.row_theory.specs.{Field.K, Field.F, Field.Poly, Field.𝔸, Field.el, Field.poly, internal.Elements.Is, internal.Elements.Inverts, Row.InRange, Row.Stands, Row.row_len, internal.Elements.x_power}
use Rattle.row_theory.proofs.{Rows.Elements.el_zero, Rows.Elements.zero_of_zero, Rows.Answers.inverts_eq, Rows.Coefficients.coeff_poly}
use Rattle.row_theory.proofs.Rows.Coefficients.{row_len_le, zero_past, self_stands, stands_eq}
use Rattle.row_theory.proofs.{Rows.Length.Blank, Rows.Fill.range_set, Rows.Fill.zeros_at, Rows.Fill.zeros_range, Rows.Fill.zeros_poly, Rows.Shift.x_power_add}
use Rattle.row_theory.proofs.{Rows.Shift.poly_set_zero, Rows.Shift.poly_strike, Rows.Shift.coeff_shift_past, Rows.Lead.Leads, Rows.Lead.lead_row, Rows.Lead.row_split}

-- q b + r stays the same where c x^s b is added to q b and taken from r;
-- b = low + l x^t, and the leading term c l x^s x^t cancels
division_turn :
    {A : Type 0} (R : Ring2 A) (q r low l c xs xt : A)
    → R.add (R.mul q (R.add low (R.mul l xt))) r
    ≡ R.add (R.mul (R.add q (R.mul c xs)) (R.add low (R.mul l xt))) (R.add (R.add r (R.mul (R.mul c l) (R.mul xs xt))) (R.mul c (R.mul xs low)))
division_turn R q r low l c xs xt = simp (ring2, R)

-- g is low + l x^top, and inverse stands for the inverse of l
pub record IsDivisor (d : ℕ) (low : List ℕ) (top inverse : ℕ) (g : Poly d) : Type 0 where
  pub lead : K d
  pub unit : (F d).ring.mul lead (el d inverse) ≡ (F d).ring.one
  pub split : g ≡ (𝔸 d).ring.add (poly d low) ((𝔸 d).ring.mul ((𝔸 d).con lead) (x_power d top))

pub divisor : {d : ℕ} {b : List ℕ} {top inverse : ℕ} → Leads d b top → Inverts d inverse (lead (𝔸 d) (poly d b)) → IsDivisor d (set b top 0) top inverse (poly d b)
divisor {d} {b} {top} s e =
    record {
      lead = el d (get_or b top 0);
      unit = (inverts_eq d (lead_row s) e).unit;
      split = row_split s;
    }

pub record Dividing (d : ℕ) (low : List ℕ) (top inverse : ℕ) (p : Poly d) (q r : List ℕ) (k : ℕ) : Type 0 where
  pub q_size : length q ≡ 12
  pub r_size : length r ≡ 12
  pub q_range : InRange d q
  pub r_range : InRange d r
  pub r_blank : Blank r k
  pub q_blank : (i : ℕ) → i + top < k → get_or q i 0 ≡ 0
  pub equation : (g : Poly d) → IsDivisor d low top inverse g → p ≡ (𝔸 d).ring.add ((𝔸 d).ring.mul (poly d q) g) (poly d r)

module _ {d : ℕ} {low : List ℕ} {top inverse : ℕ} where
  pub dividing_start : {r : List ℕ} {k : ℕ} → length r ≡ 12 → InRange d r → k ≡ row_len d r → Dividing d low top inverse (poly d r) (replicate 12 0) r k
  dividing_start {r} {k} s h e =
      record {
        q_size = refl;
        r_size = s;
        q_range = zeros_range d 12;
        r_range = h;
        r_blank = record { zeros = λ i m. zero_past d r i h (omega arith) };
        q_blank = λ i m. zeros_at 12 i;
        equation =
            λ g v. sym
            (ap (λ z. (𝔸 d).ring.add ((𝔸 d).ring.mul z g) (poly d r)) (zeros_poly d 12)
            ∙ ap (λ z. (𝔸 d).ring.add z (poly d r)) (𝟘_· (𝔸 d).ring g)
            ∙ 𝟘_⊞ (𝔸 d).ring (poly d r));
      }

  module _ {p : Poly d} {q r : List ℕ} {k : ℕ} (v : Dividing d low top inverse p q r k) (h : top < k) (h' : k ≤ 12) where
    q_next : (c : ℕ) → poly d (set q (k - 1 - top) c) ≡ (𝔸 d).ring.add (poly d q) ((𝔸 d).ring.mul ((𝔸 d).con (el d c)) (x_power d (k - 1 - top)))
    q_next c = poly_set_zero d q (k - 1 - top) c (let z : length q ≡ 12 = v.q_size in omega arith) (v.q_blank (k - 1 - top) (omega arith))

    r_next : poly d (set r (k - 1) 0) ≡ (𝔸 d).ring.add (poly d r) ((𝔸 d).ring.mul ((𝔸 d).con (el d (get_or r (k - 1) 0))) (x_power d (k - 1)))
    r_next = poly_strike d r (k - 1) (let z : length r ≡ 12 = v.r_size in omega arith)

    struck : (i : ℕ) → k - 1 ≤ i → Dec (i ≡ k - 1) → get_or (set r (k - 1) 0) i 0 ≡ 0
    struck i m (yes e) = rw e (get_or-set_same r (k - 1) 0 0 (let z : length r ≡ 12 = v.r_size in omega arith))
    struck i m (no e) = get_or-set_other r (k - 1) i 0 0 e ∙ v.r_blank.zeros i (omega arith)

    module _ {t : List ℕ} {c : ℕ} (low_len : row_len d low ≤ top) (c_is : Is d c ((F d).ring.mul (el d (get_or r (k - 1) 0)) (el d inverse))) (u : Stands d t ((𝔸 d).ring.add (poly d (set r (k - 1) 0)) ((𝔸 d).ring.mul ((𝔸 d).con (el d c)) ((𝔸 d).ring.mul (x_power d (k - 1 - top)) (poly d low))))) where
      leading : (l : K d) → (F d).ring.mul l (el d inverse) ≡ (F d).ring.one → (F d).ring.mul (el d c) l ≡ el d (get_or r (k - 1) 0)
      leading l e =
          ap (λ y. (F d).ring.mul y l) c_is.stands
          ∙ ·_assoc (F d).ring (el d (get_or r (k - 1) 0)) (el d inverse) l
          ∙ ap ((F d).ring.mul (el d (get_or r (k - 1) 0))) (·_comm (F d).ring (el d inverse) l ∙ e)
          ∙ ·_𝟙 (F d).ring (el d (get_or r (k - 1) 0))

      blank : (i : ℕ) → k - 1 ≤ i → el d (get_or t i 0) ≡ (F d).ring.zero
      blank i m =
          sym (coeff_poly d t i)
          ∙ ap (λ y. (𝔸 d).coeff y i) u.stands
          ∙ (𝔸 d).coeff_add _ _ i
          ∙ ap₂ (F d).ring.add (coeff_poly d (set r (k - 1) 0) i ∙ ap (el d) (struck i m (ℕ_discrete i (k - 1))) ∙ el_zero d) ((𝔸 d).coeff_con_mul (el d c) _ i ∙ ap ((F d).ring.mul (el d c)) (coeff_shift_past d (k - 1 - top) top i (poly d low) low_len (omega arith)) ∙ ·_𝟘 (F d).ring (el d c))
          ∙ ⊞_𝟘 (F d).ring (F d).ring.zero

      balance : (g : Poly d) → IsDivisor d low top inverse g → p ≡ (𝔸 d).ring.add ((𝔸 d).ring.mul (poly d (set q (k - 1 - top) c)) g) (poly d t)
      balance g w =
          let at : k - 1 - top + top ≡ k - 1 = omega arith in
          let rest : Poly d = (𝔸 d).ring.mul ((𝔸 d).con (el d c)) ((𝔸 d).ring.mul (x_power d (k - 1 - top)) (poly d low)) in
          v.equation g w
          ∙ ap (λ z. (𝔸 d).ring.add ((𝔸 d).ring.mul (poly d q) z) (poly d r)) w.split
          ∙ division_turn (𝔸 d).ring (poly d q) (poly d r) (poly d low) ((𝔸 d).con w.lead) ((𝔸 d).con (el d c)) (x_power d (k - 1 - top)) (x_power d top)
          ∙ ap₂
          (𝔸 d).ring.add
          (ap₂ (𝔸 d).ring.mul (sym (q_next c)) (sym w.split))
          (ap₂
          (λ y z. (𝔸 d).ring.add ((𝔸 d).ring.add (poly d r) ((𝔸 d).ring.mul y z)) rest)
          (sym (con_mul (𝔸 d) (el d c) w.lead) ∙ ap (𝔸 d).con (leading w.lead w.unit))
          (sym (x_power_add d (k - 1 - top) top) ∙ ap (x_power d) at)
          ∙ ap (λ z. (𝔸 d).ring.add z rest) (sym r_next)
          ∙ sym u.stands)

      pub dividing_turn : length t ≡ 12 → Dividing d low top inverse p (set q (k - 1 - top) c) t (k - 1)
      dividing_turn z =
          record {
            q_size = length-set q (k - 1 - top) c ∙ v.q_size;
            r_size = z;
            q_range = range_set d q (k - 1 - top) c (let y : length q ≡ 12 = v.q_size in omega arith) v.q_range c_is.in_range;
            r_range = u.in_range;
            r_blank = record { zeros = λ i m. zero_of_zero d (get_or t i 0) (u.in_range i) (blank i m) };
            q_blank = λ i m. get_or-set_other q (k - 1 - top) i c 0 (λ e. absurd (omega arith)) ∙ v.q_blank i (omega arith);
            equation = balance;
          }

  module _ {p g : Poly d} {q r : List ℕ} {k : ℕ} (v : Dividing d low top inverse p q r k) (w : IsDivisor d low top inverse g) (h : k ≤ top) (l : (𝔸 d).len g ≡ suc top) where
    short : (𝔸 d).len (poly d r) < (𝔸 d).len g
    short = let m : row_len d r ≤ k = row_len_le d r k (λ i n. v.r_blank.zeros i n) in omega arith

    pub quotient_stands : Stands d q ((𝔸 d).quot p g)
    quotient_stands = stands_eq d (sym (quot_is (𝔸 d) p g (poly d q) (poly d r) short (v.equation g w))) (self_stands d q v.q_range)

    pub remainder_stands : Stands d r ((𝔸 d).rem p g)
    remainder_stands = stands_eq d (sym (rem_is (𝔸 d) p g (poly d q) (poly d r) short (v.equation g w))) (self_stands d r v.r_range)
