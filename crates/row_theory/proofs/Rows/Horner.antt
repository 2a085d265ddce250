-- The row of a(x + c), by Horner's rule.
-- `horner_stands`: the row of a + (x + c) r, from the sums that make it.
-- `Horner`, `horner_start`, `horner_turn`: the loop's invariant. The row stands for the numbers of a from the k-th on,
-- with x replaced by x + c.
-- `horner_short`: while k is not 0 the row has a place left.
-- `horner_end`: at the end the row stands for a(x + c).
use Prim.Native.Nat.{ℕ, zero, suc, ◌+◌, ◌-◌, ◌≤◌}
use mathlib.Core.{Path.◌≡◌, Path.sym, Path.◌∙◌, Path.ap, Path.ap₂, List.List}
use native.Mathlib.Omega.{arith}
use lib.ListN.{length, get_or, replicate, get_or-eq_default}
use Rattle.field_laws.specs.Ring.{Ring2}
use Rattle.char2_algebra.specs.Shift.{shift}
use Rattle.char2_algebra.proofs.{Ring.ring2, Degree.con_one, Degree.coeff_zero, Degree.len_bound, Degree.coeff_con_add_x_mul, Degree.coeff_con_add_x_mul_suc}
use Rattle.char2_algebra.proofs.Shift.{shift_zero, shift_con_add_x_mul, len_shift}
use Rattle.row_theory.specs.{Field.Poly, Field.𝔸, Field.el, Field.poly, Row.InRange, Row.Stands, Row.row_len, internal.Elements.x_power}
use Rattle.row_theory.proofs.Rows.{Elements.el_zero, Elements.el_one, Coefficients.coeff_poly, Coefficients.stands_eq, Coefficients.zero_past, Fill.zeros_range, Fill.zeros_poly}

horner_sums :
    {A : Type 0} (R : Ring2 A) (a c x p : A)
    → R.add (R.add a (R.mul c (R.mul R.one p))) (R.mul R.one (R.mul (R.mul x R.one) p)) ≡ R.add a (R.mul (R.add x c) p)
horner_sums R a c x p = simp (ring2, R)

pub horner_stands :
    (d c a : ℕ) (r : List ℕ) {low sum s : List ℕ}
    → Stands d low ((𝔸 d).con (el d a))
    → Stands d sum ((𝔸 d).ring.add (poly d low) ((𝔸 d).ring.mul ((𝔸 d).con (el d c)) ((𝔸 d).ring.mul (x_power d 0) (poly d r))))
    → Stands d s ((𝔸 d).ring.add (poly d sum) ((𝔸 d).ring.mul ((𝔸 d).con (el d 1)) ((𝔸 d).ring.mul (x_power d 1) (poly d r))))
    → Stands d s ((𝔸 d).ring.add ((𝔸 d).con (el d a)) ((𝔸 d).ring.mul ((𝔸 d).ring.add (𝔸 d).x ((𝔸 d).con (el d c))) (poly d r)))
unfolding x_power
horner_stands d c a r low_is sum_is_lem =
    let R = (𝔸 d).ring in
    stands_eq d
    (ap₂
    (λ y z. R.add y (R.mul z (R.mul (R.mul (𝔸 d).x R.one) (poly d r))))
    (sum_is_lem.stands ∙ ap (λ y. R.add y (R.mul ((𝔸 d).con (el d c)) (R.mul R.one (poly d r)))) low_is.stands)
    (ap (𝔸 d).con (el_one d) ∙ con_one (𝔸 d))
    ∙ horner_sums R ((𝔸 d).con (el d a)) ((𝔸 d).con (el d c)) (𝔸 d).x (poly d r))

pub record Horner (d c : ℕ) (a r : List ℕ) (k : ℕ) : Type 0 where
  pub range : InRange d r
  pub rest : Poly d
  pub coefficient : (i : ℕ) → (𝔸 d).coeff rest i ≡ el d (get_or a (k + i) 0)
  pub shifted : poly d r ≡ shift (𝔸 d) (el d c) rest

module _ {d c : ℕ} {a : List ℕ} where
  pub horner_start : {k : ℕ} → InRange d a → k ≡ row_len d a → Horner d c a (replicate 12 0) k
  horner_start {k} h e =
      record {
        range = zeros_range d 12;
        rest = (𝔸 d).ring.zero;
        coefficient = λ i. coeff_zero (𝔸 d) i ∙ sym (ap (el d) (zero_past d a (k + i) h (omega arith)) ∙ el_zero d);
        shifted = zeros_poly d 12 ∙ sym (shift_zero (𝔸 d) (el d c));
      }

  pub horner_short : {r : List ℕ} {k : ℕ} → Horner d c a r k → length a ≡ 12 → 1 ≤ k → row_len d r ≤ 11
  horner_short {r} {k} s e h =
      let l : (𝔸 d).len s.rest ≤ 11 = len_bound (𝔸 d) s.rest 11 (λ i m. s.coefficient i ∙ ap (el d) (get_or-eq_default a 0 (omega arith)) ∙ el_zero d) in
      let m : row_len d r ≡ (𝔸 d).len s.rest = ap (𝔸 d).len s.shifted ∙ len_shift (𝔸 d) (el d c) s.rest in
      omega arith

  pub horner_turn :
      {r t : List ℕ} {k : ℕ}
      → Horner d c a r k
      → 1 ≤ k
      → Stands d t ((𝔸 d).ring.add ((𝔸 d).con (el d (get_or a (k - 1) 0))) ((𝔸 d).ring.mul ((𝔸 d).ring.add (𝔸 d).x ((𝔸 d).con (el d c))) (poly d r)))
      → Horner d c a t (k - 1)
  horner_turn {r} {t} {k} s h u =
      record {
        range = u.in_range;
        rest = (𝔸 d).ring.add ((𝔸 d).con (el d (get_or a (k - 1) 0))) ((𝔸 d).ring.mul (𝔸 d).x s.rest);
        coefficient = at;
        shifted =
            u.stands
            ∙ ap (λ z. (𝔸 d).ring.add ((𝔸 d).con (el d (get_or a (k - 1) 0))) ((𝔸 d).ring.mul ((𝔸 d).ring.add (𝔸 d).x ((𝔸 d).con (el d c))) z)) s.shifted
            ∙ sym (shift_con_add_x_mul (𝔸 d) (el d c) (el d (get_or a (k - 1) 0)) s.rest);
      }
    where
      at : (i : ℕ) → (𝔸 d).coeff ((𝔸 d).ring.add ((𝔸 d).con (el d (get_or a (k - 1) 0))) ((𝔸 d).ring.mul (𝔸 d).x s.rest)) i ≡ el d (get_or a (k - 1 + i) 0)
      at zero = coeff_con_add_x_mul (𝔸 d) _ _ ∙ ap (λ j. el d (get_or a j 0)) (let e : k - 1 ≡ k - 1 + 0 = omega arith in e)
      at (suc i) =
          coeff_con_add_x_mul_suc (𝔸 d) _ _ i ∙ s.coefficient i ∙ ap (λ j. el d (get_or a j 0)) (let e : k + i ≡ k - 1 + suc i = omega arith in e)

  pub horner_end : {r : List ℕ} {k : ℕ} → Horner d c a r k → k ≡ 0 → Stands d r (shift (𝔸 d) (el d c) (poly d a))
  horner_end {r} {k} s e =
      record {
        in_range = s.range;
        stands = s.shifted ∙ ap (shift (𝔸 d) (el d c)) ((𝔸 d).ext s.rest (poly d a) (λ i. s.coefficient i ∙ ap (λ j. el d (get_or a j 0)) (let z : k + i ≡ i = omega arith in z) ∙ sym (coeff_poly d a i)));
      }
