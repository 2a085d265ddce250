-- What the checks of a curve and a class show where none of them refuses.
use Prim.Native.Nat.{ℕ, zero, suc, ◌^◌, ◌≤◌, ◌<◌}
use mathlib.Core.Path.{◌≡◌, refl, sym}
use mathlib.Core.{Bool.true, List.List, List.[], List.◌∷◌}
use native.Mathlib.Omega.{arith}
use lib.{Dec.eqb, Dec.lit<, Dec.lit≤, ListN.get_or, ListN.length, ListN.drop, Pow.pow_pos}
use borrow.Author.Tests.{leb-true, eqb-true}
use Rattle.binary_field_theory.specs.Element.{Accepted}
use Rattle.class_group.specs.Mumford.{value}
use Rattle.row_theory.specs.Field.{𝔸}
use Rattle.jacobian.specs.{Checks.blank, Curves.coefficients, Curves.degree_refusal, Curves.coefficient_refusal, Curves.curve_refusal, Curves.f_row, Curves.curve, Classes.pair, Classes.padded, Classes.shape_refusal, Classes.range_refusal, Classes.class_refusal, declared.Curve.Curve, declared.Class.Class}
pub use Rattle.binary_field.proofs.Checks.{then_zero, first_due, next_due, unless_zero}
pub use Rattle.class_rows.proofs.Tests.{both, below_at}
use Rattle.binary_field.proofs.Degrees.{accepted_degree}
use Rattle.jacobian.proofs.ByValue.Degrees.{by_degree}

-- ---- rows
pub blank_at : (r : List ℕ) → blank r ≡ true → (i : ℕ) → get_or r i 0 ≡ 0
unfolding blank
blank_at [] e i = refl
blank_at (n ∷ r) e zero = eqb-true n 0 (both (eqb n 0) (blank r) e).0
blank_at (n ∷ r) e (suc i) = blank_at r (both (eqb n 0) (blank r) e).1 i

pub blank_past : (n : ℕ) (r : List ℕ) → blank (drop n r) ≡ true → (i : ℕ) → n ≤ i → get_or r i 0 ≡ 0
blank_past zero r e i h = blank_at r e i
blank_past (suc n) [] e i h = refl
blank_past (suc n) (x ∷ r) e zero h = absurd (omega arith)
blank_past (suc n) (x ∷ r) e (suc i) h = blank_past n r e i (omega arith)

-- every number of a row a0, a1, 0, a3, 0, 0, 0, 1
eight : (P : ℕ → Type 0) {a b d : ℕ} → P a → P b → P 0 → P d → P 1 → (i : ℕ) → P (get_or (a ∷ b ∷ 0 ∷ d ∷ 0 ∷ 0 ∷ 0 ∷ 1 ∷ []) i 0)
eight P a b z d o zero = a
eight P a b z d o (suc zero) = b
eight P a b z d o (suc (suc zero)) = z
eight P a b z d o (suc (suc (suc zero))) = d
eight P a b z d o (suc (suc (suc (suc zero)))) = z
eight P a b z d o (suc (suc (suc (suc (suc zero))))) = z
eight P a b z d o (suc (suc (suc (suc (suc (suc zero)))))) = z
eight P a b z d o (suc (suc (suc (suc (suc (suc (suc zero))))))) = o
eight P a b z d o (suc (suc (suc (suc (suc (suc (suc (suc i)))))))) = z

-- ---- a curve that no check refuses
pub record CurvePasses (c : Curve) : Type 0 where
  pub accepted : Accepted c.degree
  pub coefficients_below : (i : ℕ) → get_or (coefficients c) i 0 < 2 ^ c.degree
  pub f_below : (i : ℕ) → get_or (f_row c) i 0 < 2 ^ c.degree

pub curve_passes : (c : Curve) → curve_refusal c ≡ 0 → CurvePasses c
unfolding curve_refusal coefficients coefficient_refusal f_row
curve_passes c e =
    let h = then_zero _ _ e in
    let of_degree : degree_refusal c.degree ≡ 0 = search in
    let of_coefficients : coefficient_refusal c ≡ 0 = search in
    let ok : Accepted c.degree = accepted_degree _ of_degree in
    let two : 2 ≤ 2 ^ c.degree = by_degree (λ d. 2 ≤ 2 ^ d) (lit≤ tt) (lit≤ tt) c.degree ok in
    let at = below_at _ _ (omega arith) (unless_zero _ 107 (lit< tt) of_coefficients) in
    record {
      accepted = ok;
      coefficients_below = at;
      f_below = eight (λ n. n < 2 ^ c.degree) (at 2) (at 1) (omega arith) (at 0) (omega arith);
    }

pub accepted_curve : (c : Curve) → 0 ≡ curve_refusal c → Accepted c.degree
accepted_curve c e = (curve_passes c (sym e)).accepted

-- ---- a class that no check refuses
pub record ShapePasses (a : Class) : Type 0 where
  pub low : a.degree ≤ 3
  pub u_three : length a.u ≡ 3
  pub v_three : length a.v ≡ 3
  pub u_blank : (i : ℕ) → a.degree ≤ i → get_or a.u i 0 ≡ 0
  pub v_blank : (i : ℕ) → a.degree ≤ i → get_or a.v i 0 ≡ 0

pub record RangePasses (d : ℕ) (a : Class) : Type 0 where
  pub u_below : (i : ℕ) → get_or a.u i 0 < 2 ^ d
  pub v_below : (i : ℕ) → get_or a.v i 0 < 2 ^ d

pub record ClassPasses (c : Curve) (a : Class) : Type 0 where
  pub shape : ShapePasses a
  pub range : RangePasses c.degree a
  pub divides : (𝔸 c.degree).len ((𝔸 c.degree).rem (value (curve c) (pair c.degree a).v) (pair c.degree a).u) ≡ 0

pub shape_passes : (a : Class) → shape_refusal a ≡ 0 → ShapePasses a
unfolding shape_refusal padded
shape_passes a e =
    let shape = both _ _ (unless_zero _ 104 (lit< tt) e) in
    let degree = both _ _ shape.0 in
    let u = both _ _ degree.1 in
    let v = both _ _ shape.1 in
    record {
      low = leb-true _ _ degree.0;
      u_three = eqb-true _ _ u.0;
      v_three = eqb-true _ _ v.0;
      u_blank = blank_past a.degree a.u u.1;
      v_blank = blank_past a.degree a.v v.1;
    }

pub range_passes : (d : ℕ) (a : Class) → range_refusal d a ≡ 0 → RangePasses d a
unfolding range_refusal
range_passes d a e =
    let range = both _ _ (unless_zero _ 110 (lit< tt) e) in
    record { u_below = below_at (2 ^ d) a.u (pow_pos d) range.0; v_below = below_at (2 ^ d) a.v (pow_pos d) range.1 }

pub class_passes : (c : Curve) (a : Class) → class_refusal c a ≡ 0 → ClassPasses c a
unfolding class_refusal
class_passes c a e =
    let h = then_zero _ _ e in
    let k = then_zero _ _ h.1 in
    record {
      shape = shape_passes a (search);
      range = range_passes c.degree a (search);
      divides = eqb-true _ _ (unless_zero _ 111 (lit< tt) k.1);
    }
