-- A curve and a class that pass their checks: the curve's row stands for its f, and the class's rows for its pair,
-- which is reduced.
use Prim.Native.Nat.{ℕ}
use mathlib.Core.Path.{◌≡◌, ◌∙◌, ap, ap₂}
use mathlib.Core.List.{List}
use native.Mathlib.Omega.{arith}
use lib.{Dec.eqb, ListN.length, ListN.take, ListN.length-append, Seq.length-take-le}
use Rattle.char2_algebra.proofs.{Degree.len_of_zero, Division.rem_of_divides, Lead.monic_nonzero}
use Rattle.class_group.specs.{Mumford.value, Mumford.Reduced, Coefficients.monic_7, Coefficients.curve_of}
use Rattle.row_theory.specs.{Field.F, Field.𝔸, Field.Poly, Field.el, Field.poly, Row.InRange, Row.filled}
use Rattle.class_rows.specs.{Pair.rows_pair, Core.OnCurve, Core.ReducedRows, Checked.row_curve, Checked.is_divisor, internal.Check.Decides, Core.Divisor, declared.row.RowPair.RowPair}
use Rattle.row_theory.proofs.Rows.Elements.{degree_is, el_one}
use Rattle.class_rows.proofs.{CheckRows.by_number, CheckRows.same_answer, Tests.Sized, Tests.test_decides, ReductionRows.reduced_on}
use Rattle.jacobian.specs.{Curves.f_row, Curves.curve, internal.ClassRows.RowsOf, Classes.u_row, Classes.pair, declared.Curve.Curve, declared.Class.Class}
use Rattle.jacobian.proofs.{ByValue.Checks.CurvePasses, ByValue.Checks.ShapePasses, ByValue.Checks.RangePasses, ByValue.Checks.ClassPasses, ByValue.Filled.filled_length, ByValue.Filled.getD_filled, ByValue.Filled.poly_filled, Representation.Form.Formed, Representation.Form.passes_formed, Representation.Form.formed_reduced, Representation.Form.u_row_range, Representation.Form.u_monic}

pub filled_range : (d : ℕ) (r : List ℕ) → InRange d r → InRange d (filled r)
filled_range d r h i = rw (getD_filled r i) (h i)

-- ---- the curve
pub f_is : (c : Curve) → poly c.degree (f_row c) ≡ (curve c).f
unfolding curve curve_of monic_7 poly f_row
f_is c = simp (el_one c.degree)

pub on_curve : (c : Curve) → CurvePasses c → {f : List ℕ} → f ≡ filled (f_row c) → OnCurve c.degree f (curve c)
on_curve c h e =
    record {
      in_range = rw e (filled_range c.degree (f_row c) (λ i. rw (degree_is c.degree h.accepted) (h.f_below i)));
      is_f = ap (poly c.degree) e ∙ poly_filled c.degree (f_row c) ∙ f_is c;
    }

-- the curve of the row is the theory's
pub row_curve_is : (c : Curve) {f : List ℕ} → f ≡ filled (f_row c) → row_curve c.degree f ≡ curve c
unfolding row_curve curve
row_curve_is c e =
    ap (row_curve c.degree) e ∙ ap (curve_of (F c.degree)) (λ j i. el c.degree (getD_filled (f_row c) i j))

-- ---- the class
pub rows_pair_is : (d : ℕ) {a : Class} {r : RowPair} → RowsOf a r → rows_pair d r ≡ pair d a
unfolding rows_pair pair
rows_pair_is d {a} h =
    ap₂ (λ (x y : Poly d). record { u = x; v = y }) (ap (poly d) h.u_is ∙ poly_filled d (u_row a)) (ap (poly d) h.v_is ∙ poly_filled d a.v)

module _ (d : ℕ) {a : Class} (h : Formed d a) {r : RowPair} (rows : RowsOf a r) where
  pub u_range : InRange d r.u
  u_range = rw rows.u_is (filled_range d (u_row a) (u_row_range d a h))

  pub v_range : InRange d r.v
  v_range = rw rows.v_is (filled_range d a.v h.v_range)

-- the rows of a class that passes its checks
pub class_formed : {c : Curve} {a : Class} → CurvePasses c → ClassPasses c a → Formed c.degree a
class_formed {c} {a} h k = passes_formed c.degree h.accepted a k.shape k.range

pub rows_reduced :
    (c : Curve) (a : Class) → CurvePasses c → ClassPasses c a → {f : List ℕ} → f ≡ filled (f_row c) → {r : RowPair} → RowsOf a r → ReducedRows c.degree f r
rows_reduced c a h k e rows =
    let formed = class_formed h k in
    record {
      C = curve c;
      on_curve = on_curve c h e;
      u_range = u_range c.degree formed rows;
      v_range = v_range c.degree formed rows;
      reduced = rw (rows_pair_is c.degree rows) (formed_reduced c.degree a formed (curve c) k.divides);
    }

-- ---- u divides v² + v + f exactly where the rows are a divisor
divides_decides :
    (c : Curve) (a : Class) → CurvePasses c → ShapePasses a → RangePasses c.degree a → {f : List ℕ} → f ≡ filled (f_row c) → {r : RowPair} → RowsOf a r
    → Decides (eqb ((𝔸 c.degree).len ((𝔸 c.degree).rem (value (curve c) (pair c.degree a).v) (pair c.degree a).u)) 0) (Divisor c.degree f r)
divides_decides c a h shape range {f} e {r} rows =
    let d = c.degree in
    let D = pair d a in
    let formed = passes_formed d h.accepted a shape range in
    let nonzero = monic_nonzero (𝔸 d) D.u (u_monic d a formed) in
    by_number
    (λ z. record { degree = h.accepted; reduced = rows_reduced c a h (record { shape = shape; range = range; divides = z }) e rows })
    (λ k.
    let reduced : Reduced (curve c) D = rw (rows_pair_is d rows) at (reduced_on d k.reduced (on_curve c h e)) in
    ap (𝔸 d).len (rem_of_divides (𝔸 d) D.u nonzero (value (curve c) D.v) reduced.divides) ∙ len_of_zero (𝔸 d))

-- the rows have twelve numbers each
f_length : (c : Curve) {f : List ℕ} → f ≡ filled (f_row c) → length f ≡ 12
unfolding f_row
f_length c e = ap length e ∙ filled_length (f_row c) (omega arith)

rows_sized : {a : Class} {r : RowPair} → ShapePasses a → RowsOf a r → Sized r
unfolding u_row
rows_sized {a} shape rows =
    let low = shape.low in
    let three = shape.u_three in
    let v_three = shape.v_three in
    let front : length (take a.degree a.u) ≡ a.degree = length-take-le a.degree a.u (omega arith) in
    record {
      u_size = ap length rows.u_is ∙ filled_length (u_row a) (simp length-append (omega arith));
      v_size = ap length rows.v_is ∙ filled_length a.v (omega arith);
    }

-- the test of the rows is that of the class: is the remainder of v² + v + f by u zero?
pub divisor_is :
    (c : Curve) (a : Class) → CurvePasses c → ShapePasses a → RangePasses c.degree a → {f : List ℕ} → f ≡ filled (f_row c) → {r : RowPair} → RowsOf a r
    → is_divisor c.degree f r ≡ eqb ((𝔸 c.degree).len ((𝔸 c.degree).rem (value (curve c) (pair c.degree a).v) (pair c.degree a).u)) 0
divisor_is c a h shape range e rows = same_answer _ _ (test_decides (f_length c e) (rows_sized shape rows)) (divides_decides c a h shape range e rows)
