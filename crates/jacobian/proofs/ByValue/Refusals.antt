-- The refusals of a call on classes in form: whether their rows are divisors decides between 111 and 0.
use Prim.Native.Nat.{ℕ, zero, suc}
use mathlib.Core.Path.{◌≡◌, refl, ◌∙◌, ap, ap₂}
use mathlib.Core.{Bool.Bool, Bool.true, Bool.false, Bool.◌&&◌, List.List}
use lib.Dec.{eqb}
use Rattle.class_group.specs.Mumford.{value}
use Rattle.row_theory.specs.{Field.𝔸, Row.filled}
use Rattle.class_rows.specs.{Checked.is_divisor, declared.row.RowPair.RowPair}
use Rattle.jacobian.specs.{Checks.unless, Checks.◌or_else◌, Curves.curve_refusal, Curves.f_row, Curves.curve, Classes.pair, Classes.shape_refusal, Classes.range_refusal, Classes.class_refusal, internal.ClassRows.RowsOf, internal.Refusals.form_refusal, Answer.refusal, Answer.refusal_of_two, declared.Curve.Curve, declared.Class.Class}
use Rattle.jacobian.proofs.{ByValue.Checks.ShapePasses, ByValue.Checks.RangePasses, ByValue.Checks.then_zero, ByValue.Checks.first_due, ByValue.Checks.next_due, ByValue.Checks.curve_passes, ByValue.Checks.shape_passes, ByValue.Checks.range_passes, ByValue.Passing.divisor_is}

then_assoc : (m n k : ℕ) → (m or_else n) or_else k ≡ m or_else (n or_else k)
unfolding ◌or_else◌
then_assoc zero n k = refl
then_assoc (suc m) n k = refl

-- ---- two tests
unless_both : (x y : Bool) (n : ℕ) → unless (x && y) (suc n) ≡ unless x (suc n) or_else unless y (suc n)
unfolding unless ◌or_else◌
unless_both true y n = refl
unless_both false true n = refl
unless_both false false n = refl

-- ---- one class
module _ (c : Curve) (a : Class) where
  abbrev divides : Bool
  divides = let d = c.degree in eqb ((𝔸 d).len ((𝔸 d).rem (value (curve c) (pair d a).v) (pair d a).u)) 0

  -- 104 and 110 come before 111
  pub class_first : {n : ℕ} → n ≡ form_refusal c.degree a → ¬ (n ≡ 0) → n ≡ class_refusal c a
  unfolding form_refusal class_refusal
  class_first e h = first_due (unless divides 111) e h ∙ then_assoc (shape_refusal a) (range_refusal c.degree a) (unless divides 111)

  pub form_first : {n : ℕ} → n ≡ (curve_refusal c or_else form_refusal c.degree a) → ¬ (n ≡ 0) → n ≡ refusal c a
  unfolding form_refusal class_refusal refusal
  form_first e h =
      first_due (unless divides 111) e h
      ∙ then_assoc (curve_refusal c) (form_refusal c.degree a) (unless divides 111)
      ∙ ap (λ n. curve_refusal c or_else n) (then_assoc (shape_refusal a) (range_refusal c.degree a) (unless divides 111))

  module _ (z : form_refusal c.degree a ≡ 0) where
    pub form_shape : ShapePasses a
    unfolding form_refusal
    form_shape = shape_passes a (then_zero _ _ z).0

    pub form_range : RangePasses c.degree a
    unfolding form_refusal
    form_range = range_passes c.degree a (then_zero _ _ z).1

    class_divides : unless divides 111 ≡ class_refusal c a
    unfolding form_refusal class_refusal
    class_divides =
        next_due refl (then_zero _ _ z).0 (next_due refl (then_zero _ _ z).1 refl)

    module _ (ok : curve_refusal c ≡ 0) {f : List ℕ} (e : f ≡ filled (f_row c)) {r : RowPair} (rows : RowsOf a r) where
      divides_rows : is_divisor c.degree f r ≡ divides
      divides_rows = divisor_is c a (curve_passes c ok) form_shape form_range e rows

      pub class_due : {t : Bool} → t ≡ is_divisor c.degree f r → unless t 111 ≡ class_refusal c a
      class_due h = ap (λ t. unless t 111) (h ∙ divides_rows) ∙ class_divides

      pub one_due : {t : Bool} → t ≡ is_divisor c.degree f r → unless t 111 ≡ refusal c a
      unfolding refusal
      one_due h = next_due refl ok (class_due h)

-- ---- two classes
module _ (c : Curve) (a b : Class) (ok : curve_refusal c ≡ 0) (y : form_refusal c.degree a ≡ 0) (z : form_refusal c.degree b ≡ 0) {f : List ℕ} (e : f ≡ filled (f_row c)) {r s : RowPair} where
  pub two_due : RowsOf a r → RowsOf b s → {t : Bool} → t ≡ (is_divisor c.degree f r && is_divisor c.degree f s) → unless t 111 ≡ refusal_of_two c a b
  unfolding refusal refusal_of_two
  two_due left right h =
      ap (λ t. unless t 111) (h ∙ ap₂ ◌&&◌ (divides_rows c a y ok e left) (divides_rows c b z ok e right))
      ∙ unless_both (divides c a) (divides c b) 110
      ∙ ap₂ ◌or_else◌ (next_due refl ok (class_divides c a y)) (class_divides c b z)
