-- What the private functions of a call's checks promise.
use Rattle.std.specs.Prelude.{ℕ, ◌≡◌}
use Rattle.jacobian.specs.{Checks.◌or_else◌, Curves.curve_refusal, Classes.shape_refusal, Classes.range_refusal, Answer.refusal_of_two, declared.Curve.Curve, declared.Class.Class}

-- the refusal of a class before the division of v² + v + f by u: 104, then 110, else 0
unfoldable pub form_refusal : ℕ → Class → ℕ
form_refusal d a = shape_refusal a or_else range_refusal d a

-- n is the refusal of a call on two classes; or it is 0, the curve is accepted and both classes are in form
pub record FormRefusalOfTwo (c : Curve) (a b : Class) (n : ℕ) : Type 0 where
  pub refused : ¬ (n ≡ 0) → n ≡ refusal_of_two c a b
  pub none : n ≡ 0 → (curve_refusal c ≡ 0) × (form_refusal c.degree a ≡ 0) × (form_refusal c.degree b ≡ 0)
