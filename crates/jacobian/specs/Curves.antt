-- A curve by value: its refusal, and the f of one that is accepted (docs/SPECIFICATION.md, 2, 3 and 6).
-- Only `coefficients`, `curve_with` and `f_row` name the fields f3, f1 and f0.
use Rattle.std.specs.Prelude.{ℕ, ◌^◌, List, [], ◌∷◌, get_or, replicate}
use Rattle.class_group.specs.Coefficients.{curve_of}
use Rattle.row_theory.specs.Field.{F, 𝔸, el}
use Rattle.jacobian.specs.{Checks.unless, Checks.◌or_else◌, declared.Curve.Curve}
use Rattle.binary_field.specs.Answer.{below}
unfoldable pub use Rattle.binary_field.specs.Answer.{degree_refusal}
use Rattle.class_group.specs.Curve as Theory

-- the number of coefficients of a curve
abbrev pub coefficient_count : ℕ
coefficient_count = 3

-- the coefficients in the stored order, the highest power first
unfoldable pub coefficients : Curve → List ℕ
coefficients c = c.f3 ∷ c.f1 ∷ c.f0 ∷ []

-- the curve over the field of degree d with these coefficients
unfoldable pub curve_with : ℕ → List ℕ → Curve
curve_with d cs = record { degree = d; f3 = get_or cs 0 0; f1 = get_or cs 1 0; f0 = get_or cs 2 0 }

-- f, the lowest coefficient first: f0 + f1 x + f3 x^3 + x^7
unfoldable pub f_row : Curve → List ℕ
f_row c = c.f0 ∷ c.f1 ∷ 0 ∷ c.f3 ∷ 0 ∷ 0 ∷ 0 ∷ 1 ∷ []

-- the curve of a record before its first field
unfoldable pub blank_curve : Curve
blank_curve = curve_with 5 (replicate coefficient_count 0)

-- 107 for a coefficient of 2^d or more, else 0
unfoldable pub coefficient_refusal : Curve → ℕ
coefficient_refusal c = unless (below (2 ^ c.degree) (coefficients c)) 107

-- the refusal of a curve: 106, then 107, else 0
unfoldable pub curve_refusal : Curve → ℕ
curve_refusal c = degree_refusal c.degree or_else coefficient_refusal c

-- the curve of the theory: y² + y = f
unfoldable pub curve : (c : Curve) → Theory.Curve (𝔸 c.degree)
unfolding 𝔸
curve c = curve_of (F c.degree) (λ i. el c.degree (get_or (f_row c) i 0))
