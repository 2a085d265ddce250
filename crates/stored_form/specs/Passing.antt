-- The values that the checks of a record's fields accept (docs/SPECIFICATION.md, 6).
use Rattle.std.specs.Prelude.{ℕ, ◌≤◌, length}
use mathlib.Core.{Path.◌≡◌, Bool.true, List.List}
use Rattle.binary_field_theory.specs.Element.{is_degree}
use Rattle.jacobian.specs.{Curves.curve_refusal, Answer.Accepts}
use Rattle.jacobian.specs.declared.{Curve.Curve, Class.Class}
use Rattle.stored_form.specs.{Head.drawing_limit, Fields.count_limit, Fields.printable}

-- a degree that the library has: 5 or 61
abbrev pub DegreePasses : ℕ → Type 0
DegreePasses d = is_degree d ≡ true

-- a curve that no check refuses
abbrev pub CurvePasses : Curve → Type 0
CurvePasses c = curve_refusal c ≡ 0

-- a count up to the limit of operations
abbrev pub CountPasses : ℕ → Type 0
CountPasses n = n ≤ count_limit

-- a released step up to this count
abbrev pub ReleasedPasses : ℕ → ℕ → Type 0
ReleasedPasses count released = released ≤ count

-- a drawing number of printable bytes that is not too long
abbrev pub DrawingPasses : List ℕ → Type 0
DrawingPasses name = (printable name ≡ true) × (length name ≤ drawing_limit)

-- a class that no check refuses on this curve
abbrev pub ClassPasses : Curve → Class → Type 0
ClassPasses = Accepts
