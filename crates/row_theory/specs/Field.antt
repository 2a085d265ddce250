-- The field of a degree, the polynomials over it, and the polynomial that a row of numbers stands for.
-- A row has the lowest coefficient first.
use Rattle.std.specs.Prelude.{ℕ, eqb}
use mathlib.Core.{Bool.Bool, Bool.true, Bool.false, Bool.cond, List.List, List.map}
use Rattle.field_laws.specs.Field.{Field2}
use Rattle.binary_field_theory.specs.Element.{Element, Accepted}
use Rattle.binary_field.specs.Field.{field, element}
use Rattle.char2_algebra.specs.{Polynomials.Polynomials, Polynomial.Polynomial, Polynomial.of_list}
use Rattle.polynomial_lists.specs.Polynomials.{polynomials}

-- 61 for 61, and 5 for every other number; calls refuse every degree but these two with 106
unfoldable pub degree_of : ℕ → ℕ
degree_of d = cond (eqb d 61) 61 5

-- these degrees are accepted
unfoldable pub accepted : (d : ℕ) → Accepted (degree_of d)
unfolding degree_of
accepted d = go (eqb d 61)
  where
    go : (b : Bool) → Accepted (cond b 61 5)
    go true = tt
    go false = tt

-- the elements of degree d
abbrev pub K : ℕ → Type 0
K d = Element (degree_of d)

-- the field of these elements
unfoldable pub F : (d : ℕ) → Field2 (K d)
F d = field (degree_of d) (accepted d)

-- the polynomials over this field
abbrev pub Poly : ℕ → Type 0
Poly d = Polynomial (F d)

-- these polynomials with their operations and laws
unfoldable pub 𝔸 : (d : ℕ) → Polynomials (F d) (Poly d)
𝔸 d = polynomials (F d)

-- the element that a number stands for
unfoldable pub el : (d : ℕ) → ℕ → K d
el d n = element (degree_of d) (accepted d) n

-- the polynomial that a row of numbers stands for
unfoldable pub poly : (d : ℕ) → List ℕ → Poly d
poly d r = of_list (F d) (map (el d) r)
