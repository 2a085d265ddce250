-- A class by value, and the pair that it stands for (docs/SPECIFICATION.md, 2, 3, 4 and 6).
use Rattle.std.specs.Prelude.{ℕ, ◌-◌, ◌^◌}
use mathlib.Core.{Bool.Bool, Bool.cond, Bool.◌&&◌, List.List, List.[], List.◌∷◌, List.◌++◌}
use lib.{Dec.eqb, Dec.ltb, Dec.leb, ListN.get_or, ListN.length, ListN.take, ListN.drop}
use Rattle.class_group.specs.Mumford.{Pair, value}
use Rattle.row_theory.specs.Field.{Poly, 𝔸, poly}
use Rattle.jacobian.specs.{Checks.unless, Checks.◌or_else◌, Checks.blank, Curves.curve, declared.Curve.Curve, declared.Class.Class}
use Rattle.binary_field.specs.Answer.{below}

-- the coefficients of u, the lowest first, with the leading 1, which a class by value does not contain
unfoldable pub u_row : Class → List ℕ
u_row a = take a.degree a.u ++ 1 ∷ []

-- the pair [u, v] of a class
unfoldable pub pair : (d : ℕ) → Class → Pair (Poly d)
pair d a = record { u = poly d (u_row a); v = poly d a.v }

-- the coefficients of a polynomial below x^n, as a row of three numbers
unfoldable pub numbers : (d : ℕ) → ℕ → Poly d → List ℕ
numbers d n p = at 0 ∷ at 1 ∷ at 2 ∷ []
  where
    at : ℕ → ℕ
    at i = cond (ltb i n) ((𝔸 d).coeff p i).0 0

-- the class by value of a pair
unfoldable pub class_of : (d : ℕ) → Pair (Poly d) → Class
class_of d D =
    let n = (𝔸 d).len D.u - 1 in
    record { degree = n; u = numbers d n D.u; v = numbers d n D.v }

-- two rows of three numbers are equal
unfoldable pub same_row : List ℕ → List ℕ → Bool
same_row r s = eqb (get_or r 0 0) (get_or s 0 0) && (eqb (get_or r 1 0) (get_or s 1 0) && eqb (get_or r 2 0) (get_or s 2 0))

-- two classes by value are equal
unfoldable pub same_class : Class → Class → Bool
same_class a b = eqb a.degree b.degree && (same_row a.u b.u && same_row a.v b.v)

-- a row of three numbers that are 0 from index n on
unfoldable pub padded : ℕ → List ℕ → Bool
padded n r = eqb (length r) 3 && blank (drop n r)

-- 104 for a degree above 3, or for a row that is not three numbers with 0 from the degree on; else 0
unfoldable pub shape_refusal : Class → ℕ
shape_refusal a = unless (leb a.degree 3 && padded a.degree a.u && padded a.degree a.v) 104

-- 110 for a number of 2^d or more, else 0
unfoldable pub range_refusal : ℕ → Class → ℕ
range_refusal d a = unless (below (2 ^ d) a.u && below (2 ^ d) a.v) 110

-- the refusal of a class: 104, then 110, then 111 where u does not divide v² + v + f, else 0
unfoldable pub class_refusal : Curve → Class → ℕ
class_refusal c a =
    let d = c.degree in
    let D = pair d a in
    shape_refusal a or_else range_refusal d a or_else unless (eqb ((𝔸 d).len ((𝔸 d).rem (value (curve c) D.v) D.u)) 0) 111
