-- Whether rows of any numbers are a reduced class of the curve of a row f.
use Rattle.std.specs.Prelude.{ℕ, ◌-◌, ◌^◌}
use mathlib.Core.{Bool.Bool, Bool.◌&&◌, List.List}
use lib.{Dec.eqb, Dec.ltb, Dec.leb, ListN.length, ListN.get_or}
use Rattle.binary_field_theory.specs.Element.{is_degree}
use Rattle.binary_field.specs.Answer.{below}
use Rattle.class_group.specs.Curve as Theory
use Rattle.class_group.specs.{Mumford.value, Coefficients.curve_of}
use Rattle.row_theory.specs.{Field.F, Field.𝔸, Field.el, Field.poly, Row.places}
use Rattle.class_rows.specs.declared.row.RowPair.{RowPair}

-- a row of twelve elements of degree d
unfoldable pub is_row : ℕ → List ℕ → Bool
is_row d r = eqb (length r) 12 && below (2 ^ d) r

-- the leading number of a row is 1
unfoldable pub is_monic : List ℕ → Bool
is_monic r = eqb (get_or r (places r - 1) 0) 1

-- f is monic of degree 7; `places` is the degree plus one
unfoldable pub is_curve : ℕ → List ℕ → Bool
is_curve d f = is_row d f && eqb (places f) 8 && is_monic f

-- u is monic of degree at most 3, and v has a smaller degree
unfoldable pub is_pair : ℕ → RowPair → Bool
is_pair d a = is_row d a.u && is_row d a.v && leb (places a.u) 4 && ltb (places a.v) (places a.u) && is_monic a.u

-- the curve y² + y = f of a row f: x^7 and the seven numbers below it
unfoldable pub row_curve : (d : ℕ) → List ℕ → Theory.Curve (𝔸 d)
unfolding 𝔸
row_curve d f = curve_of (F d) (λ i. el d (get_or f i 0))

-- u divides v² + v + f: the remainder is 0
unfoldable pub divides : ℕ → List ℕ → RowPair → Bool
divides d f a = eqb ((𝔸 d).len ((𝔸 d).rem (value (row_curve d f) (poly d a.v)) (poly d a.u))) 0

-- the degree is 5 or 61, and the rows are a reduced class of the curve of f
unfoldable pub is_divisor : ℕ → List ℕ → RowPair → Bool
is_divisor d f a = is_degree d && is_curve d f && is_pair d a && divides d f a
