-- Rows of numbers in range that stand for polynomials.
use Rattle.std.specs.Prelude.{ℕ, zero, suc, ◌-◌, ◌<◌, ◌^◌, length, get_or, replicate}
use mathlib.Core.{Path.◌≡◌, List.List, List.[], List.◌∷◌, List.◌++◌}
use Rattle.row_theory.specs.Field.{degree_of, Poly, 𝔸, poly}

-- every number of the row is an element of degree d
abbrev pub InRange : ℕ → List ℕ → Type 0
InRange d r = (i : ℕ) → get_or r i 0 < 2 ^ degree_of d

-- the row r is in range and stands for the polynomial p
pub record Stands (d : ℕ) (r : List ℕ) (p : Poly d) : Type 0 where
  pub in_range : InRange d r
  pub stands : poly d r ≡ p

-- a row of twelve numbers: those given, with 0 after them
unfoldable pub filled : List ℕ → List ℕ
filled r = r ++ replicate (12 - length r) 0

-- n coefficients of a polynomial as numbers, from that of x^i on
unfoldable pub numbers_from : (d : ℕ) → Poly d → ℕ → ℕ → List ℕ
numbers_from d p i zero = []
numbers_from d p i (suc n) = ((𝔸 d).coeff p i).0 ∷ numbers_from d p (suc i) n

-- the row of twelve numbers of a polynomial
unfoldable pub row_of : (d : ℕ) → Poly d → List ℕ
row_of d p = numbers_from d p 0 12

-- the length of a row, from the length of its tail and its first number
unfoldable pub places_cons : ℕ → ℕ → ℕ
places_cons (suc k) n = suc (suc k)
places_cons zero zero = 0
places_cons zero (suc n) = 1

-- the length of a row: one more than the index of its last number that is not 0, and 0 where there is none
unfoldable pub places : List ℕ → ℕ
places [] = 0
places (n ∷ r) = places_cons (places r) n

-- the length, degree plus one, of the polynomial that a row stands for
abbrev pub row_len : ℕ → List ℕ → ℕ
row_len d r = (𝔸 d).len (poly d r)
