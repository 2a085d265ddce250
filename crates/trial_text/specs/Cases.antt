-- A case of a trial program: a byte for the call, a byte for the degree, then numbers of eight bytes, high byte first.
-- A byte that the case does not have counts as 0.
use Rattle.std.specs.Prelude.{ℕ, ◌+◌, ◌*◌, List, [], ◌∷◌, get_or, cond, ltb, codes}
use Rattle.jacobian.specs.declared.Class.{Class}

-- the number in the four bytes from an offset on
abbrev pub four_bytes : List ℕ → ℕ → ℕ
four_bytes s at = ((get_or s at 0 * 256 + get_or s (at + 1) 0) * 256 + get_or s (at + 2) 0) * 256 + get_or s (at + 3) 0

-- the number in the eight bytes from an offset on
abbrev pub eight_bytes : List ℕ → ℕ → ℕ
eight_bytes s at = four_bytes s at * 0x100000000 + four_bytes s (at + 4)

-- the number at an index, counted from 0
abbrev pub number_at : List ℕ → ℕ → ℕ
number_at s place = eight_bytes s (2 + 8 * place)

-- the three numbers from an offset on
abbrev pub numbers_from : List ℕ → ℕ → List ℕ
numbers_from s at = eight_bytes s at ∷ eight_bytes s (at + 8) ∷ eight_bytes s (at + 16) ∷ []

-- the three numbers from an index on
abbrev pub row_at : List ℕ → ℕ → List ℕ
row_at s place = numbers_from s (2 + 8 * place)

-- the class whose seven numbers start at an index
abbrev pub class_at : List ℕ → ℕ → Class
class_at s place = record { degree = number_at s place; u = row_at s (place + 1); v = row_at s (place + 4) }

-- what is written where a case is cut short
abbrev pub cut_short_line : List ℕ
cut_short_line = codes "cut short\n"

-- what is written where the input had n bytes of a case of this size: `cut short` and a line feed for some but not all
abbrev pub cut_short : ℕ → ℕ → List ℕ
cut_short n size = cond (ltb 0 n) (cond (ltb n size) cut_short_line []) []
