-- The promise of Euclid's extended rule on rows.
use Rattle.std.specs.Prelude.{ℕ, ◌≤◌, max, List}
use Rattle.char2_algebra.specs.Euclid.{IsBezout}
use Rattle.row_theory.specs.{Field.𝔸, Field.poly, Row.InRange, Row.row_len}

-- g is the monic greatest common divisor of a and b, and s a + t b; s is no longer than b and t no longer than a, or
-- they are constants
pub record BezoutRows (d : ℕ) (a b g s t : List ℕ) : Type 0 where
  pub g_range : InRange d g
  pub s_range : InRange d s
  pub t_range : InRange d t
  pub bezout : IsBezout (𝔸 d) (poly d a) (poly d b) (record { g = poly d g; s = poly d s; t = poly d t })
  pub s_len : row_len d s ≤ max 1 (row_len d b)
  pub t_len : row_len d t ≤ max 1 (row_len d a)
