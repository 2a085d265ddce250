-- What the functions of a composition require of their rows, and the polynomial m of v = v1 + d1 m modulo d1 d2.
use Rattle.std.specs.Prelude.{ℕ, ◌≤◌, List}
use Rattle.row_theory.specs.{Field.Poly, Field.𝔸, Field.poly, Row.InRange, Row.row_len}

-- a row in range that stands for a polynomial of length at most n
pub record Short (d n : ℕ) (r : List ℕ) : Type 0 where
  pub in_range : InRange d r
  pub len_le : row_len d r ≤ n

module _ (d : ℕ) where
  open (𝔸 d).ring use {add as ◌⊞◌, mul as ◌·◌}

  infixl 60 ◌⊞◌
  infixl 70 ◌·◌
  -- m = s1 (v1 + v2) + s3 w1, where g = s u1 + t u2 and e = s' g + t' (v1 + v2 + 1), so that s1 = s' s and s3 = t'
  unfoldable pub multiple : (sum w s s' t' : List ℕ) → Poly d
  multiple sum w s s' t' = poly d s' · poly d s · poly d sum ⊞ poly d t' · poly d w
