-- What the functions from classes to rows promise.
use Rattle.std.specs.Prelude.{ℕ, ◌≡◌, cond, List, [], ◌∷◌, ltb, get_or}
use Rattle.row_theory.specs.Row.{filled}
use Rattle.class_rows.specs.declared.row.RowPair.{RowPair}
use Rattle.jacobian.specs.{Classes.u_row, declared.Class.Class}

-- the rows are the pair of the class
pub record RowsOf (a : Class) (r : RowPair) : Type 0 where
  pub u_is : r.u ≡ filled (u_row a)
  pub v_is : r.v ≡ filled a.v

-- the numbers of a row below index n, as a row of three
abbrev pub first : ℕ → List ℕ → List ℕ
first n r = cond (ltb 0 n) (get_or r 0 0) 0 ∷ cond (ltb 1 n) (get_or r 1 0) 0 ∷ cond (ltb 2 n) (get_or r 2 0) 0 ∷ []
