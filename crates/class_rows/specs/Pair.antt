-- Pairs of rows and the pairs of polynomials that they stand for.
use Rattle.std.specs.Prelude.{ℕ}
use Rattle.class_group.specs.Mumford.{Pair}
use Rattle.row_theory.specs.{Field.Poly, Field.poly, Row.Stands, Row.row_of}
use Rattle.class_rows.specs.declared.row.RowPair.{RowPair}

-- the pair that two rows stand for
unfoldable pub rows_pair : (d : ℕ) → RowPair → Pair (Poly d)
rows_pair d r = record { u = poly d r.u; v = poly d r.v }

-- the rows of a pair
unfoldable pub rows_of : (d : ℕ) → Pair (Poly d) → RowPair
rows_of d D = record { u = row_of d D.u; v = row_of d D.v }

-- two rows that stand for a pair
pub record StandsPair (d : ℕ) (r : RowPair) (D : Pair (Poly d)) : Type 0 where
  pub u_stands : Stands d r.u D.u
  pub v_stands : Stands d r.v D.v
