-- Rows that are a reduced class of the curve of a row f, and rows with a count of steps.
use Rattle.std.specs.Prelude.{ℕ}
use mathlib.Core.{Path.◌≡◌, List.List}
use Rattle.binary_field_theory.specs.Element.{Accepted}
use Rattle.class_group.specs.Curve as Theory
use Rattle.class_group.specs.{Mumford.Reduced, Reduction.Counted}
use Rattle.row_theory.specs.{Field.𝔸, Field.Poly, Field.poly, Row.InRange}
use Rattle.class_rows.specs.{Pair.StandsPair, Pair.rows_pair, declared.row.RowPair.RowPair, declared.reduction.CountedRows.CountedRows}

-- the row f is the f of the curve C
pub record OnCurve (d : ℕ) (f : List ℕ) (C : Theory.Curve (𝔸 d)) : Type 0 where
  pub in_range : InRange d f
  pub is_f : poly d f ≡ C.f

-- the rows are a reduced class of the curve of f
pub record ReducedRows (d : ℕ) (f : List ℕ) (a : RowPair) : Type 0 where
  pub C : Theory.Curve (𝔸 d)
  pub on_curve : OnCurve d f C
  pub u_range : InRange d a.u
  pub v_range : InRange d a.v
  pub reduced : Reduced C (rows_pair d a)

-- the degree is 5 or 61, and the rows are a reduced class of the curve of f
pub record Divisor (d : ℕ) (f : List ℕ) (a : RowPair) : Type 0 where
  pub degree : Accepted d
  pub reduced : ReducedRows d f a

-- the rows and the number of steps are those of a reduction
pub record StandsCounted (d : ℕ) (r : CountedRows) (c : Counted (Poly d)) : Type 0 where
  pub pair_stands : StandsPair d r.pair c.class
  pub steps_is : r.steps ≡ c.steps
