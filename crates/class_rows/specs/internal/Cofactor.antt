-- The pair to be reduced, the cofactor w = (v² + v + f) / u, and the composition of a double, in the contracts of a
-- reduction's functions.
use Rattle.std.specs.Prelude.{ℕ, ◌≤◌, ◌<◌, List}
use Rattle.char2_algebra.specs.{Lead.Monic, Divides.Divides}
use Rattle.class_group.specs.Curve as Theory
use Rattle.class_group.specs.Mumford.{value}
use Rattle.row_theory.specs.{Field.𝔸, Field.poly, Row.InRange, Row.Stands}
use Rattle.class_rows.specs.{Core.OnCurve, declared.row.RowPair.RowPair, declared.reduction.Squared.Squared}

-- the rows are a pair of degree at most 6 that is to be reduced: u is monic, v is shorter, and u divides v² + v + f
pub record SemiReducedRows (d : ℕ) (f : List ℕ) (a : RowPair) : Type 0 where
  pub C : Theory.Curve (𝔸 d)
  pub on_curve : OnCurve d f C
  pub u_range : InRange d a.u
  pub v_range : InRange d a.v
  pub u_monic : Monic (𝔸 d) (poly d a.u)
  pub u_len : (𝔸 d).len (poly d a.u) ≤ 7
  pub v_len : (𝔸 d).len (poly d a.v) < (𝔸 d).len (poly d a.u)
  pub divides : Divides (𝔸 d).ring (poly d a.u) (value C (poly d a.v))

-- the row w is the cofactor of the pair on every curve of f
abbrev pub CofactorRow : (d : ℕ) → List ℕ → RowPair → List ℕ → Type 0
CofactorRow d f a w = (C : Theory.Curve (𝔸 d)) → OnCurve d f C → Stands d w ((𝔸 d).quot (value C (poly d a.v)) (poly d a.u))

module _ (d : ℕ) where
  open (𝔸 d).ring use {add as ◌⊞◌, mul as ◌·◌}

  infixl 60 ◌⊞◌
  infixl 70 ◌·◌
  -- the rows of u², and of quotient and remainder of v² + f by it
  pub record SquaredRows (f : List ℕ) (a : RowPair) (r : Squared) : Type 0 where
    pub u_stands : Stands d r.pair.u (poly d a.u · poly d a.u)
    pub v_stands : Stands d r.pair.v ((𝔸 d).rem (poly d a.v · poly d a.v ⊞ poly d f) (poly d a.u · poly d a.u))
    pub quotient_stands : Stands d r.quotient ((𝔸 d).quot (poly d a.v · poly d a.v ⊞ poly d f) (poly d a.u · poly d a.u))
