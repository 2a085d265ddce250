-- The promise of the check of a pair, and what its tests show.
use Rattle.std.specs.Prelude.{ℕ, ◌≤◌, ◌<◌, Option, Some, is_some}
use mathlib.Core.{Path.◌≡◌, Bool.Bool, Bool.true, List.List, Logic.◌↔◌}
use Rattle.binary_field_theory.specs.Element.{Accepted}
use Rattle.char2_algebra.specs.Lead.{Monic}
use Rattle.class_group.specs.Curve as Theory
use Rattle.row_theory.specs.{Field.𝔸, Field.poly, Row.InRange, Row.row_len}
use Rattle.class_rows.specs.{Checked.is_divisor, Core.OnCurve, internal.Cofactor.CofactorRow}
use Rattle.class_rows.specs.declared.row.RowPair.{RowPair}

-- t is true exactly where P holds
abbrev pub Decides : Bool → Type 0 → Type 0
Decides t P = (t ≡ true) ↔ P

-- the pair is in range, u is monic of degree at most 3, and v has a smaller degree
pub record FormedPair (d : ℕ) (a : RowPair) : Type 0 where
  pub u_range : InRange d a.u
  pub v_range : InRange d a.v
  pub u_monic : Monic (𝔸 d) (poly d a.u)
  pub u_len : row_len d a.u ≤ 4
  pub v_len : row_len d a.v < row_len d a.u

-- all that is checked before the division: the degree, f and the pair
pub record FormedRows (d : ℕ) (f : List ℕ) (a : RowPair) : Type 0 where
  pub degree : Accepted d
  pub curve : (C : Theory.Curve (𝔸 d)) × OnCurve d f C
  pub pair : FormedPair d a

-- a cofactor is given exactly where the pair is a divisor of the curve of f, and it is that of the pair
pub record CheckedRows (d : ℕ) (f : List ℕ) (a : RowPair) (r : Option (List ℕ)) : Type 0 where
  pub decides : is_some r ≡ is_divisor d f a
  pub cofactor : (w : List ℕ) → r ≡ Some w → CofactorRow d f a w
