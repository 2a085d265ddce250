-- The numbers of a row below an index, and the class by value of a pair of rows.
use Prim.Native.Nat.{ℕ, ◌-◌}
use mathlib.Core.Path.{◌≡◌, ◌∙◌, ap, ap₂}
use mathlib.Core.List.{List}
use lib.ListN.{get_or}
use Rattle.class_group.specs.Mumford.{Pair}
use Rattle.row_theory.specs.{Field.Poly, Field.𝔸, Field.poly, Row.InRange, Row.row_len}
use Rattle.class_rows.specs.{Pair.StandsPair, Pair.rows_pair, declared.row.RowPair.RowPair}
use Rattle.row_theory.proofs.{Rows.Elements.el_number, Rows.Coefficients.coeff_poly}
use Rattle.jacobian.specs.{Classes.numbers, Classes.class_of, internal.ClassRows.first, declared.Class.Class}

module _ (d : ℕ) where
  number_at : (r : List ℕ) → InRange d r → (i : ℕ) → ((𝔸 d).coeff (poly d r) i).0 ≡ get_or r i 0
  number_at r h i = ap (λ a. a.0) (coeff_poly d r i) ∙ el_number d (get_or r i 0) (h i)

  numbers_of : (n : ℕ) (r : List ℕ) → InRange d r → numbers d n (poly d r) ≡ first n r
  unfolding numbers
  numbers_of n r h = simp (number_at r h)

  pub class_of_rows :
      (a : RowPair) → InRange d a.u → InRange d a.v
      → (n : ℕ) → row_len d a.u - 1 ≡ n → class_of d (rows_pair d a) ≡ record { degree = n; u = first n a.u; v = first n a.v }
  unfolding class_of rows_pair
  class_of_rows a h k n e = simp (e, numbers_of n a.u h, numbers_of n a.v k)

  -- rows that stand for a pair: the class of the rows is that of the pair
  pub stands_class :
      {r : RowPair} {D : Pair (Poly d)} {k : Class} → StandsPair d r D
      → (InRange d r.u → InRange d r.v → k ≡ class_of d (rows_pair d r)) → k ≡ class_of d D
  unfolding rows_pair
  stands_class s h =
      h s.u_stands.in_range s.v_stands.in_range ∙ ap₂ (λ (x y : Poly d). class_of d (record { u = x; v = y })) s.u_stands.stands s.v_stands.stands
