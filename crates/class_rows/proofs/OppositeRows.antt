-- The opposite of a pair of rows.
-- `opposite_short`: the neutral pair is its own opposite. `opposite_long`: another pair's is [u, v + 1].
use Prim.Native.Nat.{ℕ, ◌≤◌, ◌<◌}
use mathlib.Core.{Path.◌≡◌, Path.refl, Path.◌∙◌, Path.ap, List.List}
use borrow.Author.Tests.{lt-ltb, le-ltb}
use Rattle.field_laws.specs.Field.{Field2}
use Rattle.char2_algebra.specs.Polynomials.{Polynomials}
use Rattle.class_group.specs.Curve as Theory
use Rattle.class_group.specs.Mumford.{Pair, opposite}
use Rattle.row_theory.specs.{Field.𝔸, Field.poly, Row.InRange, Row.Stands, Row.row_len}
use Rattle.class_rows.specs.{Pair.StandsPair, Pair.rows_pair, declared.row.RowPair.RowPair}

-- the opposite by the length of u
module _ {K P : Type 0} {F : Field2 K} {A : Polynomials F P} (C : Theory.Curve A) where
  short_opposite : (D : Pair P) → A.len D.u ≤ 1 → opposite C D ≡ D
  unfolding opposite
  short_opposite D h = rw (le-ltb 1 (A.len D.u) h, opposite)

  long_opposite : (D : Pair P) → 1 < A.len D.u → opposite C D ≡ record { u = D.u; v = A.ring.add D.v A.ring.one }
  unfolding opposite
  long_opposite D h = rw (lt-ltb 1 (A.len D.u) h, opposite)

module _ (d : ℕ) (C : Theory.Curve (𝔸 d)) (a : RowPair) (hu : InRange d a.u) (hv : InRange d a.v) where
  pub opposite_short : row_len d a.u ≤ 1 → StandsPair d a (opposite C (rows_pair d a))
  unfolding rows_pair
  opposite_short h =
      rw (short_opposite C (rows_pair d a) h) (record { u_stands = record { in_range = hu; stands = refl }; v_stands = record { in_range = hv; stands = refl } })

  pub opposite_long :
      {o w : List ℕ} → 1 < row_len d a.u → Stands d o (𝔸 d).ring.one → Stands d w ((𝔸 d).ring.add (poly d a.v) (poly d o))
      → StandsPair d (record { u = a.u; v = w }) (opposite C (rows_pair d a))
  unfolding rows_pair
  opposite_long h o s =
      rw (long_opposite C (rows_pair d a) h)
      (record {
        u_stands = record { in_range = hu; stands = refl };
        v_stands = record { in_range = s.in_range; stands = s.stands ∙ ap ((𝔸 d).ring.add (poly d a.v)) o.stands };
      })
