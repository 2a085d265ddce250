-- The two rules that move a seal, on rows: each step gives the next one a reduced class, and the last stands for the
-- rule's result.
use Prim.Native.Nat.{ℕ, ◌+◌, ◌≤◌}
use mathlib.Core.{Path.ap₂, Path.subst, List.List}
use Rattle.class_group.specs.Curve as Theory
use Rattle.class_group.specs.{Mumford.opposite, Operations.sum, Operations.double, Operations.counted_sum, Operations.counted_double, Half.half, Moves.counted_double_and_add, Moves.counted_subtract_and_halve}
use Rattle.class_group.proofs.Closed.{sum_reduced, sum_steps, double_reduced, double_steps, opposite_reduced}
use Rattle.row_theory.specs.Field.{𝔸}
use Rattle.class_rows.specs.{Pair.StandsPair, Pair.rows_pair, Core.OnCurve, Core.ReducedRows, Core.StandsCounted}
use Rattle.class_rows.specs.declared.{row.RowPair.RowPair, reduction.CountedRows.CountedRows}
use Rattle.class_rows.proofs.ReductionRows.{pair_eq, reduced_on, reduced_rows}

module _ (d : ℕ) {f : List ℕ} {a b : RowPair} (h : ReducedRows d f a) (k : ReducedRows d f b) where
  -- the promise of the function of a sum
  abbrev Sums : RowPair → CountedRows → Type 0
  Sums e t = (C : Theory.Curve (𝔸 d)) → OnCurve d f C → StandsCounted d t (counted_sum C (rows_pair d a) (rows_pair d e))

  -- a sum of reduced classes is reduced
  pub summed_reduced : {t : CountedRows} → Sums b t → ReducedRows d f t.pair
  unfolding sum
  summed_reduced s =
      reduced_rows d h.on_curve (sum_reduced h.C h.reduced (reduced_on d k h.on_curve)) (s h.C h.on_curve).pair_stands

  -- a sum makes at most two steps
  pub summed_steps : {t : CountedRows} → Sums b t → t.steps ≤ 2
  summed_steps s = rw (s h.C h.on_curve).steps_is (sum_steps h.C h.reduced (reduced_on d k h.on_curve))

module _ (d : ℕ) {f : List ℕ} {a : RowPair} (h : ReducedRows d f a) where
  pub doubled_reduced : {t : CountedRows} → ((C : Theory.Curve (𝔸 d)) → OnCurve d f C → StandsCounted d t (counted_double C (rows_pair d a)))
      → ReducedRows d f t.pair
  unfolding double
  doubled_reduced s = reduced_rows d h.on_curve (double_reduced h.C h.reduced) (s h.C h.on_curve).pair_stands

  pub opposed_reduced : {r : RowPair} → ((C : Theory.Curve (𝔸 d)) → StandsPair d r (opposite C (rows_pair d a))) → ReducedRows d f r
  opposed_reduced s = reduced_rows d h.on_curve (opposite_reduced h.C h.reduced) (s h.C)

  -- a double makes at most two steps
  pub doubled_steps : {t : CountedRows} → ((C : Theory.Curve (𝔸 d)) → OnCurve d f C → StandsCounted d t (counted_double C (rows_pair d a))) → t.steps ≤ 2
  doubled_steps s = rw (s h.C h.on_curve).steps_is (double_steps h.C h.reduced)

module _ (d : ℕ) (a b : RowPair) (C : Theory.Curve (𝔸 d)) where
  pub double_and_add_stands : {t e : CountedRows} → StandsCounted d t (counted_double C (rows_pair d a))
      → StandsCounted d e (counted_sum C (rows_pair d t.pair) (rows_pair d b))
      → StandsCounted d (record { pair = e.pair; steps = t.steps + e.steps }) (counted_double_and_add C (rows_pair d a) (rows_pair d b))
  unfolding counted_double_and_add
  double_and_add_stands {t} {e} s r =
      let sum = subst (λ D. StandsCounted d e (counted_sum C D (rows_pair d b))) (pair_eq d s.pair_stands) r in
      record { pair_stands = sum.pair_stands; steps_is = ap₂ ◌+◌ s.steps_is sum.steps_is }

  pub subtract_and_halve_stands : {r e : RowPair} {t : CountedRows} → StandsPair d r (opposite C (rows_pair d b))
      → StandsCounted d t (counted_sum C (rows_pair d a) (rows_pair d r)) → StandsPair d e (half C (rows_pair d t.pair))
      → StandsCounted d (record { pair = e; steps = t.steps }) (counted_subtract_and_halve C (rows_pair d a) (rows_pair d b))
  unfolding counted_subtract_and_halve
  subtract_and_halve_stands {r} {e} {t} o s g =
      let sum = subst (λ D. StandsCounted d t (counted_sum C (rows_pair d a) D)) (pair_eq d o) s in
      record { pair_stands = subst (λ D. StandsPair d e (half C D)) (pair_eq d sum.pair_stands) g; steps_is = sum.steps_is }
