-- The invariant of `square_row`: the numbers below 2 i are those of a², the others 0.
use Prim.Native.Nat.{◌+◌, ◌≤◌}
use lib.ListN.{replicate}
use Rattle.row_theory.specs.Field.{𝔸, poly}
use Rattle.row_theory.proofs.Rows.{Fill.Filled}
use Rattle.class_rows.proofs.element.Field.square_row.Given as goal

abbrev pub invariant-loop-i : goal.invariant-loop-i
invariant-loop-i l =
    let d = l.self.degree in
    (l.i-end ≤ 6) × Filled d l.r (l.i + l.i) ((𝔸 d).ring.mul (poly d l.a) (poly d l.a)) (poly d (replicate 12 0))
