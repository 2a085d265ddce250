-- The invariant of `root_row`: the numbers below i are those of the square root, the others 0.
use Prim.Native.Nat.{◌≤◌}
use lib.ListN.{replicate}
use Rattle.char2_algebra.specs.Square.{sqrt}
use Rattle.row_theory.specs.Field.{𝔸, poly}
use Rattle.row_theory.proofs.{Rows.Fill.Filled}
use Rattle.class_rows.proofs.element.Field.root_row.Given as goal

abbrev pub invariant-loop-i : goal.invariant-loop-i
invariant-loop-i l =
    let d = l.self.degree in
    (l.i-end ≤ 6) × Filled d l.r l.i (sqrt (𝔸 d) (poly d l.a)) (poly d (replicate 12 0))
