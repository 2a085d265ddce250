-- The invariant of `row::length`: the numbers from n on are 0.
use Rattle.row_theory.proofs.Rows.Length.{Blank}
use Rattle.class_rows.proofs.row.length.Given as goal

abbrev pub invariant-loop-n : goal.invariant-loop-n
invariant-loop-n l = Blank l.a l.n
