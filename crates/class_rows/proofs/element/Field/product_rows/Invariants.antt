-- The invariant of `product_rows`: the row stands for the part of a below x^i, times b.
use Prim.Native.Nat.{◌≤◌}
use Rattle.row_theory.proofs.{Rows.Multiply.Partial}
use Rattle.class_rows.proofs.element.Field.product_rows.Given as goal

abbrev pub invariant-loop-i : goal.invariant-loop-i
invariant-loop-i l = (l.i-end ≤ 12) × Partial l.self.degree l.a l.b l.r l.i
