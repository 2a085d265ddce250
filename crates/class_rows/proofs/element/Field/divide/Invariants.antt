-- The invariant of `divide`: a = q b + r, and r has no numbers from k on.
use Prim.Native.Nat.{◌≤◌}
use Rattle.row_theory.specs.Field.{poly}
use Rattle.row_theory.proofs.Rows.Divide.{Dividing}
use Rattle.class_rows.proofs.element.Field.divide.Given as goal

abbrev pub invariant-loop-k : goal.invariant-loop-k
invariant-loop-k l = (l.k ≤ 12) × Dividing l.self.degree l.low l.top l.inverse (poly l.self.degree l.initial.remainder) l.quotient l.remainder l.k
