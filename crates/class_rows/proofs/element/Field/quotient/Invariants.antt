-- The invariant of `quotient`: from x^k on a + q b has no coefficient, and q has none below k less b's degree.
use Prim.Native.Nat.{suc, ◌≤◌}
use mathlib.Core.Path.{◌≡◌}
use Rattle.row_theory.specs.{Row.row_len}
use Rattle.row_theory.proofs.{QuotientRows.Divided}
use Rattle.class_rows.proofs.element.Field.quotient.Given as goal

abbrev pub invariant-loop-k : goal.invariant-loop-k
invariant-loop-k l = (l.k ≤ 12) × (row_len l.self.degree l.b ≡ suc l.top) × Divided l.self.degree l.a l.b l.q l.top l.k
