-- The invariant of `product_at`: the sum is that of the terms from q's coefficients below j.
use Rattle.row_theory.proofs.QuotientRows.{Partial}
use Rattle.class_rows.proofs.element.Field.product_at.Given as goal

abbrev pub invariant-loop-j : goal.invariant-loop-j
invariant-loop-j l = Partial l.self.degree l.q l.b l.k l.j l.sum
