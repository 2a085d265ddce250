-- `product_at` meets its contract. The invariant: the sum is that of the terms from q's coefficients below j.
use native.Mathlib.Omega.{arith}
use Rattle.row_theory.proofs.QuotientRows.{partial_start, partial_turn, partial_end}
use Rattle.class_rows.proofs.element.Field.product_at.Goals as goal

pub loop-j-init : goal.loop-j-init
loop-j-init c = partial_start _ c.requires.blank

pub loop-j-preserved : goal.loop-j-preserved
loop-j-preserved c = partial_turn _ c.loop-j.invariant (omega arith) c.product.ensures c.sum-sum.ensures

pub returns : goal.returns
returns c = partial_end _ c.loop-j.invariant (omega arith)
