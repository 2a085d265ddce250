-- `row::one` meets its contract.
use mathlib.Core.Path.{sym, subst}
use Rattle.row_theory.specs.{Field.𝔸, Row.Stands, Row.filled}
use Rattle.row_theory.proofs.Rows.Constants.{one_stands}
use Rattle.class_rows.proofs.row.one.Goals as goal

pub returns : goal.returns
unfolding filled
returns c d = subst (λ r. Stands d r (𝔸 d).ring.one) (sym c.low_row.ensures) (one_stands d)
