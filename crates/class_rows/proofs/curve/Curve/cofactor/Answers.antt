-- `cofactor` meets its contract: the quotient of v² + v + f by u.
use Rattle.class_rows.proofs.ReductionRows.{cofactor_row}
use Rattle.class_rows.proofs.curve.Curve.cofactor.Goals as goal

pub returns : goal.returns
returns c = cofactor_row _ c.args.a c.curve_value-value.ensures c.quotient.ensures
