-- `squared` meets its contract: the composition of a double, with the quotient.
use native.Mathlib.Omega.{arith}
use Rattle.class_rows.proofs.DoubleRows.{reduced_len, squared_nonzero, squared}
use Rattle.class_rows.proofs.curve.Curve.squared.Goals as goal

pub square_row-square-requires-clause-short : goal.square_row-square-requires-clause-short
square_row-square-requires-clause-short c = let l = reduced_len _ c.requires in omega arith

pub square_row-other-requires-clause-short : goal.square_row-other-requires-clause-short
square_row-other-requires-clause-short c = let l = reduced_len _ c.requires in omega arith

pub divide-requires-clause-nonzero : goal.divide-requires-clause-nonzero
divide-requires-clause-nonzero c = squared_nonzero _ c.requires c.square_row-square.ensures

pub returns : goal.returns
returns c =
    squared _ c.args.a c.square_row-square.ensures c.square_row-other.ensures c.sum_rows-sum.ensures c.divide.ensures
