-- `double` meets its contract: the composition, which is reduced where u has at most two coefficients, and else is
-- reduced by `reduce_with`.
use native.Mathlib.Omega.{arith}
use Rattle.class_rows.proofs.{ReductionRows.none_counted, DoubleRows.squared_len, DoubleRows.squared_semi, DoubleRows.double_counted}
use Rattle.row_theory.proofs.Rows.Length.{places_len}
use Rattle.class_rows.proofs.curve.Curve.double.Goals as goal

pub returns-then-length-le2 : goal.returns-then-length-le2
returns-then-length-le2 c =
    let r = c.requires.reduced in let s = c.squared-s.ensures in let n = places_len _ c.length.ensures _ r.u_range in
    let l = squared_len _ r s in
    double_counted _ r s (none_counted _ (squared_semi _ r s) (omega (arith, l, n, c.if-length-le2.true)))

pub squared_cofactor-next-requires-clause-long : goal.squared_cofactor-next-requires-clause-long
squared_cofactor-next-requires-clause-long c = let n = places_len _ c.length.ensures _ c.requires.reduced.u_range in omega (arith, n, c.if-length-le2.false)

pub reduce_with-requires-clause-semi_reduced : goal.reduce_with-requires-clause-semi_reduced
reduce_with-requires-clause-semi_reduced c = squared_semi _ c.requires.reduced c.squared-s.ensures

pub reduce_with-requires-clause-long : goal.reduce_with-requires-clause-long
reduce_with-requires-clause-long c =
    let r = c.requires.reduced in let n = places_len _ c.length.ensures _ r.u_range in
    let l = squared_len _ r c.squared-s.ensures in omega (arith, l, n, c.if-length-le2.false)

pub returns : goal.returns
returns c = double_counted _ c.requires.reduced c.squared-s.ensures c.reduce_with.ensures
