-- `reduce` meets its contract: no step where u has at most four coefficients, else what `reduce_with` promises.
use native.Mathlib.Omega.{arith}
use Rattle.class_rows.proofs.ReductionRows.{none_counted}
use Rattle.row_theory.proofs.Rows.Length.{places_len}
use Rattle.class_rows.proofs.curve.Curve.reduce.Goals as goal

pub returns-then-length-le4 : goal.returns-then-length-le4
returns-then-length-le4 c =
    let p = c.requires in let n = places_len _ c.length.ensures _ p.u_range in none_counted _ p (omega (arith, n, c.if-length-le4.true))

pub reduce_with-requires-clause-long : goal.reduce_with-requires-clause-long
reduce_with-requires-clause-long c = let n = places_len _ c.length.ensures _ c.requires.u_range in omega (arith, n, c.if-length-le4.false)
