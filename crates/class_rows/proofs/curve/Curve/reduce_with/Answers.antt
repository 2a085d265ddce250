-- `reduce_with` meets its contract: one step, and a second where u still has more than four coefficients.
use native.Mathlib.Omega.{arith}
use Rattle.class_rows.proofs.ReductionRows.{exchanged_rows, once_counted, twice_counted}
use Rattle.row_theory.proofs.Rows.Length.{places_len}
use Rattle.class_rows.proofs.curve.Curve.reduce_with.Goals as goal

pub returns-then-length-le4 : goal.returns-then-length-le4
returns-then-length-le4 c =
    let p = c.requires in let t = c.step-once.ensures in let n = places_len _ c.length.ensures _ (exchanged_rows _ p.semi_reduced p.long t).u_range in
    once_counted _ p.semi_reduced p.long t (omega (arith, n, c.if-length-le4.true))

pub cofactor-next-requires : goal.cofactor-next-requires
cofactor-next-requires c = exchanged_rows _ c.requires.semi_reduced c.requires.long c.step-once.ensures

pub step-requires-clause-semi_reduced : goal.step-requires-clause-semi_reduced
step-requires-clause-semi_reduced c = exchanged_rows _ c.requires.semi_reduced c.requires.long c.step-once.ensures

pub returns : goal.returns
returns c =
    let p = c.requires in let t = c.step-once.ensures in let n = places_len _ c.length.ensures _ (exchanged_rows _ p.semi_reduced p.long t).u_range in
    twice_counted _ p.semi_reduced p.long t (omega (arith, n, c.if-length-le4.false)) c.step.ensures
