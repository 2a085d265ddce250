-- `opposite` meets its contract: the neutral class is its own opposite.
use native.Mathlib.Omega.{arith}
use Rattle.class_rows.proofs.OppositeRows.{opposite_short, opposite_long}
use Rattle.row_theory.proofs.Rows.Length.{places_len}
use Rattle.class_rows.proofs.curve.Curve.opposite.Goals as goal

pub returns-then-length-lt2 : goal.returns-then-length-lt2
returns-then-length-lt2 c =
    λ C.
    let d = c.args.self.field.degree in let e = places_len _ c.length.ensures d c.requires.u_in in
    opposite_short d C c.args.a c.requires.u_in c.requires.v_in (omega arith)

pub returns : goal.returns
returns c =
    λ C.
    let d = c.args.self.field.degree in let e = places_len _ c.length.ensures d c.requires.u_in in
    opposite_long d C c.args.a c.requires.u_in c.requires.v_in (omega arith) (c.one.ensures _) c.sum_rows-v.ensures

pub sum_rows-v-requires-clause-b_in : goal.sum_rows-v-requires-clause-b_in
sum_rows-v-requires-clause-b_in c = (c.one.ensures _).in_range
