-- `half_of_degree_3` meets its contract: the first lift is a square where t is 0, else the second lift gives one
-- (row_theory, proofs/HalfRows/Computed3.antt, Lifted3.antt).
use native.Mathlib.Omega.{arith}
use Rattle.row_theory.proofs.HalfRows.{Rows.quadratic_fits, Lifted3.Lifted3, Lifted3.root_len, Lifted3.result_3}
use Rattle.row_theory.proofs.HalfRows.Computed3.{Computed3, first_lift_short, root_nonzero_3_square, result_3_square}
use Rattle.class_rows.proofs.ReductionRows.{stands_pair_eq, pair_stands}
use Rattle.class_rows.proofs.element.Field.half_of_degree_3.Goals as goal
use Rattle.class_rows.proofs.element.Field.half_of_degree_3.Goals.{After-root-t, After-root_row-a}

-- the first lift
computed : (c : After-root-t) → Computed3 c.args.self.degree c.args.u c.args.v c.args.w c.root-r.result c.first_lift-s.result c.root-t.result
computed c = record { rows = c.requires; r_is = c.root-r.ensures; s_is = c.first_lift-s.ensures; t_is = c.root-t.ensures }

-- the second lift
lifted : (c : After-root_row-a) → Lifted3 c.args.self.degree c.args.u c.args.v c.args.w c.root-r.result c.first_lift-s.result c.root-t.result c.inverse-i.result c.sum-g.result c.root-q.result c.second_square-p.result c.root_row-a.result
lifted c = record {
  first = record { rows = c.requires; r_is = c.root-r.ensures; s_is = c.first_lift-s.ensures; t_is = c.root-t.ensures };
  t_nonzero = c.if-t-eq0.false;
  i_is = c.inverse-i.ensures;
  g_is = c.sum-g.ensures;
  q_is = c.root-q.ensures;
  p_is = c.second_square-p.ensures;
  a_is = c.root_row-a.ensures;
}

pub exchanged_row-o-requires-clause-room : goal.exchanged_row-o-requires-clause-room
exchanged_row-o-requires-clause-room c = quadratic_fits _ _ _ _ _ c.quadratic_row-k.ensures (omega (arith, c.requires.u_len))

pub root_pair-requires-clause-nonzero : goal.root_pair-requires-clause-nonzero
root_pair-requires-clause-nonzero c = root_nonzero_3_square _ _ _ _ (computed (goal.at.root_pair-requires-clause-nonzero c).After-root-t) c.if-t-eq0.true

pub returns-then-t-eq0 : goal.returns-then-t-eq0
returns-then-t-eq0 c =
    stands_pair_eq _ (result_3_square _ _ _ _ (computed (goal.at.returns-then-t-eq0 c).After-root-t) c.if-t-eq0.true c.quadratic_row-k.ensures c.exchanged_row-o.ensures) c.root_pair.ensures

pub second_square-p-requires-clause-room : goal.second_square-p-requires-clause-room
second_square-p-requires-clause-room c = first_lift_short _ _ _ _ (computed (goal.at.second_square-p-requires-clause-room c).After-root-t)

pub second_remainder-o-requires-clause-a_cubic : goal.second_remainder-o-requires-clause-a_cubic
second_remainder-o-requires-clause-a_cubic c = root_len _ _ _ _ (lifted (goal.at.second_remainder-o-requires-clause-a_cubic c).After-root_row-a)

pub returns : goal.returns
returns c =
    let s = lifted (goal.at.returns c).After-root_row-a in
    let o = c.second_remainder-o.ensures in pair_stands _ s.a_is.in_range o.in_range (result_3 _ _ _ _ s o)
