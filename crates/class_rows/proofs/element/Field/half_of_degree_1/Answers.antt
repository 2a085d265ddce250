-- `half_of_degree_1` meets its contract: its calls give the lift of the rule (row_theory,
-- proofs/HalfRows/Computed1.antt).
use native.Mathlib.Omega.{arith}
use Rattle.row_theory.proofs.HalfRows.{Rows.quadratic_fits, Rows.quartic_fits, Computed1.Computed1, Computed1.root_nonzero_1, Computed1.result_1}
use Rattle.class_rows.proofs.ReductionRows.{stands_pair_eq}
use Rattle.class_rows.proofs.element.Field.half_of_degree_1.Goals as goal
use Rattle.class_rows.proofs.element.Field.half_of_degree_1.Goals.{After-exchanged_row-q}

-- what the calls give
computed : (c : After-exchanged_row-q) → Computed1 c.args.self.degree c.args.u c.args.v c.args.w c.root-k2.result c.root-k1.result c.sum-s.result c.root-k0.result c.quadratic_row-k.result c.quartic_row-m.result c.lifted_row-p.result c.exchanged_row-q.result
computed c = record {
  k2_is = c.root-k2.ensures;
  k1_is = c.root-k1.ensures;
  s_is = c.sum-s.ensures;
  k0_is = c.root-k0.ensures;
  k_is = c.quadratic_row-k.ensures;
  m_is = c.quartic_row-m.ensures;
  p_is = c.lifted_row-p.ensures;
  q_is = c.exchanged_row-q.ensures;
}

pub lifted_row-p-requires-clause-room : goal.lifted_row-p-requires-clause-room
lifted_row-p-requires-clause-room c = quartic_fits _ _ _ _ _ c.quartic_row-m.ensures (omega (arith, c.requires.u_len))

pub exchanged_row-q-requires-clause-room : goal.exchanged_row-q-requires-clause-room
exchanged_row-q-requires-clause-room c = quadratic_fits _ _ _ _ _ c.quadratic_row-k.ensures (omega (arith, c.requires.u_len))

pub root_pair-requires-clause-nonzero : goal.root_pair-requires-clause-nonzero
root_pair-requires-clause-nonzero c = root_nonzero_1 _ _ _ _ (computed (goal.at.root_pair-requires-clause-nonzero c).After-exchanged_row-q) c.requires

pub returns : goal.returns
returns c = stands_pair_eq _ (result_1 _ _ _ _ (computed (goal.at.returns c).After-exchanged_row-q)) c.root_pair.ensures
