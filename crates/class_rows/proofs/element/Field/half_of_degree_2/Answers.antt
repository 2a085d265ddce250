-- `half_of_degree_2` meets its contract: u is a square where u1 is 0.
use Rattle.row_theory.proofs.HalfRows.Computed2.{root_nonzero_2_square, result_2_square}
use Rattle.class_rows.proofs.ReductionRows.{stands_pair_eq}
use Rattle.class_rows.proofs.element.Field.half_of_degree_2.Goals as goal

pub root_pair-requires-clause-nonzero : goal.root_pair-requires-clause-nonzero
root_pair-requires-clause-nonzero c = root_nonzero_2_square _ _ _ c.args.w c.if-u-eq0.true c.requires

pub returns-then-u-eq0 : goal.returns-then-u-eq0
returns-then-u-eq0 c = stands_pair_eq _ (result_2_square _ _ _ _ c.if-u-eq0.true) c.root_pair.ensures
