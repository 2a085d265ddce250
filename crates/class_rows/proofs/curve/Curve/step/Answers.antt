-- `step` meets its contract: w made monic, and the remainder of v + 1.
use mathlib.Core.Path.{sym, ◌∙◌}
use Rattle.char2_algebra.proofs.Lead.{monic_of_nonzero}
use Rattle.row_theory.specs.Field.{𝔸}
use Rattle.class_rows.proofs.ReductionRows.{cofactor_row_nonzero, step_rows}
use Rattle.class_rows.proofs.curve.Curve.step.Goals as goal

pub monic-next-requires-clause-nonzero : goal.monic-next-requires-clause-nonzero
monic-next-requires-clause-nonzero c = cofactor_row_nonzero _ c.requires.semi_reduced c.requires.cofactor

pub divide-requires-clause-nonzero : goal.divide-requires-clause-nonzero
divide-requires-clause-nonzero c e =
    monic_of_nonzero (𝔸 _) _ (cofactor_row_nonzero _ c.requires.semi_reduced c.requires.cofactor) (sym c.monic-next.ensures.stands ∙ e)

pub returns : goal.returns
returns c =
    step_rows _ c.args.a c.requires.cofactor c.monic-next.ensures (c.one.ensures _) c.sum_rows-other.ensures c.divide.ensures.1
