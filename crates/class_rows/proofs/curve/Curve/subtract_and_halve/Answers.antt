-- `subtract_and_halve` meets its contract.
use Rattle.class_rows.specs.Core.{ReducedRows}
use Rattle.class_rows.proofs.{DoubleRows.reduced_semi, MoveRows.opposed_reduced, MoveRows.summed_reduced, MoveRows.subtract_and_halve_stands}
use Rattle.class_rows.proofs.curve.Curve.subtract_and_halve.Goals as goal
use Rattle.class_rows.proofs.curve.Curve.subtract_and_halve.Goals.{After-sum-difference}

-- the difference is reduced
difference_reduced : (c : After-sum-difference) → ReducedRows c.args.self.field.degree c.args.self.f c.sum-difference.result.pair
difference_reduced c =
    let d = c.args.self.field.degree in summed_reduced d c.requires.a_reduced (opposed_reduced d c.requires.b_reduced c.opposite-opposed.ensures) c.sum-difference.ensures

pub sum-difference-requires-clause-b_reduced : goal.sum-difference-requires-clause-b_reduced
sum-difference-requires-clause-b_reduced c = opposed_reduced c.args.self.field.degree c.requires.b_reduced c.opposite-opposed.ensures

pub cofactor-w-requires : goal.cofactor-w-requires
cofactor-w-requires c = reduced_semi c.args.self.field.degree (difference_reduced (goal.at.cofactor-w-requires c).After-sum-difference)

pub half-requires-clause-reduced : goal.half-requires-clause-reduced
half-requires-clause-reduced c = difference_reduced (goal.at.half-requires-clause-reduced c).After-sum-difference

pub returns : goal.returns
returns c =
    λ C on.
    subtract_and_halve_stands c.args.self.field.degree c.args.a c.args.b C
    (c.opposite-opposed.ensures C) (c.sum-difference.ensures C on) (c.half.ensures C on)
