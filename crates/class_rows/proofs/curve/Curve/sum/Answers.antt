-- `sum` meets its contract: the reduction of the composition of two reduced pairs is their sum.
use mathlib.Core.Path.{subst}
use Rattle.class_group.specs.{Operations.counted_sum, Reduction.reduce}
use Rattle.class_group.proofs.Composed.{compose_semi, compose_len}
use Rattle.class_rows.specs.Core.{StandsCounted}
use Rattle.class_rows.proofs.ReductionRows.{pair_eq, reduced_on, semi_rows}
use Rattle.class_rows.proofs.curve.Curve.sum.Goals as goal

pub reduce-requires : goal.reduce-requires
reduce-requires c =
    let d = c.args.self.field.degree in let on = c.requires.a_reduced.on_curve in let left = c.requires.a_reduced.reduced in let right = reduced_on d c.requires.b_reduced on in
    semi_rows d on (compose_semi _ left right) (compose_len _ left right) (c.compose-composed.ensures _ on)

pub returns : goal.returns
unfolding counted_sum
returns c =
    λ C on.
    let d = c.args.self.field.degree in subst (λ D. StandsCounted d c.reduce.result (reduce C D)) (pair_eq d (c.compose-composed.ensures C on)) (c.reduce.ensures C on)
