-- `double_and_add` meets its contract.
use native.Mathlib.Omega.{arith}
use Rattle.class_rows.proofs.MoveRows.{doubled_reduced, doubled_steps, summed_steps, double_and_add_stands}
use Rattle.class_rows.proofs.curve.Curve.double_and_add.Goals as goal

pub sum-summed-requires-clause-a_reduced : goal.sum-summed-requires-clause-a_reduced
sum-summed-requires-clause-a_reduced c = doubled_reduced c.args.self.field.degree c.requires.a_reduced c.double-doubled.ensures

pub overflow_add-result : goal.overflow_add-result
overflow_add-result c =
    let doubled = c.double-doubled.ensures in let d = doubled_steps c.args.self.field.degree c.requires.a_reduced doubled in
    let e = summed_steps c.args.self.field.degree (doubled_reduced c.args.self.field.degree c.requires.a_reduced doubled) c.requires.b_reduced c.sum-summed.ensures in
    omega (arith, d, e)

pub returns : goal.returns
returns c C on =
    double_and_add_stands c.args.self.field.degree c.args.a c.args.b C (c.double-doubled.ensures C on) (c.sum-summed.ensures C on)
