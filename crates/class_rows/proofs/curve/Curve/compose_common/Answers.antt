-- `compose_common`: e is a divisor of u1 and u2, all products fit a row, and the joined pair is the composition.
use native.Mathlib.Omega.{arith}
use Rattle.class_rows.proofs.DoubleRows.{reduced_semi}
use Rattle.class_rows.proofs.ComposeRows.{Common, sum_len, third_len, divisor_len, cofactor_short, sum_short, first_short, second_s_short, second_t_short, e_nonzero, part₁_short, part₂_short, part₁_nonzero, part₂_nonzero, common_stands}
use Rattle.class_rows.proofs.curve.Curve.compose_common.Goals as goal
use Rattle.class_rows.proofs.curve.Curve.compose_common.Goals.{After-bezout-second}

-- what Euclid's rule gives
common : (c : After-bezout-second) → Common c.args.self.field.degree c.args.self.f c.args.a c.args.b c.args.first.g c.args.first.s c.args.first.t c.sum_rows-sum.result c.one.result c.sum_rows-c.result c.bezout-second.result.g c.bezout-second.result.s c.bezout-second.result.t
common c = record {
  reduced₁ = c.requires.a_reduced;
  reduced₂ = c.requires.b_reduced;
  first_is = c.requires.combines;
  sum_is = c.sum_rows-sum.ensures;
  one_is = c.one.ensures _;
  third_is = c.sum_rows-c.ensures;
  second_is = c.bezout-second.ensures;
}

pub bezout-second-requires-clause-a_short : goal.bezout-second-requires-clause-a_short
bezout-second-requires-clause-a_short c = divisor_len c.args.self.field.degree c.requires.a_reduced c.requires.combines

pub bezout-second-requires-clause-b_short : goal.bezout-second-requires-clause-b_short
bezout-second-requires-clause-b_short c =
    let d = c.args.self.field.degree in let p = c.requires in
    let l = third_len d c.sum_rows-sum.result (c.one.ensures _) c.sum_rows-c.ensures (sum_len d p.a_reduced p.b_reduced p.combines c.sum_rows-sum.ensures) in
    omega (arith, l)

pub cofactor-w-requires : goal.cofactor-w-requires
cofactor-w-requires c = reduced_semi c.args.self.field.degree c.requires.a_reduced

pub multiple_row-m-requires-clause-sum_short : goal.multiple_row-m-requires-clause-sum_short
multiple_row-m-requires-clause-sum_short c = let k = common (goal.at.multiple_row-m-requires-clause-sum_short c).After-bezout-second in sum_short k

pub multiple_row-m-requires-clause-w_short : goal.multiple_row-m-requires-clause-w_short
multiple_row-m-requires-clause-w_short c = cofactor_short c.args.self.field.degree c.requires.a_reduced c.cofactor-w.ensures

pub multiple_row-m-requires-clause-first_s : goal.multiple_row-m-requires-clause-first_s
multiple_row-m-requires-clause-first_s c = let k = common (goal.at.multiple_row-m-requires-clause-first_s c).After-bezout-second in first_short k

pub multiple_row-m-requires-clause-second_s : goal.multiple_row-m-requires-clause-second_s
multiple_row-m-requires-clause-second_s c = let k = common (goal.at.multiple_row-m-requires-clause-second_s c).After-bezout-second in second_s_short k

pub multiple_row-m-requires-clause-second_t : goal.multiple_row-m-requires-clause-second_t
multiple_row-m-requires-clause-second_t c = let k = common (goal.at.multiple_row-m-requires-clause-second_t c).After-bezout-second in second_t_short k

pub divide-requires-clause-nonzero : goal.divide-requires-clause-nonzero
divide-requires-clause-nonzero c = let k = common (goal.at.divide-requires-clause-nonzero c).After-bezout-second in e_nonzero k

pub divide-requires-2-clause-nonzero : goal.divide-requires-2-clause-nonzero
divide-requires-2-clause-nonzero c = let k = common (goal.at.divide-requires-2-clause-nonzero c).After-bezout-second in e_nonzero k

pub joined_rows-requires-clause-d1_short : goal.joined_rows-requires-clause-d1_short
joined_rows-requires-clause-d1_short c = let k = common (goal.at.joined_rows-requires-clause-d1_short c).After-bezout-second in part₁_short k c.divide.ensures.0 c.divide-2.ensures.0

pub joined_rows-requires-clause-d2_short : goal.joined_rows-requires-clause-d2_short
joined_rows-requires-clause-d2_short c = let k = common (goal.at.joined_rows-requires-clause-d2_short c).After-bezout-second in part₂_short k c.divide.ensures.0 c.divide-2.ensures.0

pub joined_rows-requires-clause-d1_nonzero : goal.joined_rows-requires-clause-d1_nonzero
joined_rows-requires-clause-d1_nonzero c = let k = common (goal.at.joined_rows-requires-clause-d1_nonzero c).After-bezout-second in part₁_nonzero k c.divide.ensures.0 c.divide-2.ensures.0

pub joined_rows-requires-clause-d2_nonzero : goal.joined_rows-requires-clause-d2_nonzero
joined_rows-requires-clause-d2_nonzero c = let k = common (goal.at.joined_rows-requires-clause-d2_nonzero c).After-bezout-second in part₂_nonzero k c.divide.ensures.0 c.divide-2.ensures.0

pub returns : goal.returns
returns c = let k = common (goal.at.returns c).After-bezout-second in common_stands k c.divide.ensures.0 c.divide-2.ensures.0 c.cofactor-w.ensures c.multiple_row-m.ensures c.joined_rows.ensures
