-- `compose`: where the divisor of u1 and u2 is 1, the composition by the coefficient of u1 alone.
use native.Mathlib.Omega.{arith}
use Rattle.class_rows.proofs.DoubleRows.{reduced_len}
use Rattle.class_rows.proofs.ComposeRows.{u_nonzero, u_short, sum_len, first_len, coprime_stands}
use Rattle.row_theory.proofs.Rows.Length.{places_len}
use Rattle.class_rows.proofs.curve.Curve.compose.Goals as goal

pub bezout-first-requires-clause-a_short : goal.bezout-first-requires-clause-a_short
bezout-first-requires-clause-a_short c = (reduced_len c.args.self.field.degree c.requires.a_reduced).0

pub bezout-first-requires-clause-b_short : goal.bezout-first-requires-clause-b_short
bezout-first-requires-clause-b_short c = (reduced_len c.args.self.field.degree c.requires.b_reduced).0

pub product_rows-m-requires-clause-room : goal.product_rows-m-requires-clause-room
product_rows-m-requires-clause-room c =
    let d = c.args.self.field.degree in let A = c.requires.a_reduced in let B = c.requires.b_reduced in let I = c.bezout-first.ensures in let S = c.sum_rows-sum.ensures in
    omega (arith, sum_len d A B I S, first_len d A B I S)

pub joined_rows-requires-clause-d1_short : goal.joined_rows-requires-clause-d1_short
joined_rows-requires-clause-d1_short c = u_short c.args.self.field.degree c.requires.a_reduced

pub joined_rows-requires-clause-d2_short : goal.joined_rows-requires-clause-d2_short
joined_rows-requires-clause-d2_short c = u_short c.args.self.field.degree c.requires.b_reduced

pub joined_rows-requires-clause-d1_nonzero : goal.joined_rows-requires-clause-d1_nonzero
joined_rows-requires-clause-d1_nonzero c = u_nonzero c.args.self.field.degree c.requires.a_reduced

pub joined_rows-requires-clause-d2_nonzero : goal.joined_rows-requires-clause-d2_nonzero
joined_rows-requires-clause-d2_nonzero c = u_nonzero c.args.self.field.degree c.requires.b_reduced

pub returns : goal.returns
returns c =
    let d = c.args.self.field.degree in let I = c.bezout-first.ensures in let n = places_len _ c.length.ensures d I.g_range in
    coprime_stands d c.requires.a_reduced c.requires.b_reduced I c.sum_rows-sum.ensures (omega (arith, n)) c.product_rows-m.ensures c.joined_rows.ensures
