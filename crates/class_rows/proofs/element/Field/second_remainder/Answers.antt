-- `second_remainder` meets its contract: both remainders are by the same divisor of length 4.
use native.Mathlib.Omega.{arith}
use Rattle.row_theory.proofs.{Rows.Elements.one_lt, HalfRows.Rows.quadratic_fits, HalfRows.Parts3.divisor_nonzero}
use Rattle.row_theory.proofs.HalfRows.Parts3.{remainder_len, sum_len, second_remainder_stands}
use Rattle.class_rows.proofs.element.Field.second_remainder.Goals as goal

pub divide-requires-clause-nonzero : goal.divide-requires-clause-nonzero
divide-requires-clause-nonzero c = divisor_nonzero _ _ c.requires.a_cubic

pub quadratic_row-y-requires-clause-k1_in : goal.quadratic_row-y-requires-clause-k1_in
quadratic_row-y-requires-clause-k1_in c = one_lt c.args.self.degree

pub product_rows-p-requires-clause-room : goal.product_rows-p-requires-clause-room
product_rows-p-requires-clause-room c = quadratic_fits _ _ _ _ _ c.quadratic_row-y.ensures (omega (arith, remainder_len _ _ c.requires.a_cubic _ c.divide.ensures.1))

pub divide-requires-2-clause-nonzero : goal.divide-requires-2-clause-nonzero
divide-requires-2-clause-nonzero c = divisor_nonzero _ _ c.requires.a_cubic

pub add_multiple-l-requires-clause-room : goal.add_multiple-l-requires-clause-room
add_multiple-l-requires-clause-room c = omega (arith, sum_len _ _ c.requires.a_cubic _ c.sum_rows-h.ensures c.requires.u_short)

pub add_multiple-requires-clause-room : goal.add_multiple-requires-clause-room
add_multiple-requires-clause-room c = omega (arith, remainder_len _ _ c.requires.a_cubic _ c.divide-2.ensures.1)

pub returns : goal.returns
returns c =
    second_remainder_stands _ _ _ _ _ _ _ _ c.divide.ensures.1 c.quadratic_row-y.ensures c.product_rows-p.ensures c.divide-2.ensures.1
    c.sum_rows-h.ensures c.add_multiple-l.ensures c.add_multiple.ensures
