-- `sum_rows` meets its contract: a sum is a multiple added with factor 1 and no shift.
use Rattle.std.proofs.Common.{◌≡◌, rules, arith, length}
use Rattle.row_theory.proofs.{Rows.Elements.one_lt, Rows.Coefficients.row_len_length, Rows.Coefficients.stands_eq, Rows.Sums.multiple_one}
use Rattle.class_rows.proofs.element.Field.sum_rows.Goals as goal

pub add_multiple-requires-clause-c_in : goal.add_multiple-requires-clause-c_in
add_multiple-requires-clause-c_in c = one_lt _

pub add_multiple-requires-clause-room : goal.add_multiple-requires-clause-room
add_multiple-requires-clause-room c =
    let size : length c.args.b ≡ 12 = search rules in
    let len = row_len_length c.args.self.degree c.args.b 12 size in omega arith

pub returns : goal.returns
returns c = stands_eq _ (multiple_one _ _ _) c.add_multiple.ensures
