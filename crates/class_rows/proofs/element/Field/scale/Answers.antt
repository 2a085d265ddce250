-- `scale` meets its contract: a multiple added to 0 with no shift.
use Rattle.std.proofs.Common.{◌≡◌, rules, arith, length}
use Rattle.row_theory.proofs.Rows.{Coefficients.row_len_length, Coefficients.stands_eq, Sums.multiple_alone}
use Rattle.class_rows.proofs.element.Field.scale.Goals as goal

pub add_multiple-requires-clause-room : goal.add_multiple-requires-clause-room
add_multiple-requires-clause-room c =
    let size : length c.args.a ≡ 12 = search rules in
    let len = row_len_length c.args.self.degree c.args.a 12 size in omega arith

pub returns : goal.returns
returns c = stands_eq _ (multiple_alone _ _ _) c.add_multiple.ensures
