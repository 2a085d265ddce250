-- `second_square` meets its contract: the summands as the rows stand for them.
use Rattle.row_theory.proofs.{Rows.Elements.one_lt, HalfRows.Rows.quartic_fits, HalfRows.Parts3.second_square_stands}
use Rattle.class_rows.proofs.element.Field.second_square.Goals as goal

pub quartic_row-m-requires-clause-m1_in : goal.quartic_row-m-requires-clause-m1_in
quartic_row-m-requires-clause-m1_in c = one_lt c.args.self.degree

pub lifted_row-requires-clause-room : goal.lifted_row-requires-clause-room
lifted_row-requires-clause-room c = quartic_fits _ _ _ _ _ c.quartic_row-m.ensures c.requires.room

pub returns : goal.returns
returns c = second_square_stands _ _ _ _ _ _ c.product-tq.ensures c.quadratic_row-k.ensures c.quartic_row-m.ensures c.scale-eu.ensures c.lifted_row.ensures
