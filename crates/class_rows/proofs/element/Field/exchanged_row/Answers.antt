-- `exchanged_row` meets its contract: the row of 1 is added to v + k u.
use Rattle.row_theory.proofs.HalfRows.Rows.{exchanged_stands}
use Rattle.class_rows.proofs.element.Field.exchanged_row.Goals as goal

pub returns : goal.returns
returns c = exchanged_stands _ _ c.add_product-s.ensures (c.one.ensures _) c.sum_rows.ensures
