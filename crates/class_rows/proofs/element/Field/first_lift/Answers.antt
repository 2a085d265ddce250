-- `first_lift` meets its contract: the square of √w3 is w3, so no coefficient is squared.
use Rattle.row_theory.proofs.{HalfRows.Rows.quartic_fits, HalfRows.Parts3.first_lift_stands}
use Rattle.class_rows.proofs.element.Field.first_lift.Goals as goal

pub lifted_row-requires-clause-room : goal.lifted_row-requires-clause-room
lifted_row-requires-clause-room c = quartic_fits _ _ _ _ _ c.quartic_row-m.ensures c.requires.room

pub returns : goal.returns
returns c = first_lift_stands _ _ _ c.requires.root c.quadratic_row-k.ensures c.quartic_row-m.ensures c.lifted_row.ensures
