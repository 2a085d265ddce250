-- `low_row` meets its contract: the row is written out.
use mathlib.Core.Path.{refl}
use Rattle.row_theory.specs.Row.{filled}
use Rattle.class_rows.proofs.row.low_row.Goals as goal

pub returns : goal.returns
unfolding filled
returns c = refl
