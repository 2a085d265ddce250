-- `filled` meets its contract: the numbers are written over the first of twelve zeros.
use mathlib.Core.Path.{ap₂}
use mathlib.Core.List.{◌++◌}
use lib.ListN.{length}
use Rattle.std.proofs.lemmas.List.{drop-replicate}
use Rattle.row_theory.specs.Row.{filled}
use Rattle.jacobian.proofs.classes.filled.Goals as goal

pub returns : goal.returns
unfolding filled
returns c = ap₂ ◌++◌ c.copy_from_slice.ensures.after (drop-replicate (length c.args.numbers.now) 12 0)
