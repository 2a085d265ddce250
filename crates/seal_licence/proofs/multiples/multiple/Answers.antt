-- `multiple` meets its contract.
use mathlib.Core.Path.{sym}
use Rattle.seal_licence.proofs.Answers.{multiple_passes}
use Rattle.seal_licence.proofs.multiples.multiple.Goals as goal

pub multiple_of_accepted-requires : goal.multiple_of_accepted-requires
multiple_of_accepted-requires c = multiple_passes _ _ _ (sym c.in_ok-check_multiple.ensures)
