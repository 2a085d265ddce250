-- `halvings` meets its contract.
use Rattle.seal_licence.proofs.Theorems.{halvings_given}
use Rattle.seal_licence.proofs.multiples.halvings.Goals as goal

pub returns : goal.returns
returns c = halvings_given _ _ _ c.in_ok-check_halvings.ensures c.halved_of_accepted.ensures
