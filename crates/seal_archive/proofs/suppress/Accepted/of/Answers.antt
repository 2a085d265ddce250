-- `suppress::Accepted::of` makes an accepted archive.
use mathlib.Core.Path.{sym}
use Rattle.seal_archive.proofs.Answers.{header_accepted, accepted_as}
use Rattle.seal_archive.proofs.suppress.Accepted.of.Goals as goal

pub unwrap-state-requires : goal.unwrap-state-requires
unwrap-state-requires c = header_accepted _ (λ i. (c.type_inv.bytes i).fits) (sym c.in_ok-check_archive.ensures) _ c.read_header.ensures

pub invariant_of-result : goal.invariant_of-result
invariant_of-result c =
    record { accepted = accepted_as _ (λ i. (c.type_inv.bytes i).fits) (sym c.in_ok-check_archive.ensures) c.read_header.ensures c.unwrap-state.ensures }
