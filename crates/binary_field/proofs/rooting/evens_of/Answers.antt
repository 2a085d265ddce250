-- `evens_of` meets its contract.
use Rattle.binary_field_theory.specs.Carryless.{◌⊕◌}
use Rattle.binary_field_theory.proofs.Words.Evens.{gather, gathered, gathered_evens}
use Rattle.binary_field.proofs.rooting.evens_of.Goals as goal

pub returns : goal.returns
unfolding gathered gather ◌⊕◌
returns c = gathered_evens c.args.n c.ranges.n.fits
