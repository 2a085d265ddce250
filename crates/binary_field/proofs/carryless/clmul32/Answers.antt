-- `clmul32` meets its contract.
use Rattle.binary_field_theory.specs.Carryless.{◌⊕◌}
use Rattle.binary_field_theory.proofs.{Words.Parts.ones, Words.Parts.part, Words.Columns.joined}
use Rattle.binary_field.proofs.carryless.clmul32.Goals as goal

pub returns : goal.returns
unfolding ◌⊕◌ part ones
returns c = joined c.args.a c.args.b c.requires.0 c.requires.1
