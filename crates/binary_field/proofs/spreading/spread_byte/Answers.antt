-- `spread_byte` meets its contract: the table's rule is one test, computed at each of its entries.
use mathlib.Core.Path.{refl}
use Rattle.binary_field.specs.declared.spreading.TheConstants.{SPREAD}
use Rattle.binary_field_theory.specs.Carryless.{spread, digits, digits_to}
use Rattle.binary_field_theory.specs.Spreading.{Spreads, every}
use Rattle.binary_field_theory.proofs.Words.Table.{by_test}
use Rattle.binary_field.proofs.spreading.spread_byte.Goals as goal

spreads : Spreads SPREAD
unfolding every spread digits digits_to
spreads = by_test _ refl tt

pub returns : goal.returns
returns c = spreads.entry c.args.w c.ranges.w.fits
