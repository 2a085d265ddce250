-- `multisquare` meets its contract.
-- The table's rule is tested at the powers of t, and the other entries are sums of these.
use mathlib.Core.Path.{refl}
use Rattle.binary_field.specs.declared.multisquaring.TheConstants.{MULTISQUARES}
use Rattle.binary_field_theory.specs.Carryless.{◌⊕◌, clmul, reduce, remainder, digits, digits_to}
use Rattle.binary_field_theory.specs.Element.{low, product}
use Rattle.binary_field_theory.specs.Spreading.{every}
use Rattle.binary_field_theory.specs.Multisquaring.{Multisquares}
use Rattle.binary_field_theory.proofs.Linear.{combine}
use Rattle.binary_field_theory.proofs.Words.Multisquares.{powers, powers_test, sums_test, by_tests, no_digit, one_digit_more}
use Rattle.binary_field.proofs.multisquaring.multisquare.Goals as goal

multisquares : Multisquares MULTISQUARES
unfolding powers powers_test sums_test every low product clmul remainder reduce digits digits_to combine ◌⊕◌
multisquares = by_tests _ refl tt tt

pub loop-i-init : goal.loop-i-init
loop-i-init c = no_digit _

pub loop-i-preserved : goal.loop-i-preserved
loop-i-preserved c = one_digit_more _ _ multisquares c.loop-i-test.true c.loop-i.invariant
