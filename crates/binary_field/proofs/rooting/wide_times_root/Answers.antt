-- `wide_times_root` meets its contract.
use native.Mathlib.Omega.{arith}
use lib.Dec.{lit<}
use Rattle.binary_field_theory.specs.Carryless.{◌⊕◌}
use Rattle.binary_field_theory.proofs.Words.{RunOfPowers.up, RunOfPowers.doubled, RunOfPowers.run, RunOfPowers.rest, RunOfPowers.low_word, RunOfPowers.wide_words, Sizes.clmul_lt}
use Rattle.binary_field.proofs.rooting.wide_times_root.Goals as goal

pub returns : goal.returns
unfolding low_word rest run doubled up ◌⊕◌
returns c = (wide_words c.args.n c.requires).1

pub invariant_of-result : goal.invariant_of-result
unfolding low_word rest run doubled up ◌⊕◌
invariant_of-result c =
    let (low, value) = wide_words c.args.n c.requires in
    (low, omega (arith, value, clmul_lt 30 62 _ 0x7fff_ffff_8000_0072 c.requires (lit< tt)))
