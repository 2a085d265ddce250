-- `fold_5` meets its contract.
use native.Mathlib.{Omega.arith, Nat.lt_of_lt_of_le}
use lib.Dec.{lit<, lit≤}
use Rattle.binary_field_theory.specs.{Carryless.◌⊕◌, Element.low}
use Rattle.binary_field_theory.proofs.Words.Folding.{left_5, fold_5}
use Rattle.binary_field.proofs.carryless.fold_5.Goals as goal

pub multiples-first-requires : goal.multiples-first-requires
multiples-first-requires c = (omega (arith, c.requires), lit< tt)

pub multiples-second-requires : goal.multiples-second-requires
multiples-second-requires c = (lt_of_lt_of_le (left_5 _ _ c.requires c.multiples-first.ensures) (lit≤ tt), lit< tt)

pub returns : goal.returns
unfolding ◌⊕◌ low
returns c =
    fold_5 c.args.n _ c.requires c.multiples-first.ensures c.multiples-second.ensures
