-- `try_from` meets its contract.
use mathlib.Core.Path.{◌≡◌}
use native.Mathlib.Omega.{arith}
use Rattle.std.proofs.Common.{rules}
use borrow.Author.Tests.{ne_eqb}
use Rattle.binary_field.specs.{Checks.unless, Answer.degree_refusal}
use Rattle.binary_field.proofs.degree.DegreeTryFromU8.try_from.Goals as goal

pub returns-in-5 : goal.returns-in-5
unfolding degree_refusal unless
returns-in-5 c = rw c.in-5.is (search rules)

pub returns-in-61 : goal.returns-in-61
unfolding degree_refusal unless
returns-in-61 c = rw c.in-61.is (search rules)

pub returns-in_default : goal.returns-in_default
unfolding degree_refusal unless
returns-in_default c =
    let five : ¬ (c.args.d ≡ 5) = grind arith in
    let other : ¬ (c.args.d ≡ 61) = grind arith in
    (simp (ne_eqb _ _ five, ne_eqb _ _ other), tt)
