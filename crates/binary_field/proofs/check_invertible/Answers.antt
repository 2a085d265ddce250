-- `check_invertible` meets its contract.
use mathlib.Core.Path.{◌≡◌}
use native.Mathlib.Omega.{arith}
use borrow.Author.Tests.{lt-ltb}
use Rattle.binary_field.specs.Checks.{unless}
use Rattle.binary_field.proofs.check_invertible.Goals as goal

pub returns-in-0 : goal.returns-in-0
unfolding unless
returns-in-0 c = rw c.in-0.is

pub returns-in_default : goal.returns-in_default
unfolding unless
returns-in_default c =
    let other : ¬ (c.args.a ≡ 0) = grind arith in
    rw (lt-ltb 0 c.args.a (omega (arith, other)))
