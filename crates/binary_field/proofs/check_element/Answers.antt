-- `check_element` meets its contract.
use borrow.Author.Tests.{lt-ltb, le-ltb}
use Rattle.binary_field.specs.{Checks.unless, Answer.below}
use Rattle.binary_field.proofs.check_element.Goals as goal

pub returns-then-a-bound : goal.returns-then-a-bound
unfolding below unless
returns-then-a-bound c = rw (lt-ltb _ _ (rw c.bound.ensures at c.if-a-bound.true))

pub returns-else-a-bound : goal.returns-else-a-bound
unfolding below unless
returns-else-a-bound c = rw (le-ltb _ _ (rw c.bound.ensures at c.if-a-bound.false))
