-- The digits of the quotient are appended, then the digit of the remainder.
use Rattle.std.proofs.Common.{arith}
use Rattle.std.proofs.lemmas.Grind.{common_steps}
use Rattle.text.proofs.{Appending.none, Appending.both, Digits.digits_none, Digits.digits_one, Digits.digits_more}
use Rattle.text.proofs.Line.+push_digits.Goals as goal
use Rattle.text.proofs.Line.+push_digits.Goals.{then-base-n, else-base-n}

pub returns-then-most-eq0 : goal.returns-then-most-eq0
returns-then-most-eq0 t c = grind (arith, none, digits_none)

pub returns : goal.returns
returns t c =
    elim c.if-base-n.branch [
      | then-base-n w ↦ grind (arith, common_steps, both, digits_more)
      | else-base-n w ↦ grind (arith, common_steps, digits_one)
    ]
