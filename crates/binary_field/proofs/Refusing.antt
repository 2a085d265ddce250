-- Refusals in checking order: a check that refuses decides, and one that does not leaves it to the next.
use Rattle.std.specs.Prelude.{ℕ}
use mathlib.Core.{Path.◌≡◌}
use Rattle.std.proofs.Common.{◌∙◌, ap}
use Rattle.refusals.specs.Refusals.{number}
use Rattle.refusals.specs.declared.Refusal.{Refusal}
use Rattle.refusals.specs.declared.Refusal.TheVariants.{OutputTooShort, HeadCut, WrongTag, WrongLength, BodyCut, WrongDegree, CurveCoefficient, DrawingNumber, CountTooHigh, NotAnElement, NotAClass, BytesRemain, UndoAtZero, CommitAtLimit, StampTooLarge, StampWithoutClass, ZeroHasNoInverse, MultipleTooLarge, TooManyHalvings, ReleasedTooHigh, UndoAtReleased, WrongPair, NoSuchOperation, OperationHeld}
use native.Mathlib.Omega.{arith}
use Rattle.binary_field.specs.Checks.{◌or_else◌}
use Rattle.binary_field.proofs.Checks.{first_due}

-- the number of a refusal is not 0
pub number_positive : (r : Refusal) → ¬ (number r ≡ 0)
number_positive OutputTooShort e = omega arith
number_positive HeadCut e = omega arith
number_positive WrongTag e = omega arith
number_positive WrongLength e = omega arith
number_positive BodyCut e = omega arith
number_positive WrongDegree e = omega arith
number_positive CurveCoefficient e = omega arith
number_positive DrawingNumber e = omega arith
number_positive CountTooHigh e = omega arith
number_positive NotAnElement e = omega arith
number_positive NotAClass e = omega arith
number_positive BytesRemain e = omega arith
number_positive UndoAtZero e = omega arith
number_positive CommitAtLimit e = omega arith
number_positive StampTooLarge e = omega arith
number_positive StampWithoutClass e = omega arith
number_positive ZeroHasNoInverse e = omega arith
number_positive MultipleTooLarge e = omega arith
number_positive TooManyHalvings e = omega arith
number_positive ReleasedTooHigh e = omega arith
number_positive UndoAtReleased e = omega arith
number_positive WrongPair e = omega arith
number_positive NoSuchOperation e = omega arith
number_positive OperationHeld e = omega arith

-- where the first check refuses, that is the refusal of both
pub stops_first : (r : Refusal) {a : ℕ} (b : ℕ) → number r ≡ a → number r ≡ (a or_else b)
stops_first r b e = first_due b e (number_positive r)

-- where it does not, the second decides
pub goes_on : {n a b : ℕ} → 0 ≡ a → n ≡ b → n ≡ (a or_else b)
unfolding ◌or_else◌
goes_on {n = n} {a = a} {b = b} e f = f ∙ ap (λ m. m or_else b) e
