-- A refusal is determined by its number (`number_determines`), so that a contract that says the number of a refused
-- answer says the answer.
use Rattle.std.specs.Prelude.{ℕ, zero, suc, ◌-◌, List, [], ◌∷◌}
use mathlib.Core.{Path.◌≡◌, Path.refl}
use Rattle.std.proofs.Common.{ap, ◌∙◌}
use mathlib.Core.Path.{sym}
use Rattle.refusals.specs.Refusals.{number}
use Rattle.refusals.specs.declared.Refusal.{Refusal}
use Rattle.refusals.specs.declared.Refusal.TheVariants.{OutputTooShort, HeadCut, WrongTag, WrongLength, BodyCut, WrongDegree, CurveCoefficient, DrawingNumber, CountTooHigh, NotAnElement, NotAClass, BytesRemain, UndoAtZero, CommitAtLimit, StampTooLarge, StampWithoutClass, ZeroHasNoInverse, MultipleTooLarge, TooManyHalvings, ReleasedTooHigh, UndoAtReleased, WrongPair, NoSuchOperation, OperationHeld}

-- the refusal at a place of a list
at : List Refusal → ℕ → Refusal
at [] n = OutputTooShort
at (r ∷ rs) zero = r
at (r ∷ rs) (suc n) = at rs n

-- all refusals, by number from 101 on
all : List Refusal
all = OutputTooShort ∷ HeadCut ∷ WrongTag ∷ WrongLength ∷ BodyCut ∷ WrongDegree ∷ CurveCoefficient ∷ DrawingNumber ∷ CountTooHigh ∷ NotAnElement ∷ NotAClass ∷ BytesRemain ∷ UndoAtZero ∷ CommitAtLimit ∷ StampTooLarge ∷ StampWithoutClass ∷ ZeroHasNoInverse ∷ MultipleTooLarge ∷ TooManyHalvings ∷ ReleasedTooHigh ∷ UndoAtReleased ∷ WrongPair ∷ NoSuchOperation ∷ OperationHeld ∷ []

-- each stands at its place
at_number : (r : Refusal) → at all (number r - 101) ≡ r
unfolding at all
at_number OutputTooShort = refl
at_number HeadCut = refl
at_number WrongTag = refl
at_number WrongLength = refl
at_number BodyCut = refl
at_number WrongDegree = refl
at_number CurveCoefficient = refl
at_number DrawingNumber = refl
at_number CountTooHigh = refl
at_number NotAnElement = refl
at_number NotAClass = refl
at_number BytesRemain = refl
at_number UndoAtZero = refl
at_number CommitAtLimit = refl
at_number StampTooLarge = refl
at_number StampWithoutClass = refl
at_number ZeroHasNoInverse = refl
at_number MultipleTooLarge = refl
at_number TooManyHalvings = refl
at_number ReleasedTooHigh = refl
at_number UndoAtReleased = refl
at_number WrongPair = refl
at_number NoSuchOperation = refl
at_number OperationHeld = refl

-- two refusals with one number are one
pub number_determines : (r s : Refusal) → number r ≡ number s → r ≡ s
number_determines r s e = sym (at_number r) ∙ (ap (λ n. at all (n - 101)) e ∙ at_number s)
