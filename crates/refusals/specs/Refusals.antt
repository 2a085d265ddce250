-- The numbers of the refusals (docs/SPECIFICATION.md, 6).
use Rattle.std.specs.Prelude.{ℕ, Result, Ok, Err}
use Rattle.refusals.specs.declared.Refusal.{Refusal}
use Rattle.refusals.specs.declared.Refusal.TheVariants.{OutputTooShort, HeadCut, WrongTag, WrongLength, BodyCut, WrongDegree, CurveCoefficient, DrawingNumber, CountTooHigh, NotAnElement, NotAClass, BytesRemain, UndoAtZero, CommitAtLimit, StampTooLarge, StampWithoutClass, ZeroHasNoInverse, MultipleTooLarge, TooManyHalvings, ReleasedTooHigh, UndoAtReleased, WrongPair, NoSuchOperation, OperationHeld}

-- the number of a refusal
abbrev pub number : Refusal → ℕ
number OutputTooShort = 101
number HeadCut = 102
number WrongTag = 103
number WrongLength = 104
number BodyCut = 105
number WrongDegree = 106
number CurveCoefficient = 107
number DrawingNumber = 108
number CountTooHigh = 109
number NotAnElement = 110
number NotAClass = 111
number BytesRemain = 112
number UndoAtZero = 113
number CommitAtLimit = 114
number StampTooLarge = 115
number StampWithoutClass = 116
number ZeroHasNoInverse = 117
number MultipleTooLarge = 118
number TooManyHalvings = 119
number ReleasedTooHigh = 120
number UndoAtReleased = 121
number WrongPair = 122
number NoSuchOperation = 123
number OperationHeld = 124

-- the number of a refused answer, and 0 of an accepted one
abbrev pub refusal_of : {T : Type 0} → Result T Refusal → ℕ
refusal_of (Ok x) = 0
refusal_of (Err r) = number r
