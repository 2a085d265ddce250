-- Answers that are a class or a refusal with one of these numbers (docs/SPECIFICATION.md, 6).
use Rattle.std.specs.Prelude.{ℕ}
use mathlib.Core.{Path.◌≡◌, Bool.true, List.List}
use Rattle.jacobian.specs.{Refusals.listed, Answer.Result, Answer.gives, declared.Class.Class}
use Rattle.seal_licence.specs.Multiples.{refuses}

-- an acceptance with its class, or a refusal with a number of the list and the neutral class
pub data ValidResult (numbers : List ℕ) : Result → Type 0 where
  acceptance : (a : Class) → ValidResult numbers (gives a)
  refusal : (n : ℕ) → listed n numbers ≡ true → ValidResult numbers (refuses n)
