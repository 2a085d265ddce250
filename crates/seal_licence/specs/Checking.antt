-- What the checks of the two calls by value require, in checking order, and the numbers with which each can refuse
-- (docs/SPECIFICATION.md, 3 and 6).
use Rattle.std.specs.Prelude.{ℕ, ◌^◌, ◌≤◌, ◌<◌}
use mathlib.Core.{Path.◌≡◌, List.List, List.[], List.◌∷◌, List.◌++◌}
use Rattle.jacobian.specs.{Checks.Check, Checks.check, Checks.AllHold, Checks.FirstFails, Checking.checks_of_one, Answer.Result, Answer.gives, declared.Curve.Curve, declared.Class.Class}
use Rattle.seal_licence.specs.Multiples.{refuses}

-- the checks of n times a class: those of the curve and the class, then that n is below 2^61
abbrev pub multiple_checks : Curve → Class → ℕ → List Check
multiple_checks c a n = checks_of_one c a ++ check 118 (n < 2 ^ 61) ∷ []

-- the checks of k halvings of a class: those of the curve and the class, then that k is at most 64
abbrev pub halvings_checks : Curve → Class → ℕ → List Check
halvings_checks c a k = checks_of_one c a ++ check 119 (k ≤ 64) ∷ []

-- an answer by checks: this class if all hold, else the refusal of the first that fails, with the neutral class
pub data ResultOf (cs : List Check) (a : Class) (r : Result) : Type 0 where
  all_hold : AllHold cs → r ≡ gives a → ResultOf cs a r
  first_fails : (n : ℕ) → FirstFails cs n → r ≡ refuses n → ResultOf cs a r

-- the numbers with which n times a class can refuse, in checking order
unfoldable pub multiple_numbers : List ℕ
multiple_numbers = 106 ∷ 107 ∷ 104 ∷ 110 ∷ 111 ∷ 118 ∷ []

-- the numbers with which k halvings of a class can refuse, in checking order
unfoldable pub halvings_numbers : List ℕ
halvings_numbers = 106 ∷ 107 ∷ 104 ∷ 110 ∷ 111 ∷ 119 ∷ []
