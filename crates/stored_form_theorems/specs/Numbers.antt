-- Lists of numbers: those of refusals, and the lengths of what is written (docs/SPECIFICATION.md, 6).
use Rattle.std.specs.Prelude.{ℕ}
use mathlib.Core.{Path.◌≡◌, Bool.true, List.List, List.[], List.◌∷◌, Logic.◌⊎◌}
use Rattle.jacobian.specs.Refusals.{listed}

-- n is one of these numbers
abbrev pub OneOf : List ℕ → ℕ → Type 0
OneOf ns n = listed n ns ≡ true

-- n is 0, or one of these numbers
abbrev pub ZeroOrOneOf : List ℕ → ℕ → Type 0
ZeroOrOneOf ns n = (n ≡ 0) ⊎ OneOf ns n

-- the numbers with which a record of one class or of two is refused
abbrev pub class_numbers : List ℕ
class_numbers = 102 ∷ 103 ∷ 104 ∷ 105 ∷ 106 ∷ 107 ∷ 110 ∷ 111 ∷ 112 ∷ []

-- the lengths of a class's field, degree by degree
abbrev pub class_field_lengths : List ℕ
class_field_lengths = 3 ∷ 19 ∷ 35 ∷ 51 ∷ []

-- the lengths of a count's field, a released step's field and a class's field together
abbrev pub register_field_lengths : List ℕ
register_field_lengths = 13 ∷ 29 ∷ 45 ∷ 61 ∷ []
