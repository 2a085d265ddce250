-- What the checks of a call on elements require, in checking order (docs/SPECIFICATION.md, 1 and 6).
use Rattle.std.specs.Prelude.{ℕ, ◌<◌, ◌^◌}
use mathlib.Core.{Path.◌≡◌, List.List, List.[], List.◌∷◌, List.◌++◌, Logic.◌⊎◌}
use Rattle.lists.specs.Lists.{All}
use Rattle.binary_field.specs.Checks.{Check, check}

-- every number of a list is below m
abbrev pub Below : ℕ → List ℕ → Type 0
Below m ns = All (λ n. n < m) ns

-- the check of a degree: it is 5 or 61
abbrev pub degree_check : ℕ → Check
degree_check d = check 106 ((d ≡ 5) ⊎ (d ≡ 61))

-- the checks of a call on elements: the degree, then that every number is below 2^d
abbrev pub element_checks : ℕ → List ℕ → List Check
element_checks d ns = degree_check d ∷ check 110 (Below (2 ^ d) ns) ∷ []

-- the checks of an inverse: those of a call on an element, then that it is not 0
abbrev pub inverse_checks : ℕ → ℕ → List Check
inverse_checks d a = element_checks d (a ∷ []) ++ check 117 (¬ (a ≡ 0)) ∷ []
