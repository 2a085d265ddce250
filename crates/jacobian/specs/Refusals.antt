-- The numbers of the refusals (docs/SPECIFICATION.md, 6).
use Rattle.std.specs.Prelude.{ℕ}
use mathlib.Core.{Path.◌≡◌, Bool.true, List.List, List.[], List.◌∷◌, Logic.◌⊎◌}
unfoldable pub use Rattle.binary_field.specs.Checks.{listed}

-- one number for each check of curves, classes, stamps, multiples, registers, stored form, byte areas and archives;
-- 117 is not among them, since only calls on elements refuse with it (`element_refusals` of binary_field)
unfoldable pub refusals : List ℕ
refusals = 101 ∷ 102 ∷ 103 ∷ 104 ∷ 105 ∷ 106 ∷ 107 ∷ 108 ∷ 109 ∷ 110 ∷ 111 ∷ 112 ∷ 113 ∷ 114 ∷ 115 ∷ 116 ∷ 118 ∷ 119 ∷ 120 ∷ 121 ∷ 122 ∷ 123 ∷ 124 ∷ []

-- n is the number of a refusal
unfoldable pub IsRefusal : ℕ → Type 0
IsRefusal n = listed n refusals ≡ true

-- a valid refusal: 0, or the number of a refusal
unfoldable pub ValidRefusal : ℕ → Type 0
ValidRefusal n = (n ≡ 0) ⊎ IsRefusal n
