-- Numbers parsed from printed digits (docs/SPECIFICATION.md, 10).
use Rattle.std.specs.Prelude.{ℕ, ◌+◌, ◌-◌, ◌*◌, ◌≡◌, cond, List, [], ◌∷◌, ltb}

-- the value of a digit: 0 to 9, then a to f
unfoldable pub parse_digit : ℕ → ℕ
parse_digit b = cond (ltb b 0x61) (b - 0x30) (b - 0x57)

-- the number that digits give after the digits of n, highest first
unfoldable pub parse_from : ℕ → ℕ → List ℕ → ℕ
parse_from base n [] = n
parse_from base n (b ∷ bs) = parse_from base (n * base + parse_digit b) bs

-- the number that digits give
unfoldable pub parse_digits : ℕ → List ℕ → ℕ
parse_digits base bs = parse_from base 0 bs

-- the text is not empty and its first digit is not 0
abbrev pub Begins : List ℕ → Type 0
Begins l = (b : ℕ) × (bs : List ℕ) × (l ≡ b ∷ bs) × (b ≡ 0x30 → ⊥)
