-- The texts that a line is made of: numbers, classes and refusals (docs/SPECIFICATION.md, 10).
use Rattle.std.specs.Prelude.{ℕ, zero, suc, ◌+◌, ◌/◌, ◌%◌, cond, List, [], ◌∷◌, ◌++◌, get_or, ltb}

-- ---- numbers

-- a digit as a byte: 0 to 9, then a to f
unfoldable pub digit : ℕ → ℕ
digit n = cond (ltb n 10) (0x30 + n) (0x57 + n)

-- a number of at most k digits in a base, without leading zeros; 0 is one digit
unfoldable pub digits : ℕ → ℕ → ℕ → List ℕ
digits base zero n = []
digits base (suc k) n = cond (ltb n base) (digit n ∷ []) (digits base k (n / base) ++ digit (n % base) ∷ [])

-- the most digits of a number of 64 bits in decimal
abbrev pub decimal_digits : ℕ
decimal_digits = 20

-- and in hexadecimal
abbrev pub hexadecimal_digits : ℕ
hexadecimal_digits = 16

-- a number in decimal
unfoldable pub decimal : ℕ → List ℕ
decimal n = digits 10 decimal_digits n

-- a number in hexadecimal
unfoldable pub hexadecimal : ℕ → List ℕ
hexadecimal n = digits 16 hexadecimal_digits n

-- ---- a class

-- the coefficients of a row of three below x^n, highest power first, with commas between
unfoldable pub row_text : ℕ → List ℕ → List ℕ
row_text zero r = []
row_text (suc zero) r = hexadecimal (get_or r 0 0)
row_text (suc (suc zero)) r = hexadecimal (get_or r 1 0) ++ 0x2C ∷ hexadecimal (get_or r 0 0)
row_text (suc (suc (suc n))) r = hexadecimal (get_or r 2 0) ++ (0x2C ∷ (hexadecimal (get_or r 1 0) ++ 0x2C ∷ hexadecimal (get_or r 0 0)))

-- degree, u and v with colons between; of u and v the coefficients below x^n, where in a class n is the degree
unfoldable pub class_text : ℕ → List ℕ → List ℕ → ℕ → List ℕ
class_text degree u v n = decimal degree ++ 0x3A ∷ row_text n u ++ 0x3A ∷ row_text n v

-- ---- a refusal

-- `refused`, a space and the number
unfoldable pub refusal_text : ℕ → List ℕ
refusal_text n = 0x72 ∷ 0x65 ∷ 0x66 ∷ 0x75 ∷ 0x73 ∷ 0x65 ∷ 0x64 ∷ 0x20 ∷ decimal n
