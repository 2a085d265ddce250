-- Elements of degree d: numbers below 2^d, polynomials over GF(2) modulo t^61 + t^5 + t^2 + t + 1 for d = 61
-- and modulo t^5 + t^2 + 1 for d = 5 (docs/SPECIFICATION.md, 1).
use Rattle.std.specs.Prelude.{ℕ, zero, suc, ◌+◌, ◌-◌, ◌%◌, ◌^◌, ◌<◌, T, eqb}
use mathlib.Core.{Path.◌≡◌, Bool.Bool, Bool.cond, Bool.◌||◌}
use Rattle.binary_field_theory.specs.Carryless.{clmul, remainder, digits}

-- whether d is 5 or 61
abbrev pub is_degree : ℕ → Bool
is_degree d = eqb d 5 || eqb d 61

-- d is one of the two degrees
abbrev pub Accepted : ℕ → Type 0
Accepted d = T (is_degree d)

-- the modulus below its leading term: t^2 + 1 for 5 (binary 101), and t^5 + t^2 + t + 1 for 61 (binary 100111)
unfoldable pub low : ℕ → ℕ
low d = cond (eqb d 61) 39 5

-- the modulus of degree d
unfoldable pub modulus : ℕ → ℕ
modulus d = 2 ^ d + low d

-- the elements of degree d: numbers below 2^d
abbrev pub Element : ℕ → Type 0
Element d = (n : ℕ) × (n < 2 ^ d)

-- the product: that of the polynomials, reduced by the modulus
unfoldable pub product : ℕ → ℕ → ℕ → ℕ
product d a b = remainder d (low d) (clmul a b)

-- the square
unfoldable pub square : ℕ → ℕ → ℕ
square d a = product d a a

-- a squared k times: a to the power 2^k
unfoldable pub squarings : ℕ → ℕ → ℕ → ℕ
squarings d zero a = a
squarings d (suc k) a = square d (squarings d k a)

-- a to the power n, by Horner's rule over the digits of n: square, and times a where the digit is 1
unfoldable pub power : ℕ → ℕ → ℕ → ℕ
power d a n = digits 1 (λ k r. product d (cond (eqb (k % 2) 1) a 1) (square d r)) n

-- the square root: a to the power 2^(d-1)
unfoldable pub root : ℕ → ℕ → ℕ
root d a = squarings d (d - 1) a

-- r is an element whose square is a, and the only one
pub record OneRoot (d a r : ℕ) : Type 0 where
  pub below : r < 2 ^ d
  pub squares : square d r ≡ a
  pub only : (b : ℕ) → b < 2 ^ d → square d b ≡ a → b ≡ r

-- the inverse of an element that is shown not to be 0: its power 2^d - 2
abbrev pub inverse : (d a : ℕ) → ¬ (a ≡ 0) → ℕ
inverse d a shown = power d a (2 ^ d - 2)

-- b is an element whose product with a is 1, and the only one
pub record OneInverse (d a b : ℕ) : Type 0 where
  pub below : b < 2 ^ d
  pub inverts : product d a b ≡ 1
  pub only : (c : ℕ) → c < 2 ^ d → product d a c ≡ 1 → c ≡ b
