-- Polynomials over GF(2) as numbers: bit i is the coefficient of t^i (docs/SPECIFICATION.md, 1).
-- Their sum, their product, and the remainder modulo t^d + low.
use Rattle.std.specs.Prelude.{ℕ, zero, suc, ◌+◌, ◌*◌, ◌/◌, ◌%◌, ◌^◌}
use Rattle.std.specs.Int.Bits.{bit_xor}

infixl 62 ◌⊕◌
-- the sum: bitwise exclusive or
unfoldable pub ◌⊕◌ : ℕ → ℕ → ℕ
a ⊕ b = bit_xor a b

module _ (z : ℕ) (f : ℕ → ℕ → ℕ) where
  -- Horner's rule over the binary digits of n; the first number bounds the calls
  unfoldable pub digits_to : ℕ → ℕ → ℕ
  digits_to zero n = z
  digits_to (suc k) zero = z
  digits_to (suc k) (suc n) = f (suc n) (digits_to k (suc n / 2))

  -- Horner's rule over all binary digits of n, the highest first: z at 0, and f n (the value at n / 2) at n
  unfoldable pub digits : ℕ → ℕ
  digits n = digits_to n n

-- the product, by Horner's rule over the coefficients of a
unfoldable pub clmul : ℕ → ℕ → ℕ
clmul a b = digits 0 (λ n r. (n % 2) * b ⊕ 2 * r) a

-- the square of the polynomial n: bit i goes to bit 2i
unfoldable pub spread : ℕ → ℕ
spread n = digits 0 (λ k r. 4 * r + k % 2) n

-- one step of the division by t^d + low, for r of degree at most d
unfoldable pub reduce : ℕ → ℕ → ℕ → ℕ
reduce d low r = (r / 2 ^ d) * (2 ^ d + low) ⊕ r

-- the remainder of n modulo t^d + low: one step of the division for each coefficient of n, the highest first
unfoldable pub remainder : ℕ → ℕ → ℕ → ℕ
remainder d low n = digits 0 (λ k r. reduce d low (2 * r + k % 2)) n
