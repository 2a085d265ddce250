-- Promises of the private functions on numbers, and powers of x.
use Rattle.std.specs.Prelude.{ℕ, zero, suc, ◌<◌, ◌^◌, ◌≡◌}
use Rattle.row_theory.specs.Field.{degree_of, K, F, Poly, 𝔸, el}

-- the number n is in range and stands for the element e
pub record Is (d : ℕ) (n : ℕ) (e : K d) : Type 0 where
  pub in_range : n < 2 ^ degree_of d
  pub stands : el d n ≡ e

-- the number n is in range and stands for the inverse of e: their product is 1
pub record Inverts (d : ℕ) (n : ℕ) (e : K d) : Type 0 where
  pub in_range : n < 2 ^ degree_of d
  pub unit : (F d).ring.mul e (el d n) ≡ (F d).ring.one

-- x to the power n
unfoldable pub x_power : (d : ℕ) → ℕ → Poly d
x_power d zero = (𝔸 d).ring.one
x_power d (suc n) = (𝔸 d).ring.mul (𝔸 d).x (x_power d n)
