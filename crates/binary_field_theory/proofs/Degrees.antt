-- The two degrees.
-- `digits_61`: an element of either degree has at most 61 digits.
use Prim.Native.Nat.{ℕ, ◌^◌, ◌<◌}
use native.Mathlib.Omega.{arith}
use Rattle.binary_field_theory.specs.Element.{Accepted}
use Rattle.binary_field_theory.proofs.Products.{degree_cases}

pub digits_61 : (a d : ℕ) → Accepted d → a < 2 ^ d → a < 2 ^ 61
digits_61 a = degree_cases (λ (d : ℕ). a < 2 ^ d → a < 2 ^ 61) (λ h. omega arith) (λ h. h)
