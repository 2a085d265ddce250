-- The square root of a polynomial without odd powers: its coefficients are the roots of the even coefficients.
use Rattle.std.specs.Prelude.{ℕ, zero, suc}
use Rattle.field_laws.specs.Field.{Field2}
use Rattle.char2_algebra.specs.Polynomials.{Polynomials}

module _ {K P : Type 0} {F : Field2 K} (A : Polynomials F P) where
  open A use {ring, coeff, len, con, x, quot}

  -- p without its constant term, divided by x
  unfoldable pub tail : P → P
  tail p = quot p x

  -- the first n terms of √p₀ + x (√p₂ + x (√p₄ + ..))
  unfoldable pub sqrt_to : ℕ → P → P
  sqrt_to zero p = ring.zero
  sqrt_to (suc n) p = ring.add (con (F.root (coeff p 0))) (ring.mul x (sqrt_to n (tail (tail p))))

  -- the square root of p, if p has no odd powers; as many terms as p has coefficients are enough
  unfoldable pub sqrt : P → P
  sqrt p = sqrt_to (len p) p
