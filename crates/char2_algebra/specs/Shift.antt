-- A polynomial with x replaced by x + c.
use Rattle.std.specs.Prelude.{ℕ, zero, suc}
use Rattle.field_laws.specs.Field.{Field2}
use Rattle.char2_algebra.specs.Polynomials.{Polynomials}
use Rattle.char2_algebra.specs.Square.{tail}

module _ {K P : Type 0} {F : Field2 K} (A : Polynomials F P) where
  open A use {ring, coeff, len, con, x}

  -- the first n terms of p₀ + (x + c) (p₁ + (x + c) (p₂ + ..))
  unfoldable pub shift_to : K → ℕ → P → P
  shift_to c zero p = ring.zero
  shift_to c (suc n) p = ring.add (con (coeff p 0)) (ring.mul (ring.add x (con c)) (shift_to c n (tail A p)))

  -- p(x + c); as many terms as p has coefficients are enough
  unfoldable pub shift : K → P → P
  shift c p = shift_to c (len p) p
