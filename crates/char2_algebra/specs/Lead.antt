-- The leading coefficient, monic polynomials, and a polynomial made monic (docs/SPECIFICATION.md, 2).
use Rattle.std.specs.Prelude.{◌-◌, ◌≡◌}
use Rattle.field_laws.specs.{Field.Field2, Division.inverse_of}
use Rattle.char2_algebra.specs.Polynomials.{Polynomials}

module _ {K P : Type 0} {F : Field2 K} (A : Polynomials F P) where
  -- the coefficient of the highest power; zero for the polynomial 0
  unfoldable pub lead : P → K
  lead p = A.coeff p (A.len p - 1)

  -- the leading coefficient is one; the polynomial 0 is not monic
  abbrev pub Monic : P → Type 0
  Monic p = lead p ≡ F.ring.one

  -- p divided by its leading coefficient; the polynomial 0 stays 0
  unfoldable pub monic_of : P → P
  monic_of p = elim (F.discrete (lead p) F.ring.zero) [ yes _ ↦ p | no shown ↦ A.ring.mul (A.con (inverse_of F (lead p) shown)) p ]
