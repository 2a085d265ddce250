-- Curves y² + y = f(x).
use Rattle.std.specs.Prelude.{◌≡◌}
use Rattle.field_laws.specs.Field.{Field2}
use Rattle.char2_algebra.specs.Polynomials.{Polynomials}
use Rattle.char2_algebra.specs.Lead.{Monic}

-- a curve: any monic f of degree 7; document 01's f = x^7 + f3 x^3 + f1 x + f0 is a case
pub record Curve {K P : Type 0} {F : Field2 K} (A : Polynomials F P) : Type 0 where
  pub f : P
  pub f_len : A.len f ≡ 8
  pub f_monic : Monic A f
