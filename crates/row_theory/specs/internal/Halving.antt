-- What the private functions of the halving rule require of their rows, and the polynomials of their promises.
-- No contract of an open function cites these: `half` promises the half of class_group.
use Rattle.std.specs.Prelude.{ℕ, ◌+◌, ◌<◌}
use mathlib.Core.{Path.◌≡◌, List.List}
use Rattle.field_laws.specs.{Field.Field2}
use Rattle.char2_algebra.specs.{Polynomials.Polynomials, Lead.Monic, Square.sqrt}
use Rattle.class_group.specs.{Mumford.Pair, Half.Triple, Half.quadratic}
use Rattle.row_theory.specs.{Field.Poly, Field.𝔸, Field.poly, Row.InRange, Row.row_len}

module _ {K P : Type 0} {F : Field2 K} (A : Polynomials F P) where
  open A use {ring, coeff, con, x, rem}
  open ring use {add as ◌⊞◌, mul as ◌·◌}

  infixl 60 ◌⊞◌
  infixl 70 ◌·◌
  -- the polynomial m2 x⁴ + m1 x² + m0
  unfoldable pub even_quartic : K → K → K → P
  even_quartic m2 m1 m0 = con m0 ⊞ x · (x · (con m1 ⊞ x · (x · con m2)))

  -- the pair [√p, v modulo √p]
  unfoldable pub root_pair : P → P → Pair P
  root_pair p v = let a = sqrt A p in record { u = a; v = rem v a }

  -- in degree 3, the square after the second lift: t² u + t x + t q + (x² + g) s, where t² is the coefficient of x in s
  unfoldable pub second_square : P → P → K → K → K → P
  second_square u s t q g =
      con (coeff s 1) · u ⊞ quadratic A F.ring.zero t (F.ring.mul t q) ⊞ even_quartic F.ring.zero F.ring.one g · s

  -- in degree 3, the second polynomial of the half: v + r (u + a) + i z, where z is (x + q) s modulo a
  unfoldable pub second_remainder : P → P → P → P → K → K → K → P
  second_remainder u v s a r i q =
      v ⊞ con r · (u ⊞ a) ⊞ con i · rem (quadratic A F.ring.zero F.ring.one q · rem s a) a

-- the triple that three rows stand for
unfoldable pub rows_triple : (d : ℕ) → List ℕ → List ℕ → List ℕ → Triple (Poly d)
rows_triple d u v w = record { u = poly d u; v = poly d v; w = poly d w }

-- rows u, v and w = (v² + v + f) / u of a reduced class whose u has length n
pub record HalvingRows (d n : ℕ) (u v w : List ℕ) : Type 0 where
  pub u_range : InRange d u
  pub v_range : InRange d v
  pub w_range : InRange d w
  pub u_monic : Monic (𝔸 d) (poly d u)
  pub w_monic : Monic (𝔸 d) (poly d w)
  pub u_len : row_len d u ≡ n
  pub v_len : row_len d v < n
  pub w_len : row_len d w + n ≡ 9
