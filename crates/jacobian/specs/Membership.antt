-- The polynomial of a curve and those of a class by value, coefficient by coefficient (docs/SPECIFICATION.md, 2 and 3).
use Rattle.std.specs.Prelude.{ℕ, ◌≤◌, ◌<◌, ◌≡◌, get_or}
use Rattle.class_group.specs.Mumford.{Pair, Reduced}
use Rattle.row_theory.specs.Field.{F, Poly, 𝔸}
use Rattle.jacobian.specs.{Curves.curve, Checking.Padded, declared.Curve.Curve, declared.Class.Class}

-- f is x^7 + f3 x^3 + f1 x + f0
pub record PolynomialOf (c : Curve) (f : Poly c.degree) : Type 0 where
  pub at_7 : (𝔸 c.degree).coeff f 7 ≡ (F c.degree).ring.one
  pub at_3 : ((𝔸 c.degree).coeff f 3).0 ≡ c.f3
  pub at_1 : ((𝔸 c.degree).coeff f 1).0 ≡ c.f1
  pub at_0 : ((𝔸 c.degree).coeff f 0).0 ≡ c.f0
  pub elsewhere : (i : ℕ) → ¬ (i ≡ 7) → ¬ (i ≡ 3) → ¬ (i ≡ 1) → ¬ (i ≡ 0) → (𝔸 c.degree).coeff f i ≡ (F c.degree).ring.zero

-- a stands for [u, v]: u is monic of a's degree with the numbers of a's row below it, v has those of the other row,
-- and both rows are three numbers that are 0 from the degree on
pub record StandsFor (d : ℕ) (a : Class) (D : Pair (Poly d)) : Type 0 where
  pub u_below : (i : ℕ) → i < a.degree → ((𝔸 d).coeff D.u i).0 ≡ get_or a.u i 0
  pub u_top : (𝔸 d).coeff D.u a.degree ≡ (F d).ring.one
  pub u_above : (i : ℕ) → a.degree < i → (𝔸 d).coeff D.u i ≡ (F d).ring.zero
  pub v_below : (i : ℕ) → i < a.degree → ((𝔸 d).coeff D.v i).0 ≡ get_or a.v i 0
  pub v_above : (i : ℕ) → a.degree ≤ i → (𝔸 d).coeff D.v i ≡ (F d).ring.zero
  pub u_padded : Padded a.degree a.u
  pub v_padded : Padded a.degree a.v

-- a stands for a reduced class of the curve: u is monic of degree at most 3, v of smaller degree, and u divides
-- v² + v + f
abbrev pub ClassOn : Curve → Class → Type 0
ClassOn c a = (D : Pair (Poly c.degree)) × StandsFor c.degree a D × Reduced (curve c) D
