-- The polynomials in one variable x over a field K of characteristic 2, as operations and laws over a carrier P.
-- The laws determine P up to isomorphism.
use Rattle.std.specs.Prelude.{ℕ, suc, ◌≤◌, ◌<◌, ◌≡◌}
use Rattle.field_laws.specs.{Ring.Ring2, Field.Field2}

-- a polynomial is determined by its coefficients (`ext`), of which finitely many are not zero (`len`);
-- `len p` is the degree plus one, and 0 for the polynomial 0;
-- `quot` and `rem` are total, and their laws are for a divisor other than 0
pub record Polynomials {K : Type 0} (F : Field2 K) (P : Type 0) : Type 0 where
  pub ring : Ring2 P
  pub coeff : P → ℕ → K
  pub ext : (p q : P) → ((i : ℕ) → coeff p i ≡ coeff q i) → p ≡ q
  pub coeff_add : (p q : P) (i : ℕ) → coeff (ring.add p q) i ≡ F.ring.add (coeff p i) (coeff q i)
  pub con : K → P
  pub coeff_con : (a : K) → coeff (con a) 0 ≡ a
  pub coeff_con_suc : (a : K) (i : ℕ) → coeff (con a) (suc i) ≡ F.ring.zero
  pub coeff_con_mul : (a : K) (p : P) (i : ℕ) → coeff (ring.mul (con a) p) i ≡ F.ring.mul a (coeff p i)
  pub one_con : ring.one ≡ con F.ring.one
  pub x : P
  pub coeff_x_mul : (p : P) → coeff (ring.mul x p) 0 ≡ F.ring.zero
  pub coeff_x_mul_suc : (p : P) (i : ℕ) → coeff (ring.mul x p) (suc i) ≡ coeff p i
  pub len : P → ℕ
  pub len_past : (p : P) (i : ℕ) → len p ≤ i → coeff p i ≡ F.ring.zero
  pub len_top : (p : P) (i : ℕ) → len p ≡ suc i → ¬ (coeff p i ≡ F.ring.zero)
  pub quot : P → P → P
  pub rem : P → P → P
  pub division : (a b : P) → ¬ (b ≡ ring.zero) → a ≡ ring.add (ring.mul (quot a b) b) (rem a b)
  pub rem_len : (a b : P) → ¬ (b ≡ ring.zero) → len (rem a b) < len b
