-- Fields of characteristic 2 with square roots, as a record of operations and laws over a carrier.
use Rattle.std.specs.Prelude.{◌≡◌}
use Rattle.field_laws.specs.Ring.{Ring2}

-- a field of characteristic 2 in which every element has a square root and equality is decidable;
-- no law is about the inverse of zero
pub record Field2 (A : Type 0) : Type 0 where
  pub ring : Ring2 A
  pub discrete : Discrete A
  pub one≢zero : ¬ (ring.one ≡ ring.zero)
  pub inverse : A → A
  pub mul_inverse : (a : A) → ¬ (a ≡ ring.zero) → ring.mul a (inverse a) ≡ ring.one
  pub root : A → A
  pub root_square : (a : A) → ring.mul (root a) (root a) ≡ a
