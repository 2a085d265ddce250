-- Commutative rings of characteristic 2, as a record of operations and laws over a carrier.
use Rattle.std.specs.Prelude.{◌≡◌}

-- a commutative ring of characteristic 2; there is no negation, since every element is its own opposite
pub record Ring2 (A : Type 0) : Type 0 where
  pub add : A → A → A
  pub mul : A → A → A
  pub zero : A
  pub one : A
  pub is_set : IsSet A
  pub add_comm : (a b : A) → add a b ≡ add b a
  pub add_assoc : (a b c : A) → add (add a b) c ≡ add a (add b c)
  pub add_zero : (a : A) → add a zero ≡ a
  pub add_self : (a : A) → add a a ≡ zero
  pub mul_comm : (a b : A) → mul a b ≡ mul b a
  pub mul_assoc : (a b c : A) → mul (mul a b) c ≡ mul a (mul b c)
  pub mul_one : (a : A) → mul a one ≡ a
  pub mul_add : (a b c : A) → mul a (add b c) ≡ add (mul a b) (mul a c)
