-- Divisibility in a commutative ring of characteristic 2.
use Rattle.std.specs.Prelude.{◌≡◌}
use Rattle.field_laws.specs.Ring.{Ring2}

module _ {A : Type 0} (R : Ring2 A) where
  -- b divides a: a is a multiple of b; a proof is the cofactor with its equation
  abbrev pub Divides : A → A → Type 0
  Divides b a = (q : A) × (a ≡ R.mul q b)
