-- Division in a field of characteristic 2.
-- Definitions and contracts divide by `inverse_of` alone, so that none depends on the value of `inverse` at zero.
use Rattle.std.specs.Prelude.{◌≡◌}
use Rattle.field_laws.specs.Field.{Field2}

-- the inverse of a, which is shown not to be zero
abbrev pub inverse_of : {A : Type 0} (F : Field2 A) (a : A) → ¬ (a ≡ F.ring.zero) → A
inverse_of F a shown = F.inverse a
