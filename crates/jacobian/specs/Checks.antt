-- The checks of a call (docs/SPECIFICATION.md, 6): they are made in order, and the first that fails gives the refusal.
-- `unless`, `◌or_else◌` and lists of checks are those of the calls on elements.
use Rattle.std.specs.Prelude.{ℕ, eqb}
use mathlib.Core.{Bool.Bool, Bool.true, Bool.◌&&◌, List.List, List.[], List.◌∷◌}
unfoldable pub use Rattle.binary_field.specs.Checks.{unless, ◌or_else◌}
pub use Rattle.binary_field.specs.Checks.{Check, check, AllHold, FirstFails, RefusalOf, all_hold, first_fails}

-- every number is 0
unfoldable pub blank : List ℕ → Bool
blank [] = true
blank (n ∷ ns) = eqb n 0 && blank ns
