-- The table that spreads a byte to sixteen bits (docs/SPECIFICATION.md, 1).
use mathlib.Core.{Path.◌≡◌, Bool.Bool, Bool.true, Bool.◌&&◌, List.List, List.[], List.◌∷◌}
use Rattle.std.specs.Prelude.{ℕ, zero, suc, ◌+◌, ◌*◌, ◌/◌, ◌%◌, ◌<◌}
use lib.{Dec.eqb, ListN.get_or}
use Rattle.binary_field_theory.specs.Carryless.{spread}

-- the rule of the table: bit i of a byte is bit 2i of its entry
pub record Spreads (table : List ℕ) : Type 0 where
  pub entry : (i : ℕ) → i < 256 → get_or table i 0 ≡ spread i

-- the test of a table: each entry is the value of f at its position, counted from i
unfoldable pub every : (ℕ → ℕ) → ℕ → List ℕ → Bool
every f i [] = true
every f i (x ∷ xs) = eqb x (f i) && every f (suc i) xs

-- the k lowest digits at even positions, joined: bit 2i goes to bit i
unfoldable pub evens : ℕ → ℕ → ℕ
evens zero n = 0
evens (suc k) n = 2 * evens k (n / 4) + n % 2
