-- The table that squares an element of GF(2^61) six times at once, by its hexadecimal digits.
use mathlib.Core.{Path.◌≡◌, List.List}
use Rattle.std.specs.Prelude.{ℕ, ◌*◌, ◌/◌, ◌%◌, ◌^◌, ◌<◌, get_or}
use Rattle.binary_field_theory.specs.Element.{squarings}

-- the rule of the table: entry 16 i + j is the digit j at position i, squared six times
pub record Multisquares (table : List ℕ) : Type 0 where
  pub entry : (n : ℕ) → n < 256 → get_or table n 0 ≡ squarings 61 6 (n % 16 * 2 ^ (4 * (n / 16)))
