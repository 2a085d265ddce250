-- Products of numbers that are cut by a mask fit a word.
use Prim.Native.Nat.{ℕ, ◌*◌, ◌^◌, ◌<◌}
use native.Mathlib.Nat.{lt_of_le_of_lt}
use lib.Bits.{bit_and, and_le_l, and_le_r}
use Rattle.binary_field_theory.proofs.Words.Sizes.{times_lt}

-- both are cut to 32 bits
pub both_masked : (a b m n : ℕ) → m < 2 ^ 32 → n < 2 ^ 32 → bit_and a m * bit_and b n < 2 ^ 64
both_masked a b m n hm hn = times_lt 32 32 (lt_of_le_of_lt (and_le_r a m) hm) (lt_of_le_of_lt (and_le_r b n) hn)

-- one of 58 bits is cut, and the other has six
pub one_masked : (a b m : ℕ) → a < 2 ^ 58 → b < 2 ^ 6 → bit_and a m * b < 2 ^ 64
one_masked a b m ha hb = times_lt 58 6 (lt_of_le_of_lt (and_le_l a m) ha) hb
