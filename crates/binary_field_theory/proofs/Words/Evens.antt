-- The digits at even positions.
-- `gathered_evens`: the code joins them in runs that double in length.
-- `evens_parts`: a number is the sum of its digits at even positions, spread, and of those at odd positions, spread and
-- shifted up by one.
-- `evens_le`, `evens_lt`: the joined digits are at most the number, and have half as many bits.
-- The first two are equations of additive maps, which are compared at each power of t.
use mathlib.Core.Path.{◌≡◌, refl, sym}
use Prim.Native.Nat.{ℕ, zero, suc, ◌+◌, ◌*◌, ◌/◌, ◌^◌, ◌<◌, ◌≤◌}
use native.Mathlib.Omega.{arith}
use lib.{Bits.bit_and, Pow.pow_pos}
use Rattle.binary_field_theory.specs.{Carryless.◌⊕◌, Carryless.spread, Carryless.digits, Carryless.digits_to, Spreading.evens}
use Rattle.binary_field_theory.proofs.Sums.{bit_lt, sum_half, sum_odd, sum_shr, sum_double, sum_middle, sum_self, double_plus_sum, and_sum}
use Rattle.binary_field_theory.proofs.{Linear.Additive, Linear.basis, Linear.same, Linear.same_at, Spread.spread_sum}

-- ---- the operations are additive
-- runs of s digits, each followed by s zeros, are joined in pairs
unfoldable pub gather : ℕ → ℕ → ℕ → ℕ
gather s m n = bit_and (n ⊕ (n / 2 ^ s)) m

gather_additive : (s m : ℕ) → Additive (gather s m)
unfolding gather
gather_additive s m a b = rw (sum_shr, sum_middle a b (a / 2 ^ s) (b / 2 ^ s), and_sum)

evens_additive : (k : ℕ) → Additive (evens k)
unfolding evens
evens_additive zero a b = sym (sum_self 0)
evens_additive (suc k) a b =
    rw (sum_shr a b 2, evens_additive k, sum_odd) (double_plus_sum _ _ _ _ (bit_lt a) (bit_lt b))

-- the 32 digits at even positions of a word, joined as the code does it
unfoldable pub gathered : ℕ → ℕ
gathered n =
    gather 16 0xffff_ffff (gather 8 0x0000_ffff_0000_ffff (gather 4 0x00ff_00ff_00ff_00ff
    (gather 2 0x0f0f_0f0f_0f0f_0f0f (gather 1 0x3333_3333_3333_3333 (bit_and n 0x5555_5555_5555_5555)))))

gathered_additive : Additive gathered
unfolding gathered
gathered_additive a b =
    rw (and_sum a b 0x5555_5555_5555_5555, gather_additive, gather_additive, gather_additive, gather_additive, gather_additive)

pub gathered_evens : (n : ℕ) → n < 2 ^ 64 → gathered n ≡ evens 32 n
unfolding same gathered gather evens ◌⊕◌
gathered_evens = basis gathered (evens 32) gathered_additive (evens_additive 32) 64 (same_at gathered (evens 32) 64 tt)

-- ---- a number from its digits at even and at odd positions
parts : ℕ → ℕ
parts n = spread (evens 32 n) ⊕ 2 * spread (evens 32 (n / 2))

parts_additive : Additive parts
unfolding parts
parts_additive a b =
    rw (sum_half, evens_additive 32 a b, evens_additive 32 (a / 2) (b / 2), spread_sum, spread_sum, sum_double) (sum_middle _ _ _ _)

pub evens_parts : (n : ℕ) → n < 2 ^ 64 → spread (evens 32 n) ⊕ 2 * spread (evens 32 (n / 2)) ≡ n
unfolding same parts evens spread digits digits_to ◌⊕◌
evens_parts = basis parts (λ (n : ℕ). n) parts_additive (λ a b. refl) 64 (same_at parts (λ (n : ℕ). n) 64 tt)

pub evens_le : (k n : ℕ) → evens k n ≤ n
unfolding evens
evens_le zero n = omega arith
evens_le (suc k) n = omega (arith, evens_le k (n / 4))

pub evens_lt : (j k n : ℕ) → n < 2 ^ (k + k) → evens j n < 2 ^ k
unfolding evens
evens_lt zero k n h = pow_pos k
evens_lt (suc j) zero n h = omega (arith, evens_le j (n / 4))
evens_lt (suc j) (suc k) n h =
    let e : suc k + suc k ≡ suc (suc (k + k)) = omega arith in
    let g : n < 2 ^ suc (suc (k + k)) = rw e at h in
    omega (arith, evens_lt j k (n / 4) (omega arith))
