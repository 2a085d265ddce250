-- The number of bits of a product.
-- `times_lt`: n bits times m bits are at most n + m bits.
-- `clmul_lt`: without carries, n bits times m + 1 bits are at most n + m bits.
-- `elements_lt`: the carry-less product of two elements has at most 2d bits.
use mathlib.Core.Path.{subst⁻¹}
use Prim.Native.Nat.{ℕ, zero, suc, ◌+◌, ◌*◌, ◌/◌, ◌%◌, ◌^◌, ◌<◌}
use native.Mathlib.{Omega.arith, Nat.zero-mul, Nat.one-mul, Nat.suc-add, Nat.pow-le-pow_right, Nat.lt_of_lt_of_le, Nat.lt_of_le_of_lt, Nat.le_of_lt, Nat.mul-le-mul_left, Nat.mul-lt-mul_of_pos_right}
use lib.{Dec.lit<, Dec.lit≤, Arith.lt-one, Pow.pow_pos, Pow.pow-add}
use Rattle.binary_field_theory.specs.{Carryless.clmul, Element.Accepted}
use Rattle.binary_field_theory.proofs.{Sums.bit_cases, Sums.bit_lt, Sums.sum_lt, Clmul.clmul_step, Clmul.zero_clmul, Products.degree_cases}

pub times_lt : (n m : ℕ) {a b : ℕ} → a < 2 ^ n → b < 2 ^ m → a * b < 2 ^ (n + m)
times_lt n m {a} {b} ha hb =
    subst⁻¹ (λ (x : ℕ). a * b < x) (pow-add 2 n m)
    (lt_of_le_of_lt (mul-le-mul_left a (le_of_lt hb)) (mul-lt-mul_of_pos_right ha (pow_pos m)))

pub clmul_lt : (n m a b : ℕ) → a < 2 ^ n → b < 2 ^ suc m → clmul a b < 2 ^ (n + m)
clmul_lt zero m a b ha hb = rw (lt-one ha, zero_clmul) (pow_pos (0 + m))
clmul_lt (suc n) m a b ha hb =
    let p : a % 2 * b < 2 ^ suc (n + m) =
    bit_cases (λ x. x * b < 2 ^ suc (n + m)) (rw zero-mul (pow_pos (suc (n + m))))
    (rw one-mul (lt_of_lt_of_le hb (pow-le-pow_right (lit< tt) (omega arith)))) (a % 2) (bit_lt a) in
    let q : clmul (a / 2) b < 2 ^ (n + m) = clmul_lt n m (a / 2) b (omega arith) hb in
    rw (clmul_step a b, suc-add) (sum_lt (suc (n + m)) _ _ p (omega arith))

pub elements_lt : (a b d : ℕ) → Accepted d → a < 2 ^ d → b < 2 ^ d → clmul a b < 2 ^ (d + d)
elements_lt a b =
    degree_cases (λ d. a < 2 ^ d → b < 2 ^ d → clmul a b < 2 ^ (d + d))
    (λ ha hb. lt_of_lt_of_le (clmul_lt 5 4 a b ha hb) (lit≤ tt))
    (λ ha hb. lt_of_lt_of_le (clmul_lt 61 60 a b ha hb) (lit≤ tt))
