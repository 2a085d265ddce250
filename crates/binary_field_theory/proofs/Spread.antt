-- Squares of polynomials over GF(2) by spreading: bit i goes to bit 2i.
-- `clmul_self`: the square of a polynomial is the spread number.
-- `spread_sum`: spreading is additive.
-- `spread_lt`, `spread_shl`: a number of k bits is spread to 2k bits, and a shift by k becomes one by 2k.
-- `spread_block`: the digits above the k lowest and those below are spread separately, as by a table of spread bytes.
use Prim.Native.Nat.{ℕ, zero, suc, ◌+◌, ◌*◌, ◌/◌, ◌%◌, ◌^◌, ◌<◌}
use mathlib.Core.Path.{◌≡◌, refl, sym, ap, ap₂, ◌∙◌}
use native.Mathlib.{Nat.mul_assoc, Nat.zero-lt-suc, Omega.arith}
use lib.{Arith.bin_ind, Arith.lt-one, Pow.pow-add}
use Rattle.binary_field_theory.specs.Carryless.{◌⊕◌, digits_to, digits, clmul, spread}
use Rattle.binary_field_theory.proofs.Sums.{bit_cases, bit_lt, sum_shifted, double_plus}
use Rattle.binary_field_theory.proofs.Clmul.{digits_step, digit_split, zero_clmul, bit_clmul, double_clmul, clmul_double, clmul_self_sum, clmul_shl, shl_clmul}

pub spread_step : (n : ℕ) → spread n ≡ 4 * spread (n / 2) + n % 2
unfolding spread
spread_step n = digits_step 0 (λ k r. 4 * r + k % 2) refl n

spread_zero : spread 0 ≡ 0
unfolding spread digits digits_to
spread_zero = refl

bit_self : (x : ℕ) → x < 2 → clmul x x ≡ x
bit_self x h = bit_clmul x x h ∙ bit_cases (λ x. x * x ≡ x) refl refl x h

pub clmul_self : (a : ℕ) → clmul a a ≡ spread a
clmul_self =
    bin_ind (λ n. clmul n n ≡ spread n) (zero_clmul 0 ∙ sym spread_zero)
    (λ n ih. ap (λ x. clmul x x) (digit_split n) ∙ clmul_self_sum (2 * (n / 2)) (n % 2)
    ∙ ap₂ ◌⊕◌ (double_clmul (n / 2) (2 * (n / 2)) ∙ ap (λ x. 2 * x) (clmul_double (n / 2) (n / 2) ∙ ap (λ x. 2 * x) ih)) (bit_self (n % 2) (bit_lt n))
    ∙ sym (double_plus (2 * spread (n / 2)) (n % 2) (bit_lt n)) ∙ ap (λ x. x + n % 2) (sym (mul_assoc 2 2 (spread (n / 2)))) ∙ sym (spread_step n))

pub spread_sum : (a b : ℕ) → spread (a ⊕ b) ≡ spread a ⊕ spread b
spread_sum a b = sym (clmul_self (a ⊕ b)) ∙ clmul_self_sum a b ∙ ap₂ ◌⊕◌ (clmul_self a) (clmul_self b)

pub spread_lt : (k n : ℕ) → n < 2 ^ k → spread n < 2 ^ (k + k)
spread_lt zero n h = rw (lt-one h, spread_zero) (zero-lt-suc 0)
spread_lt (suc k) n h =
    let half : n / 2 < 2 ^ k = omega arith in
    let e : suc k + suc k ≡ suc (suc (k + k)) = omega arith in
    rw e (omega (arith, spread_step n, spread_lt k (n / 2) half))

pub spread_shl : (k a : ℕ) → spread (a * 2 ^ k) ≡ spread a * 2 ^ (k + k)
spread_shl k a =
    sym (clmul_self (a * 2 ^ k)) ∙ shl_clmul a (a * 2 ^ k) k ∙ ap (λ x. x * 2 ^ k) (clmul_shl a a k ∙ ap (λ x. x * 2 ^ k) (clmul_self a))
    ∙ mul_assoc (spread a) (2 ^ k) (2 ^ k) ∙ ap (λ x. spread a * x) (sym (pow-add 2 k k))

pub spread_block : (k a r : ℕ) → r < 2 ^ k → spread (a * 2 ^ k + r) ≡ spread a * 2 ^ (k + k) + spread r
spread_block k a r h =
    ap spread (sym (sum_shifted a k r h)) ∙ spread_sum (a * 2 ^ k) r ∙ ap (λ x. x ⊕ spread r) (spread_shl k a)
    ∙ sum_shifted (spread a) (k + k) (spread r) (spread_lt k r h)
