-- The sum _⊕_ of polynomials over GF(2): an abelian group in which every element is its own opposite.
-- It works digit by digit and commutes with shifts and masks. `simp sums` sorts and cancels sums.
use Prim.Native.Nat.{ℕ, zero, suc, ◌+◌, ◌*◌, ◌/◌, ◌%◌, ◌^◌, ◌<◌}
use mathlib.Core.Path.{◌≡◌, refl, sym, ap, ap₂, ◌∙◌}
use native.Mathlib.{Nat.mod-lt, Nat.add-zero, Nat.mul_comm, Nat.zero-mul, Nat.one-mul, Omega.arith}
use lib.{Arith.bin_ind, Pow.pow_pos, Pow.split}
use lib.Bits.{bit_xor, bit_and, and_comm, and_shr, and_mod, xor_comm, xor_self, xor_zero_r, xor_lt, xor_shr, xor_mod, xor_block, xor_shifted}
use Rattle.binary_field_theory.specs.Carryless.{◌⊕◌}

-- a binary digit is 0 or 1
pub bit_cases {ℓ} : (P : ℕ → Type ℓ) → P 0 → P 1 → (x : ℕ) → x < 2 → P x
bit_cases P p q zero h = p
bit_cases P p q (suc zero) h = q
bit_cases P p q (suc (suc n)) h = absurd (omega arith)

pub bit_lt : (n : ℕ) → n % 2 < 2
bit_lt n = omega arith

pub same_digits : (a b : ℕ) → a / 2 ≡ b / 2 → a % 2 ≡ b % 2 → a ≡ b
same_digits a b p q = omega arith

pub sum_comm : (a b : ℕ) → a ⊕ b ≡ b ⊕ a
unfolding ◌⊕◌
sum_comm = xor_comm

pub sum_self : (a : ℕ) → a ⊕ a ≡ 0
unfolding ◌⊕◌
sum_self = xor_self

pub sum_zero : (a : ℕ) → a ⊕ 0 ≡ a
unfolding ◌⊕◌
sum_zero = xor_zero_r

pub zero_sum : (a : ℕ) → 0 ⊕ a ≡ a
unfolding ◌⊕◌
zero_sum a = refl

pub sum_lt : (k a b : ℕ) → a < 2 ^ k → b < 2 ^ k → a ⊕ b < 2 ^ k
unfolding ◌⊕◌
sum_lt = xor_lt

pub sum_shr : (a b k : ℕ) → (a ⊕ b) / 2 ^ k ≡ (a / 2 ^ k) ⊕ (b / 2 ^ k)
unfolding ◌⊕◌
sum_shr = xor_shr

pub sum_mod : (a b k : ℕ) → (a ⊕ b) % 2 ^ k ≡ (a % 2 ^ k) ⊕ (b % 2 ^ k)
unfolding ◌⊕◌
sum_mod = xor_mod

pub sum_half : (a b : ℕ) → (a ⊕ b) / 2 ≡ (a / 2) ⊕ (b / 2)
sum_half a b = sum_shr a b 1

pub sum_odd : (a b : ℕ) → (a ⊕ b) % 2 ≡ (a % 2) ⊕ (b % 2)
sum_odd a b = sum_mod a b 1

bits_assoc : (x : ℕ) → x < 2 → (y : ℕ) → y < 2 → (z : ℕ) → z < 2 → (x ⊕ y) ⊕ z ≡ x ⊕ (y ⊕ z)
unfolding ◌⊕◌
bits_assoc =
    bit_cases (λ x. (y : ℕ) → y < 2 → (z : ℕ) → z < 2 → (x ⊕ y) ⊕ z ≡ x ⊕ (y ⊕ z)) (λ y hy z hz. refl)
    (bit_cases (λ y. (z : ℕ) → z < 2 → (1 ⊕ y) ⊕ z ≡ 1 ⊕ (y ⊕ z)) (λ z hz. refl)
    (bit_cases (λ z. (1 ⊕ 1) ⊕ z ≡ 1 ⊕ (1 ⊕ z)) refl refl))

pub sum_assoc : (a b c : ℕ) → (a ⊕ b) ⊕ c ≡ a ⊕ (b ⊕ c)
sum_assoc =
    bin_ind (λ (n : ℕ). (b c : ℕ) → (n ⊕ b) ⊕ c ≡ n ⊕ (b ⊕ c)) (λ b c. simp zero_sum)
    (λ n ih b c. same_digits _ _ (simp sum_half (ih (b / 2) (c / 2)))
    (simp sum_odd (bits_assoc (n % 2) (bit_lt n) (b % 2) (bit_lt b) (c % 2) (bit_lt c))))

pub sum_left_comm : (a b c : ℕ) → a ⊕ (b ⊕ c) ≡ b ⊕ (a ⊕ c)
sum_left_comm a b c = sym (sum_assoc a b c) ∙ ap (λ x. x ⊕ c) (sum_comm a b) ∙ sum_assoc b a c

pub sum_self_left : (a b : ℕ) → a ⊕ (a ⊕ b) ≡ b
sum_self_left a b = sym (sum_assoc a a b) ∙ ap (λ x. x ⊕ b) (sum_self a) ∙ zero_sum b

pub ruleset sums = (sum_assoc, sum_comm, sum_left_comm, sum_self, sum_self_left, sum_zero, zero_sum)

pub sum_middle : (a b c d : ℕ) → (a ⊕ b) ⊕ (c ⊕ d) ≡ (a ⊕ c) ⊕ (b ⊕ d)
sum_middle a b c d = simp sums

pub sum_cancel : (a b : ℕ) → a ⊕ b ≡ 0 → a ≡ b
sum_cancel a b h = sym (sum_zero a) ∙ ap (λ x. a ⊕ x) (sym h) ∙ sum_self_left a b

-- the sum of a shifted number and a number below the shift is their integer sum
pub sum_shifted : (a k b : ℕ) → b < 2 ^ k → (a * 2 ^ k) ⊕ b ≡ a * 2 ^ k + b
unfolding ◌⊕◌
sum_shifted = xor_shifted

pub sum_shl : (a b k : ℕ) → (a ⊕ b) * 2 ^ k ≡ (a * 2 ^ k) ⊕ (b * 2 ^ k)
unfolding ◌⊕◌
sum_shl a b k =
    sym (add-zero (bit_xor a b * 2 ^ k)) ∙ sym (xor_block k a b 0 0 (pow_pos k) (pow_pos k))
    ∙ ap₂ bit_xor (add-zero (a * 2 ^ k)) (add-zero (b * 2 ^ k))

pub sum_double : (a b : ℕ) → 2 * (a ⊕ b) ≡ 2 * a ⊕ 2 * b
sum_double a b = mul_comm 2 (a ⊕ b) ∙ sum_shl a b 1 ∙ ap₂ ◌⊕◌ (mul_comm a 2) (mul_comm b 2)

-- the sum of a doubled number and a digit is their integer sum
pub double_plus : (a x : ℕ) → x < 2 → 2 * a + x ≡ 2 * a ⊕ x
double_plus a x h = ap (λ y. y + x) (mul_comm 2 a) ∙ sym (sum_shifted a 1 x h) ∙ ap (λ y. y ⊕ x) (mul_comm a 2)

pub double_plus_sum : (a b x y : ℕ) → x < 2 → y < 2 → 2 * (a ⊕ b) + (x ⊕ y) ≡ (2 * a + x) ⊕ (2 * b + y)
double_plus_sum a b x y hx hy =
    rw (double_plus (a ⊕ b) (x ⊕ y) (sum_lt 1 x y hx hy), double_plus a x hx, double_plus b y hy, sum_double) (sum_middle _ _ _ _)

-- a number is the sum of its high digits and its low digits
pub sum_split : (n k : ℕ) → n ≡ (n / 2 ^ k * 2 ^ k) ⊕ (n % 2 ^ k)
sum_split n k = sym (split n k) ∙ sym (sum_shifted (n / 2 ^ k) k (n % 2 ^ k) (mod-lt n (pow_pos k)))

-- the product of a digit and a sum
pub bit_mul_sum : (x a b : ℕ) → x < 2 → x * (a ⊕ b) ≡ x * a ⊕ x * b
bit_mul_sum x a b =
    bit_cases (λ x. x * (a ⊕ b) ≡ x * a ⊕ x * b) (simp (zero-mul, sum_zero)) (simp one-mul) x

pub bit_sum_mul : (x y b : ℕ) → x < 2 → y < 2 → (x ⊕ y) * b ≡ x * b ⊕ y * b
unfolding ◌⊕◌
bit_sum_mul x y b hx hy =
    bit_cases (λ x. (y : ℕ) → y < 2 → (x ⊕ y) * b ≡ x * b ⊕ y * b) (λ y hy. rw zero-mul)
    (bit_cases (λ y. (1 ⊕ y) * b ≡ 1 * b ⊕ y * b) (simp (zero-mul, one-mul, xor_zero_r)) (simp (zero-mul, one-mul, xor_self))) x hx y hy

-- a mask of a sum is the sum of the masked terms
and_sum_bits : (x : ℕ) → x < 2 → (y : ℕ) → y < 2 → (m : ℕ) → m < 2 → bit_and (x ⊕ y) m ≡ bit_and x m ⊕ bit_and y m
unfolding ◌⊕◌
and_sum_bits =
    bit_cases (λ x. (y : ℕ) → y < 2 → (m : ℕ) → m < 2 → bit_and (x ⊕ y) m ≡ bit_and x m ⊕ bit_and y m) (λ y hy m hm. refl)
    (bit_cases (λ y. (m : ℕ) → m < 2 → bit_and (1 ⊕ y) m ≡ bit_and 1 m ⊕ bit_and y m)
    (bit_cases (λ m. bit_and 1 m ≡ bit_and 1 m ⊕ 0) refl refl) (bit_cases (λ m. 0 ≡ bit_and 1 m ⊕ bit_and 1 m) refl refl))

pub and_sum : (a b m : ℕ) → bit_and (a ⊕ b) m ≡ bit_and a m ⊕ bit_and b m
and_sum =
    bin_ind (λ (n : ℕ). (b m : ℕ) → bit_and (n ⊕ b) m ≡ bit_and n m ⊕ bit_and b m)
    (λ b m. ap (λ (x : ℕ). bit_and x m) (zero_sum b) ∙ sym (zero_sum (bit_and b m)))
    (λ n ih b m. same_digits _ _
    (and_shr (n ⊕ b) m 1 ∙ ap (λ (x : ℕ). bit_and x (m / 2)) (sum_half n b) ∙ ih (b / 2) (m / 2)
    ∙ sym (sum_half (bit_and n m) (bit_and b m) ∙ ap₂ ◌⊕◌ (and_shr n m 1) (and_shr b m 1)))
    (and_mod (n ⊕ b) m 1 ∙ ap (λ (x : ℕ). bit_and x (m % 2)) (sum_odd n b) ∙ and_sum_bits (n % 2) (bit_lt n) (b % 2) (bit_lt b) (m % 2) (bit_lt m)
    ∙ sym (sum_odd (bit_and n m) (bit_and b m) ∙ ap₂ ◌⊕◌ (and_mod n m 1) (and_mod b m 1))))

pub sum_mask : (a x y : ℕ) → bit_and a (x ⊕ y) ≡ bit_and a x ⊕ bit_and a y
sum_mask a x y = and_comm a (x ⊕ y) ∙ and_sum x y a ∙ ap₂ ◌⊕◌ (and_comm x a) (and_comm y a)
