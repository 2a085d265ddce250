-- The product of polynomials over GF(2).
-- `clmul_sum`, `sum_clmul`: it is additive on both sides.
-- `clmul_comm`, `clmul_assoc`, `clmul_one`: it is commutative and associative, with unit 1.
-- `clmul_pow`, `clmul_shl`, `shl_clmul`: a power of t shifts, and shifts may be taken out of a product.
-- `clmul_self_sum`: squaring is additive.
use Prim.Native.Nat.{ℕ, zero, suc, ◌+◌, ◌*◌, ◌/◌, ◌%◌, ◌^◌, ◌≤◌, ◌<◌}
use mathlib.Core.Path.{◌≡◌, refl, sym, ap, ap₂, ◌∙◌}
use native.Mathlib.{Nat.le_refl, Nat.zero-mul, Nat.one-mul, Nat.mul-one, Nat.mul-zero, Nat.mul_left_comm, Nat.mul_comm, Nat.pow-suc, Nat.not-suc-le-zero, Decide.le_ind}
use native.Mathlib.Omega.{arith}
use lib.Arith.{bin_ind, half_le}
use Rattle.binary_field_theory.specs.Carryless.{◌⊕◌, digits_to, digits, clmul}
use Rattle.binary_field_theory.proofs.Sums.{bit_cases, bit_lt, sums, sum_comm, sum_zero, zero_sum, sum_half, sum_odd, sum_double, double_plus, bit_mul_sum, bit_sum_mul, sum_middle}

-- Horner's rule gives the same for every bound of the calls that is not too small
module _ (z : ℕ) (f : ℕ → ℕ → ℕ) where
  more : (k n : ℕ) → n ≤ k → digits_to z f (suc k) n ≡ digits_to z f k n
  unfolding digits_to
  more zero zero h = refl
  more zero (suc n) h = absurd (not-suc-le-zero h)
  more (suc k) zero h = refl
  more (suc k) (suc n) h = ap (f (suc n)) (more k (suc n / 2) (half_le h))

  enough : (k n : ℕ) → n ≤ k → digits_to z f k n ≡ digits z f n
  unfolding digits
  enough k n h = le_ind (λ (m : ℕ). digits_to z f m n ≡ digits_to z f n n) refl (λ m l e. more m n l ∙ e) k h

  pub digits_step : f 0 z ≡ z → (n : ℕ) → digits z f n ≡ f n (digits z f (n / 2))
  unfolding digits digits_to
  digits_step h zero = sym h
  digits_step h (suc n) = ap (f (suc n)) (enough n (suc n / 2) (half_le (le_refl (suc n))))

-- a number is the sum of its half, doubled, and its last digit
pub digit_split : (n : ℕ) → n ≡ 2 * (n / 2) ⊕ n % 2
digit_split n = let e : n ≡ 2 * (n / 2) + n % 2 = omega arith in e ∙ double_plus (n / 2) (n % 2) (bit_lt n)

pub clmul_step : (a b : ℕ) → clmul a b ≡ (a % 2) * b ⊕ 2 * clmul (a / 2) b
unfolding clmul
clmul_step a b = digits_step 0 (λ n r. (n % 2) * b ⊕ 2 * r) (simp (zero-mul, sum_zero)) a

pub zero_clmul : (b : ℕ) → clmul 0 b ≡ 0
unfolding clmul digits digits_to
zero_clmul b = refl

pub one_clmul : (b : ℕ) → clmul 1 b ≡ b
one_clmul b = clmul_step 1 b ∙ simp (one-mul, zero_clmul, sum_zero)

-- the product of a digit and a polynomial
pub bit_clmul : (x b : ℕ) → x < 2 → clmul x b ≡ x * b
bit_clmul x b = bit_cases (λ x. clmul x b ≡ x * b) (zero_clmul b ∙ sym (zero-mul b)) (one_clmul b ∙ sym (one-mul b)) x

pub clmul_sum : (a b c : ℕ) → clmul a (b ⊕ c) ≡ clmul a b ⊕ clmul a c
clmul_sum a b c =
    bin_ind (λ n. clmul n (b ⊕ c) ≡ clmul n b ⊕ clmul n c) (simp (zero_clmul, sum_zero))
    (λ n ih. rw (clmul_step n (b ⊕ c), clmul_step n b, clmul_step n c, ih, sum_double, bit_mul_sum (n % 2) b c (bit_lt n))
    (sum_middle _ _ _ _)) a

pub sum_clmul : (a b c : ℕ) → clmul (a ⊕ b) c ≡ clmul a c ⊕ clmul b c
sum_clmul a b c =
    bin_ind (λ n. (b : ℕ) → clmul (n ⊕ b) c ≡ clmul n c ⊕ clmul b c) (λ b. rw (zero_sum, zero_clmul, zero_sum))
    (λ n ih b. rw (
      clmul_step (n ⊕ b) c,
      clmul_step n c,
      clmul_step b c,
      sum_half,
      sum_odd,
      ih (b / 2),
      sum_double,
      bit_sum_mul (n % 2) (b % 2) c (bit_lt n) (bit_lt b),
    )
    (sum_middle _ _ _ _)) a b

pub clmul_double : (a b : ℕ) → clmul a (2 * b) ≡ 2 * clmul a b
clmul_double a b =
    bin_ind (λ n. clmul n (2 * b) ≡ 2 * clmul n b) (simp zero_clmul)
    (λ n ih. rw (clmul_step n (2 * b), clmul_step n b, ih, sum_double, mul_left_comm (n % 2) 2 b)) a

pub double_clmul : (a b : ℕ) → clmul (2 * a) b ≡ 2 * clmul a b
double_clmul a b =
    let e : 2 * a % 2 ≡ 0 = omega arith in
    let h : 2 * a / 2 ≡ a = omega arith in
    rw (clmul_step (2 * a) b, e, h, zero-mul, zero_sum)

pub clmul_zero : (a : ℕ) → clmul a 0 ≡ 0
clmul_zero a = bin_ind (λ n. clmul n 0 ≡ 0) (zero_clmul 0) (λ n ih. clmul_step n 0 ∙ simp (ih, mul-zero, sum_zero)) a

pub clmul_one : (a : ℕ) → clmul a 1 ≡ a
clmul_one a = bin_ind (λ n. clmul n 1 ≡ n) (zero_clmul 1) (λ n ih. rw (clmul_step n 1, ih, mul-one) (sum_comm _ _ ∙ sym (digit_split n))) a

pub clmul_bit : (b x : ℕ) → x < 2 → clmul b x ≡ x * b
clmul_bit b x = bit_cases (λ x. clmul b x ≡ x * b) (clmul_zero b ∙ sym (zero-mul b)) (clmul_one b ∙ sym (one-mul b)) x

pub clmul_comm : (a b : ℕ) → clmul a b ≡ clmul b a
clmul_comm a b =
    bin_ind (λ n. clmul n b ≡ clmul b n) (zero_clmul b ∙ sym (clmul_zero b))
    (λ n ih. clmul_step n b
    ∙ ap₂ ◌⊕◌ (sym (clmul_bit b (n % 2) (bit_lt n))) (ap (λ x. 2 * x) ih ∙ sym (clmul_double b (n / 2)))
    ∙ sum_comm _ _ ∙ sym (clmul_sum b (2 * (n / 2)) (n % 2)) ∙ ap (clmul b) (sym (digit_split n))) a

bit_mul_clmul : (x b c : ℕ) → x < 2 → clmul (x * b) c ≡ x * clmul b c
bit_mul_clmul x b c =
    bit_cases (λ x. clmul (x * b) c ≡ x * clmul b c) (simp (zero-mul, zero_clmul)) (simp one-mul) x

pub clmul_assoc : (a b c : ℕ) → clmul (clmul a b) c ≡ clmul a (clmul b c)
clmul_assoc a b c =
    bin_ind (λ n. clmul (clmul n b) c ≡ clmul n (clmul b c)) (simp zero_clmul)
    (λ n ih. rw (clmul_step n b, clmul_step n (clmul b c), sum_clmul, double_clmul, ih, bit_mul_clmul (n % 2) b c (bit_lt n))) a

pub clmul_pow : (a k : ℕ) → clmul a (2 ^ k) ≡ a * 2 ^ k
clmul_pow a zero = clmul_one a ∙ sym (mul-one a)
clmul_pow a (suc k) =
    rw (pow-suc 2 k, mul_comm (2 ^ k) 2, clmul_double, clmul_pow a k) (mul_left_comm 2 a (2 ^ k))

pub clmul_shl : (a b k : ℕ) → clmul a (b * 2 ^ k) ≡ clmul a b * 2 ^ k
clmul_shl a b k = rw (← clmul_pow b k, ← clmul_assoc, clmul_pow)

pub shl_clmul : (a b k : ℕ) → clmul (a * 2 ^ k) b ≡ clmul a b * 2 ^ k
shl_clmul a b k = clmul_comm (a * 2 ^ k) b ∙ clmul_shl b a k ∙ ap (λ x. x * 2 ^ k) (clmul_comm b a)

pub clmul_self_sum : (a b : ℕ) → clmul (a ⊕ b) (a ⊕ b) ≡ clmul a a ⊕ clmul b b
clmul_self_sum a b = rw (sum_clmul, clmul_sum a, clmul_sum b, clmul_comm b a) (simp sums)
