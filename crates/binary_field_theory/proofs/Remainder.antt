-- The remainder modulo t^d + low, for every d and every low below 2^d.
-- `remainder_lt`, `remainder_small`: it is below 2^d, and a number below 2^d is its own remainder.
-- `remainder_sum`: it is additive.
-- `remainder_clmul`, `remainder_clmul_left`: a factor of a product may be replaced by its remainder.
-- `remainder_fold`: the digits above the d lowest, times low, may be added to the d lowest (fast reduction).
-- `division`, `remainder_unique`: it is the remainder of a division by t^d + low, and the only one.
use Prim.Native.Nat.{ℕ, suc, ◌+◌, ◌*◌, ◌/◌, ◌%◌, ◌^◌, ◌<◌}
use mathlib.Core.Path.{◌≡◌, refl, sym, ap, ap₂, ◌∙◌}
use native.Mathlib.{Nat.zero-div, Nat.zero-mul, Nat.one-mul, Nat.add-zero, Nat.mod-lt, Nat.div-eq_of_lt, Nat.div_self, Nat.mod_self, Nat.div-lt_iff_lt-mul, Omega.arith}
use lib.{Arith.bin_ind, Pow.pow_pos}
use Rattle.binary_field_theory.specs.Carryless.{◌⊕◌, digits_to, digits, clmul, reduce, remainder}
use Rattle.binary_field_theory.proofs.Sums.{bit_cases, bit_lt, sums, sum_assoc, sum_self, sum_zero, zero_sum, sum_lt, sum_shr, sum_half, sum_odd, sum_double, sum_shifted, sum_split, double_plus, bit_mul_sum, bit_sum_mul, sum_middle, double_plus_sum}
use Rattle.binary_field_theory.proofs.Clmul.{digits_step, digit_split, clmul_step, zero_clmul, clmul_zero, clmul_comm, sum_clmul, double_clmul, bit_clmul, clmul_pow}

module _ (d low : ℕ) where
  reduce_zero : reduce d low 0 ≡ 0
  unfolding reduce
  reduce_zero = simp (zero-div, zero-mul, sum_zero)

  pub remainder_step : (n : ℕ) → remainder d low n ≡ reduce d low (2 * remainder d low (n / 2) + n % 2)
  unfolding remainder
  remainder_step = digits_step 0 (λ k r. reduce d low (2 * r + k % 2)) reduce_zero

  pub remainder_zero : remainder d low 0 ≡ 0
  unfolding remainder digits digits_to
  remainder_zero = refl

  -- the remainder of t times a polynomial
  pub remainder_double : (n : ℕ) → remainder d low (2 * n) ≡ reduce d low (2 * remainder d low n)
  remainder_double n =
      let e : 2 * n % 2 ≡ 0 = omega arith in
      let h : 2 * n / 2 ≡ n = omega arith in
      rw (remainder_step (2 * n), e, h, add-zero)

  -- ---- one step of the division, on r of degree at most d
  pub reduce_small : (r : ℕ) → r < 2 ^ d → reduce d low r ≡ r
  unfolding reduce
  reduce_small r h = rw (div-eq_of_lt h, zero-mul, zero_sum)

  pub top_bit : (r : ℕ) → r < 2 ^ suc d → r / 2 ^ d < 2
  top_bit r h = (div-lt_iff_lt-mul (pow_pos d)).1 (omega arith)

  pub reduce_sum : (r s : ℕ) → r < 2 ^ suc d → s < 2 ^ suc d → reduce d low (r ⊕ s) ≡ reduce d low r ⊕ reduce d low s
  unfolding reduce
  reduce_sum r s hr hs =
      rw (sum_shr r s d, bit_sum_mul (r / 2 ^ d) (s / 2 ^ d) (2 ^ d + low) (top_bit r hr) (top_bit s hs)) (sum_middle _ _ _ _)

module _ (d low : ℕ) (h : low < 2 ^ d) where
  modulus_sum : 2 ^ d + low ≡ 2 ^ d ⊕ low
  modulus_sum = ap (λ x. x + low) (sym (one-mul (2 ^ d))) ∙ sym (sum_shifted 1 d low h) ∙ ap (λ x. x ⊕ low) (one-mul (2 ^ d))

  pub reduce_fold : (r : ℕ) → r < 2 ^ suc d → reduce d low r ≡ (r / 2 ^ d) * low ⊕ r % 2 ^ d
  unfolding reduce
  reduce_fold r hr =
      rw (modulus_sum, bit_mul_sum (r / 2 ^ d) (2 ^ d) low (top_bit d low r hr))
      (ap (λ x. r / 2 ^ d * 2 ^ d ⊕ r / 2 ^ d * low ⊕ x) (sum_split r d) ∙ simp sums)

  bit_low_lt : (x : ℕ) → x < 2 → x * low < 2 ^ d
  bit_low_lt = bit_cases (λ x. x * low < 2 ^ d) (rw zero-mul (pow_pos d)) (rw one-mul h)

  pub reduce_lt : (r : ℕ) → r < 2 ^ suc d → reduce d low r < 2 ^ d
  reduce_lt r hr = rw (reduce_fold r hr) (sum_lt d _ _ (bit_low_lt _ (top_bit d low r hr)) (mod-lt r (pow_pos d)))

  pub remainder_lt : (n : ℕ) → remainder d low n < 2 ^ d
  remainder_lt =
      bin_ind (λ n. remainder d low n < 2 ^ d) (rw (remainder_zero d low) (pow_pos d))
      (λ n ih. rw (remainder_step d low n) (reduce_lt _ (omega (arith, bit_lt n))))

  next_lt : (n : ℕ) → 2 * remainder d low (n / 2) + n % 2 < 2 ^ suc d
  next_lt n = omega (arith, remainder_lt (n / 2), bit_lt n)

  pub remainder_small : (n : ℕ) → n < 2 ^ d → remainder d low n ≡ n
  remainder_small =
      bin_ind (λ n. n < 2 ^ d → remainder d low n ≡ n) (λ _. remainder_zero d low)
      (λ n ih hn. let e : 2 * (n / 2) + n % 2 ≡ n = omega arith in
      rw (remainder_step d low n, ih (omega arith), e) (reduce_small d low n hn))

  pub remainder_once : (n : ℕ) → n < 2 ^ suc d → remainder d low n ≡ reduce d low n
  remainder_once n hn =
      let e : 2 * (n / 2) + n % 2 ≡ n = omega arith in
      rw (remainder_step d low n, remainder_small (n / 2) (omega arith), e)

  pub remainder_idem : (n : ℕ) → remainder d low (remainder d low n) ≡ remainder d low n
  remainder_idem n = remainder_small (remainder d low n) (remainder_lt n)

  pub remainder_sum : (a b : ℕ) → remainder d low (a ⊕ b) ≡ remainder d low a ⊕ remainder d low b
  remainder_sum a b =
      bin_ind (λ n. (b : ℕ) → remainder d low (n ⊕ b) ≡ remainder d low n ⊕ remainder d low b)
      (λ b. rw (zero_sum, remainder_zero d low, zero_sum))
      (λ n ih b. rw (
        remainder_step d low (n ⊕ b),
        sum_half,
        sum_odd,
        ih (b / 2),
        double_plus_sum _ _ (n % 2) (b % 2) (bit_lt n) (bit_lt b),
        reduce_sum d low _ _ (next_lt n) (next_lt b),
        ← remainder_step d low n,
        ← remainder_step d low b,
      )) a b

  bit_remainder : (x b : ℕ) → x < 2 → remainder d low (x * remainder d low b) ≡ remainder d low (x * b)
  bit_remainder x b =
      bit_cases (λ x. remainder d low (x * remainder d low b) ≡ remainder d low (x * b)) (simp zero-mul)
      (simp one-mul (remainder_idem b)) x

  pub remainder_clmul : (a b : ℕ) → remainder d low (clmul a (remainder d low b)) ≡ remainder d low (clmul a b)
  remainder_clmul a b =
      bin_ind (λ n. remainder d low (clmul n (remainder d low b)) ≡ remainder d low (clmul n b)) (simp zero_clmul)
      (λ n ih. rw (clmul_step n (remainder d low b), clmul_step n b)
      (simp (remainder_sum, remainder_double d low, ih, bit_remainder (n % 2) b (bit_lt n)))) a

  pub remainder_clmul_left : (a b : ℕ) → remainder d low (clmul (remainder d low a) b) ≡ remainder d low (clmul a b)
  remainder_clmul_left a b =
      ap (remainder d low) (clmul_comm (remainder d low a) b) ∙ remainder_clmul b a ∙ ap (remainder d low) (clmul_comm b a)

  -- the remainder of t^d is low
  pub remainder_pow : remainder d low (2 ^ d) ≡ low
  remainder_pow =
      remainder_once (2 ^ d) (omega (arith, pow_pos d)) ∙ reduce_fold (2 ^ d) (omega (arith, pow_pos d))
      ∙ simp (div_self (pow_pos d), mod_self, one-mul, sum_zero)

  pub remainder_fold : (n : ℕ) → remainder d low n ≡ remainder d low (clmul (n / 2 ^ d) low) ⊕ n % 2 ^ d
  remainder_fold n =
      ap (remainder d low) (sum_split n d) ∙ remainder_sum (n / 2 ^ d * 2 ^ d) (n % 2 ^ d)
      ∙ ap₂ ◌⊕◌
      (ap (remainder d low) (sym (clmul_pow (n / 2 ^ d) d)) ∙ sym (remainder_clmul (n / 2 ^ d) (2 ^ d))
      ∙ ap (λ x. remainder d low (clmul (n / 2 ^ d) x)) remainder_pow)
      (remainder_small (n % 2 ^ d) (mod-lt n (pow_pos d)))

  -- ---- division by the modulus
  pub remainder_modulus : remainder d low (2 ^ d + low) ≡ 0
  remainder_modulus =
      rw (modulus_sum, remainder_sum, remainder_pow, remainder_small low h) (sum_self low)

  pub remainder_multiple : (q : ℕ) → remainder d low (clmul q (2 ^ d + low)) ≡ 0
  remainder_multiple q =
      sym (remainder_clmul q (2 ^ d + low)) ∙ ap (λ x. remainder d low (clmul q x)) remainder_modulus
      ∙ ap (remainder d low) (clmul_zero q) ∙ remainder_zero d low

  pub remainder_unique : (n q r : ℕ) → r < 2 ^ d → n ≡ clmul q (2 ^ d + low) ⊕ r → remainder d low n ≡ r
  remainder_unique n q r hr e =
      rw (e, remainder_sum, remainder_multiple, remainder_small r hr) (zero_sum r)

  next_digit : (n q : ℕ) → n / 2 ≡ clmul q (2 ^ d + low) ⊕ remainder d low (n / 2)
      → n ≡ clmul (2 * q ⊕ (2 * remainder d low (n / 2) + n % 2) / 2 ^ d) (2 ^ d + low) ⊕ remainder d low n
  unfolding reduce
  next_digit n q e =
      let m : ℕ = 2 ^ d + low in
      let r : ℕ = remainder d low (n / 2) in
      let s : ℕ = 2 * r + n % 2 in
      digit_split n ∙ ap (λ x. 2 * x ⊕ n % 2) e ∙ ap (λ x. x ⊕ n % 2) (sum_double (clmul q m) r)
      ∙ sum_assoc (2 * clmul q m) (2 * r) (n % 2) ∙ ap (λ x. 2 * clmul q m ⊕ x) (sym (double_plus r (n % 2) (bit_lt n)))
      ∙ cancelled (2 * clmul q m) s (s / 2 ^ d * m)
      ∙ ap₂ ◌⊕◌ (ap₂ ◌⊕◌ (sym (double_clmul q m)) (sym (bit_clmul (s / 2 ^ d) m (top_bit d low s (next_lt n))))
      ∙ sym (sum_clmul (2 * q) (s / 2 ^ d) m))
      (sym (remainder_step d low n))
    where
      cancelled : (a b c : ℕ) → a ⊕ b ≡ (a ⊕ c) ⊕ (c ⊕ b)
      cancelled a b c = simp sums

  pub division : (n : ℕ) → (q : ℕ) × (n ≡ clmul q (2 ^ d + low) ⊕ remainder d low n)
  division =
      bin_ind (λ n. (q : ℕ) × (n ≡ clmul q (2 ^ d + low) ⊕ remainder d low n))
      (0, sym (ap₂ ◌⊕◌ (zero_clmul (2 ^ d + low)) (remainder_zero d low) ∙ sum_zero 0))
      (λ n ih. (2 * ih.0 ⊕ (2 * remainder d low (n / 2) + n % 2) / 2 ^ d, next_digit n ih.0 ih.1))
