-- Powers of elements, for every d with low d below 2^d.
-- `squarings_sum`, `squarings_product`: squaring k times is additive and multiplicative.
-- `power_suc`, `power_add`, `power_even`, `power_odd`, `power_one`: the laws of exponents.
-- `power_pow`: the power 2^k is squaring k times. `squarings_power`: squaring k times multiplies the exponent by 2^k.
-- `power_lt`, `squarings_lt`: a power of an element is an element.
-- `power_ones_add`, `ones_squared`: the powers 2^k - 1, from which the inverse is made.
use Prim.Native.Nat.{ℕ, zero, suc, ◌+◌, ◌-◌, ◌*◌, ◌/◌, ◌%◌, ◌^◌, ◌<◌}
use mathlib.Core.{Path.◌≡◌, Path.refl, Path.sym, Path.ap, Path.◌∙◌, Bool.cond}
use native.Mathlib.{Nat.zero-add, Nat.suc-add, Nat.add-zero, Nat.one-mul, Nat.mul_comm, Nat.mul_assoc, Nat.pow-succ', Omega.arith}
use lib.{Dec.eqb, Arith.bin_ind, Pow.ones_split}
use Rattle.binary_field_theory.specs.{Carryless.◌⊕◌, Carryless.digits_to, Carryless.digits, Carryless.remainder, Element.low, Element.product, Element.square, Element.squarings, Element.power}
use Rattle.binary_field_theory.proofs.{Sums.bit_cases, Sums.bit_lt, Clmul.digits_step}
use Rattle.binary_field_theory.proofs.Products

pub squarings_zero : (d a : ℕ) → squarings d 0 a ≡ a
unfolding squarings
squarings_zero d a = refl

pub squarings_suc : (d k a : ℕ) → squarings d (suc k) a ≡ square d (squarings d k a)
unfolding squarings
squarings_suc d k a = refl

pub squarings_add : (d j k a : ℕ) → squarings d (j + k) a ≡ squarings d j (squarings d k a)
squarings_add d zero k a = ap (λ x. squarings d x a) (zero-add k) ∙ sym (squarings_zero d (squarings d k a))
squarings_add d (suc j) k a =
    ap (λ x. squarings d x a) (suc-add j k) ∙ squarings_suc d (j + k) a ∙ ap (square d) (squarings_add d j k a)
    ∙ sym (squarings_suc d j (squarings d k a))

pub power_zero : (d a : ℕ) → power d a 0 ≡ 1
unfolding power digits digits_to
power_zero d a = refl

module _ (d : ℕ) (h : low d < 2 ^ d) where
  pub squarings_lt : (k a : ℕ) → a < 2 ^ d → squarings d k a < 2 ^ d
  squarings_lt zero a ha = rw squarings_zero ha
  squarings_lt (suc k) a ha = rw squarings_suc (Products.square_lt d h (squarings d k a))

  pub squarings_sum : (k a b : ℕ) → squarings d k (a ⊕ b) ≡ squarings d k a ⊕ squarings d k b
  squarings_sum zero a b = simp squarings_zero
  squarings_sum (suc k) a b =
      simp squarings_suc (ap (square d) (squarings_sum k a b) ∙ Products.square_sum d h (squarings d k a) (squarings d k b))

  pub squarings_product : (k a b : ℕ) → squarings d k (product d a b) ≡ product d (squarings d k a) (squarings d k b)
  squarings_product zero a b = simp squarings_zero
  squarings_product (suc k) a b =
      simp squarings_suc (ap (square d) (squarings_product k a b) ∙ Products.square_product d h (squarings d k a) (squarings d k b))

  -- a number may be replaced by its remainder before it is squared
  pub squarings_remainder : (k n : ℕ) → squarings d (suc k) (remainder d (low d) n) ≡ squarings d (suc k) n
  unfolding squarings
  squarings_remainder zero n = Products.square_remainder d h n
  squarings_remainder (suc k) n = ap (square d) (squarings_remainder k n)

  square_one : square d 1 ≡ 1
  unfolding square
  square_one = Products.product_one d h 1 (Products.one_lt d h)

  pub squarings_one : (k : ℕ) → squarings d k 1 ≡ 1
  squarings_one zero = squarings_zero d 1
  squarings_one (suc k) = squarings_suc d k 1 ∙ ap (square d) (squarings_one k) ∙ square_one

  power_step : (a n : ℕ) → power d a n ≡ product d (cond (eqb (n % 2) 1) a 1) (square d (power d a (n / 2)))
  unfolding power
  power_step a =
      digits_step 1 (λ k r. product d (cond (eqb (k % 2) 1) a 1) (square d r))
      (ap (product d 1) square_one ∙ Products.product_one d h 1 (Products.one_lt d h))

  pub power_even : (a n : ℕ) → power d a (2 * n) ≡ square d (power d a n)
  power_even a n =
      let e : 2 * n % 2 ≡ 0 = omega arith in
      let g : 2 * n / 2 ≡ n = omega arith in
      rw (power_step a (2 * n), e, g) (Products.one_product d h (square d (power d a n)) (Products.square_lt d h (power d a n)))

  pub power_odd : (a n : ℕ) → power d a (suc (2 * n)) ≡ product d a (square d (power d a n))
  power_odd a n =
      let e : suc (2 * n) % 2 ≡ 1 = omega arith in
      let g : suc (2 * n) / 2 ≡ n = omega arith in
      rw (power_step a (suc (2 * n)), e, g)

  next_power : (a k x : ℕ) → x < 2 → power d a (suc k) ≡ product d a (power d a k)
      → power d a (suc (2 * k + x)) ≡ product d a (power d a (2 * k + x))
  unfolding square
  next_power a k x hx ih =
      bit_cases (λ x. power d a (suc (2 * k + x)) ≡ product d a (power d a (2 * k + x)))
      (rw (add-zero, power_odd, power_even))
      (let e : suc (2 * k + 1) ≡ 2 * suc k = omega arith in
      let g : 2 * k + 1 ≡ suc (2 * k) = omega arith in
      rw (e, g, power_even, power_odd, ih)
      (Products.square_product d h a (power d a k) ∙ Products.product_assoc d h a a (square d (power d a k)))) x hx

  pub power_suc : (a n : ℕ) → power d a (suc n) ≡ product d a (power d a n)
  power_suc a =
      bin_ind (λ n. power d a (suc n) ≡ product d a (power d a n)) (power_odd a 0 ∙ simp (power_zero, square_one))
      (λ n ih. let e : 2 * (n / 2) + n % 2 ≡ n = omega arith in
      rw e at (next_power a (n / 2) (n % 2) (bit_lt n) ih))

  pub power_lt : (a n : ℕ) → power d a n < 2 ^ d
  power_lt a zero = rw power_zero (Products.one_lt d h)
  power_lt a (suc n) = rw power_suc (Products.product_lt d h a (power d a n))

  pub power_add : (a m n : ℕ) → power d a (m + n) ≡ product d (power d a m) (power d a n)
  power_add a zero n = rw (zero-add, power_zero) (sym (Products.one_product d h (power d a n) (power_lt a n)))
  power_add a (suc m) n =
      rw (suc-add, power_suc a (m + n), power_suc a m, power_add a m n) (sym (Products.product_assoc d h a (power d a m) (power d a n)))

  pub power_one : (a : ℕ) → a < 2 ^ d → power d a 1 ≡ a
  power_one a ha = power_suc a 0 ∙ ap (product d a) (power_zero d a) ∙ Products.product_one d h a ha

  pub power_pow : (a k : ℕ) → a < 2 ^ d → power d a (2 ^ k) ≡ squarings d k a
  power_pow a zero ha = power_one a ha ∙ sym (squarings_zero d a)
  power_pow a (suc k) ha =
      let e : 2 ^ suc k ≡ 2 * 2 ^ k = omega arith in
      rw (e, power_even, squarings_suc, power_pow a k ha)

  pub squarings_power : (k a n : ℕ) → squarings d k (power d a n) ≡ power d a (2 ^ k * n)
  squarings_power zero a n = squarings_zero d (power d a n) ∙ ap (power d a) (sym (one-mul n))
  squarings_power (suc k) a n =
      rw (squarings_suc, squarings_power k a n, ← power_even, pow-succ' 2 k, mul_assoc 2 (2 ^ k) n)

  -- ---- the powers 2^k - 1, from which the inverse is made by few products
  pub power_ones_add : (a j k : ℕ)
      → power d a (2 ^ (j + k) - 1) ≡ product d (squarings d k (power d a (2 ^ j - 1))) (power d a (2 ^ k - 1))
  power_ones_add a j k =
      ap (power d a) (ones_split j k ∙ ap (λ x. x + (2 ^ k - 1)) (mul_comm (2 ^ j - 1) (2 ^ k)))
      ∙ power_add a (2 ^ k * (2 ^ j - 1)) (2 ^ k - 1)
      ∙ ap (λ x. product d x (power d a (2 ^ k - 1))) (sym (squarings_power k a (2 ^ j - 1)))

  pub ones_squared : (a : ℕ) → power d a (2 ^ d - 2) ≡ square d (power d a (2 ^ (d - 1) - 1))
  ones_squared a = ap (power d a) even ∙ power_even a (2 ^ (d - 1) - 1)
    where
      even : 2 ^ d - 2 ≡ 2 * (2 ^ (d - 1) - 1)
      even = let p : d ≡ suc (d - 1) = omega (arith, Products.degree_pos d h) in ap (λ n. 2 ^ n - 2) p ∙ (omega arith)
