-- Integer products as carry-less products.
-- `product_carryless`: if each base-16 digit of a and b is 0 or 1 and a has at most 15 digits, no digit of a * b
-- exceeds 15, so that nothing is carried, and the lowest bits of the digits are the carry-less product of a and b.
use mathlib.Core.Path.{◌≡◌, refl, sym, ap, ap₂, subst, ◌∙◌}
use Prim.Native.Nat.{ℕ, zero, suc, ◌+◌, ◌*◌, ◌/◌, ◌%◌, ◌^◌, ◌<◌, ◌≤◌, zero-le}
use native.Mathlib.{Omega.arith, Nat.add-mod, Nat.mod-lt, Nat.zero-add, Nat.suc-add, Nat.add-suc, Nat.zero-mul, Nat.div-add-mod, Numerals.one-add}
use lib.{Dec.lit<, Bits.xor_block}
use Rattle.binary_field_theory.specs.Carryless.{◌⊕◌, clmul}
use Rattle.binary_field_theory.proofs.{Sums.bit_cases, Clmul.clmul_step, Clmul.double_clmul, Clmul.zero_clmul}

-- the lowest bits of the k lowest base-16 digits of n, each at the position of its digit
unfoldable pub lows : ℕ → ℕ → ℕ
lows zero n = 0
lows (suc k) n = n % 2 + 16 * lows k (n / 16)

-- n has at most k base-16 digits, and each is at most c
unfoldable pub Digits : ℕ → ℕ → ℕ → Type 0
Digits c zero n = n ≡ 0
Digits c (suc k) n = (n % 16 ≤ c) × Digits c k (n / 16)

pub lows_digits : (k n : ℕ) → Digits 1 k (lows k n)
unfolding lows Digits
lows_digits zero n = refl
lows_digits (suc k) n =
    let e : (n % 2 + 16 * lows k (n / 16)) / 16 ≡ lows k (n / 16) = omega arith in
    (omega arith, subst (Digits 1 k) (sym e) (lows_digits k (n / 16)))

-- a number whose digits are 0 and 1 stays the same
lows_same : (k n : ℕ) → Digits 1 k n → lows k n ≡ n
unfolding lows Digits
lows_same zero n d = sym d
lows_same (suc k) n d =
    let e : lows k (n / 16) ≡ n / 16 = lows_same k (n / 16) d.1 in
    let h : n % 16 ≤ 1 = d.0 in
    omega arith

digits_zero : (c k : ℕ) → Digits c k 0
unfolding Digits
digits_zero c zero = refl
digits_zero c (suc k) = (zero-le, digits_zero c k)

pub digits_more : (c k n : ℕ) → Digits c k n → Digits c (suc k) n
unfolding Digits
digits_more c zero n d = subst (Digits c 1) (sym d) (digits_zero c 1)
digits_more c (suc k) n d = (d.0, digits_more c k (n / 16) d.1)

-- the digits of a sum in which nothing is carried
digits_add : (p q k m n : ℕ) → p + q ≤ 15 → Digits p k m → Digits q k n → Digits (p + q) k (m + n)
unfolding Digits
digits_add p q zero m n h d e = omega arith
digits_add p q (suc k) m n h d e =
    let x : m % 16 ≤ p = d.0 in
    let y : n % 16 ≤ q = e.0 in
    let f : m / 16 + n / 16 ≡ (m + n) / 16 = omega arith in
    (omega arith, subst (Digits (p + q) k) f (digits_add p q k (m / 16) (n / 16) h d.1 e.1))

bit_xor : (x y : ℕ) → x < 2 → y < 2 → x ⊕ y ≡ (x + y) % 2
unfolding ◌⊕◌
bit_xor x y hx hy =
    bit_cases (λ x. x ⊕ y ≡ (x + y) % 2) (omega arith) (bit_cases (λ y. 1 ⊕ y ≡ (1 + y) % 2) refl refl y hy) x hx

-- exclusive or works separately on the lowest base-16 digit and on the rest
xor_digit : (x y m n : ℕ) → x < 2 → y < 2 → (x + 16 * m) ⊕ (y + 16 * n) ≡ (x + y) % 2 + 16 * (m ⊕ n)
xor_digit x y m n hx hy =
    let ex : x + 16 * m ≡ m * 2 ^ 4 + x = omega arith in
    let ey : y + 16 * n ≡ n * 2 ^ 4 + y = omega arith in
    let b : (m * 2 ^ 4 + x) ⊕ (n * 2 ^ 4 + y) ≡ (m ⊕ n) * 2 ^ 4 + (x ⊕ y) =
    unfold ◌⊕◌ in xor_block 4 m n x y (omega arith) (omega arith) in
    let e : x ⊕ y ≡ (x + y) % 2 = bit_xor x y hx hy in
    ap₂ ◌⊕◌ ex ey ∙ b ∙ omega arith

lows_add : (p q k m n : ℕ) → p + q ≤ 15 → Digits p k m → Digits q k n → lows k (m + n) ≡ lows k m ⊕ lows k n
unfolding Digits lows ◌⊕◌
lows_add p q zero m n h d e = refl
lows_add p q (suc k) m n h d e =
    let x : m % 16 ≤ p = d.0 in
    let y : n % 16 ≤ q = e.0 in
    let f : (m + n) / 16 ≡ m / 16 + n / 16 = omega arith in
    ap₂ (λ u v. u + 16 * lows k v) (add-mod m n 2) f
    ∙ ap (λ v. (m % 2 + n % 2) % 2 + 16 * v) (lows_add p q k (m / 16) (n / 16) h d.1 e.1)
    ∙ sym (xor_digit (m % 2) (n % 2) (lows k (m / 16)) (lows k (n / 16)) (mod-lt m (lit< tt)) (mod-lt n (lit< tt)))

-- times 16: a digit 0 before the others
digits_shift : (c k n : ℕ) → Digits c k n → Digits c (suc k) (16 * n)
unfolding Digits
digits_shift c k n d = let e : n ≡ 16 * n / 16 = omega arith in (omega arith, subst (Digits c k) e d)

pub lows_shift : (k n : ℕ) → lows (suc k) (16 * n) ≡ 16 * lows k n
unfolding lows
lows_shift k n =
    let e : 16 * n / 16 ≡ n = omega arith in
    let f : 16 * n % 2 ≡ 0 = omega arith in
    ap₂ (λ u v. u + 16 * lows k v) f e ∙ omega arith

-- the product of a digit 0 or 1 and a number
digits_times : (x k n : ℕ) → x ≤ 1 → Digits 1 k n → Digits 1 k (x * n)
digits_times zero k n h d = subst (Digits 1 k) (omega arith) (digits_zero 1 k)
digits_times (suc zero) k n h d = subst (Digits 1 k) (omega arith) d
digits_times (suc (suc x)) k n h d = absurd (omega arith)

digits_extend : (c j k n : ℕ) → Digits c k n → Digits c (j + k) n
digits_extend c zero k n d = rw zero-add d
digits_extend c (suc j) k n d = rw suc-add (digits_more c (j + k) n (digits_extend c j k n d))

-- one step: the lowest base-16 digit of the first factor is 0 or 1
clmul_digit : (a b : ℕ) → a % 16 ≤ 1 → clmul a b ≡ (a % 16) * b ⊕ 16 * clmul (a / 16) b
clmul_digit a b h =
    let e : a / 2 ≡ 2 * (2 * (2 * (a / 16))) = omega arith in
    let f : a % 2 ≡ a % 16 = omega arith in
    clmul_step a b ∙ ap₂ (λ u v. u * b ⊕ 2 * clmul v b) f e
    ∙ ap (λ v. (a % 16) * b ⊕ v) (simp double_clmul (omega arith))

distribute : (q r b : ℕ) → (16 * q + r) * b ≡ r * b + 16 * (q * b)
distribute q r b = omega arith

-- the digits of a * b are at most n, and their lowest bits are the carry-less product
pub record Carryless (n k a b : ℕ) : Type 0 where
  pub small : Digits n k (a * b)
  pub lowest : lows k (a * b) ≡ clmul a b

product_none : (k b : ℕ) → Carryless 0 k 0 b
product_none k b =
    record {
      small = rw zero-mul (digits_zero 0 k);
      lowest = rw zero-mul (lows_same k 0 (digits_zero 1 k)) ∙ sym (zero_clmul b);
    }

product_digit : (n k a b : ℕ) → n ≤ 14 → a % 16 ≤ 1 → Digits 1 (suc k) b → Carryless n k (a / 16) b → Carryless (suc n) (suc k) a b
product_digit n k a b h x e r =
    let f : a * b ≡ (a % 16) * b + 16 * (a / 16 * b) =
    ap (λ v. v * b) (sym (div-add-mod a 16)) ∙ distribute (a / 16) (a % 16) b in
    let p : Digits 1 (suc k) ((a % 16) * b) = digits_times (a % 16) (suc k) b x e in
    let q : Digits n (suc k) (16 * (a / 16 * b)) = digits_shift n k (a / 16 * b) r.small in
    record {
      small = rw f (rw one-add at (digits_add 1 n (suc k) _ _ (omega arith) p q));
      lowest =
          ap (lows (suc k)) f ∙ lows_add 1 n (suc k) _ _ (omega arith) p q
          ∙ ap₂ ◌⊕◌ (lows_same (suc k) _ p) (lows_shift k (a / 16 * b) ∙ ap (λ v. 16 * v) r.lowest)
          ∙ sym (clmul_digit a b x);
    }

-- n digits times m + 1 digits are n + m digits
pub product_carryless : (n m a b : ℕ) → n ≤ 15 → Digits 1 n a → Digits 1 (suc m) b → Carryless n (n + m) a b
unfolding Digits
product_carryless zero m a b h d e = subst (λ v. Carryless 0 (0 + m) v b) (sym d) (product_none (0 + m) b)
product_carryless (suc n) m a b h d e =
    rw suc-add
    (product_digit n (n + m) a b (omega arith) d.0 (rw add-suc at (digits_extend 1 n (suc m) b e))
    (product_carryless n m (a / 16) b (omega arith) d.1 e))
