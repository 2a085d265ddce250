-- The digits that a report prints of a number.
-- `parse_of_digits`: they parse to the number.
-- `parse_decimal`, `parse_hexadecimal`: twenty decimal and sixteen hexadecimal digits suffice for every 64-bit number.
-- `no_leading_zero`: a number other than 0 is printed without leading zeros.
use Prim.Native.Nat.{ℕ, zero, suc, ◌+◌, ◌*◌, ◌/◌, ◌%◌, ◌^◌, ◌≤◌, ◌<◌}
use mathlib.Core.Path.{◌≡◌, refl, ap, ap₂, ◌∙◌}
use mathlib.Core.Bool.{Bool, true, false, cond}
use mathlib.Core.List.{List, [], ◌∷◌, ◌++◌}
use native.Mathlib.Nat.{zero-mul, one-mul, pow-zero, pow-suc, mod-lt, div-lt_iff_lt-mul, le-div_iff_mul-le, div-add-mod', lt_of_lt_of_le}
use native.Mathlib.Omega.{arith}
use lib.Dec.{ltb, lit<, lit≤}
use borrow.Author.Tests.{lt-ltb, le-ltb, ltb-true, ltb-false}
use Rattle.text.specs.Text.{digit, digits, decimal, hexadecimal}
use Rattle.report_theorems.specs.Numerals.{parse_digit, parse_from, parse_digits, Begins}

digit_back : (n : ℕ) → n < 16 → parse_digit (digit n) ≡ n
unfolding parse_digit digit
digit_back n h = go (ltb n 10) refl
  where
    go : (b : Bool) → ltb n 10 ≡ b → parse_digit (cond b (0x30 + n) (0x57 + n)) ≡ n
    go true e = rw (lt-ltb (0x30 + n) 0x61 (omega (arith, ltb-true n 10 e))) (omega arith)
    go false e = rw (le-ltb (0x57 + n) 0x61 (omega (arith, ltb-false n 10 e))) (omega arith)

parse_snoc : (base n : ℕ) (bs : List ℕ) (b : ℕ) → parse_from base n (bs ++ b ∷ []) ≡ parse_from base n bs * base + parse_digit b
unfolding parse_from
parse_snoc base n [] b = refl
parse_snoc base n (x ∷ bs) b = parse_snoc base (n * base + parse_digit x) bs b

digit_some : (n : ℕ) → 0 < n → digit n ≡ 0x30 → ⊥
unfolding digit
digit_some n pos e = go (ltb n 10) e
  where
    go : (b : Bool) → cond b (0x30 + n) (0x57 + n) ≡ 0x30 → ⊥
    go true e = omega arith
    go false e = omega arith

module _ (base : ℕ) (least : 2 ≤ base) (most : base ≤ 16) where
  more_digits : (k n : ℕ) → n < base ^ suc k → base ≤ n → 0 < k
  more_digits zero n h le = absurd (omega (arith, rw (pow-suc, pow-zero, one-mul) at h))
  more_digits (suc k) n h le = omega arith

  one_more : (k n : ℕ) → n < base ^ suc k → (0 < k → n / base < base ^ k → parse_digits base (digits base k (n / base)) ≡ n / base) →
      parse_digits base (digits base (suc k) n) ≡ n
  unfolding parse_digits parse_from digits
  one_more k n h rest = go (ltb n base) refl
    where
      go : (b : Bool) → ltb n base ≡ b → parse_from base 0 (cond b (digit n ∷ []) (digits base k (n / base) ++ digit (n % base) ∷ [])) ≡ n
      go true e = omega (arith, digit_back n (omega (arith, ltb-true n base e)), zero-mul base)
      go false e =
          let le : base ≤ n = ltb-false n base e in
          let low : n / base < base ^ k = (div-lt_iff_lt-mul {k = base} (omega arith)).1 (rw pow-suc at h) in
          let small : n % base < base = mod-lt n (omega arith) in
          parse_snoc base 0 (digits base k (n / base)) (digit (n % base))
          ∙ ap₂ (λ (x y : ℕ). x * base + y) (rest (more_digits k n h le) low) (digit_back (n % base) (omega arith))
          ∙ div-add-mod' n base

  pub parse_of_digits : (k n : ℕ) → 0 < k → n < base ^ k → parse_digits base (digits base k n) ≡ n
  parse_of_digits zero n pos h = absurd (omega arith)
  parse_of_digits (suc k) n pos h = one_more k n h (λ p l. parse_of_digits k (n / base) p l)

  begins_more : (k n : ℕ) → 0 < n → n < base ^ suc k → (0 < n / base → n / base < base ^ k → Begins (digits base k (n / base))) → Begins (digits base (suc k) n)
  unfolding digits
  begins_more k n pos h rest = go (ltb n base) refl
    where
      go : (b : Bool) → ltb n base ≡ b → Begins (cond b (digit n ∷ []) (digits base k (n / base) ++ digit (n % base) ∷ []))
      go true e = (digit n, [], refl, digit_some n pos)
      go false e =
          let le : base ≤ n = ltb-false n base e in
          let some : 0 < n / base = (le-div_iff_mul-le {k = base} {x = 1} (omega arith)).1 (omega arith) in
          let low : n / base < base ^ k = (div-lt_iff_lt-mul {k = base} (omega arith)).1 (rw pow-suc at h) in
          let f = rest some low in
          (f.0, f.1 ++ digit (n % base) ∷ [], ap (λ (l : List ℕ). l ++ digit (n % base) ∷ []) f.2, f.3)

  pub no_leading_zero : (k n : ℕ) → 0 < n → n < base ^ k → Begins (digits base k n)
  no_leading_zero zero n pos h = absurd (omega (arith, rw pow-zero at h))
  no_leading_zero (suc k) n pos h = begins_more k n pos h (λ p l. no_leading_zero k (n / base) p l)

pub parse_decimal : (n : ℕ) → n < 2 ^ 64 → parse_digits 10 (decimal n) ≡ n
unfolding decimal
parse_decimal n h = parse_of_digits 10 (lit≤ tt) (lit≤ tt) _ n (lit< tt) (lt_of_lt_of_le h (lit≤ tt))

pub parse_hexadecimal : (n : ℕ) → n < 2 ^ 64 → parse_digits 16 (hexadecimal n) ≡ n
unfolding hexadecimal
parse_hexadecimal n h = parse_of_digits 16 (lit≤ tt) (lit≤ tt) _ n (lit< tt) (lt_of_lt_of_le h (lit≤ tt))
