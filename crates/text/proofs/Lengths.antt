-- The largest length of a text.
-- `decimal_short`: a number in decimal has at most 20 bytes.
-- `class_short`: a class has at most 122 bytes.
-- `refusal_short`: a refusal has at most 28 bytes.
use Prim.Native.Nat.{ℕ, zero, suc, ◌/◌, ◌%◌, ◌≤◌}
use mathlib.Core.Bool.{Bool, true, false, cond}
use mathlib.Core.List.{List, [], ◌∷◌, ◌++◌}
use native.Mathlib.Omega.{arith}
use lib.Dec.{ltb}
use lib.ListN.{length, get_or, length-append}
use Rattle.text.specs.Text.{digit, digits, decimal_digits, hexadecimal_digits, decimal, hexadecimal, row_text, class_text, refusal_text}

-- ---- numbers

digits_short : (base k n : ℕ) → length (digits base k n) ≤ k
unfolding digits
digits_short base zero n = omega arith
digits_short base (suc k) n = go (ltb n base) (digits_short base k (n / base))
  where
    go : (b : Bool) → length (digits base k (n / base)) ≤ k → length (cond b (digit n ∷ []) (digits base k (n / base) ++ digit (n % base) ∷ [])) ≤ suc k
    go true h = omega arith
    go false h = omega (arith, h, length-append (digits base k (n / base)) (digit (n % base) ∷ []))

pub decimal_short : (n : ℕ) → length (decimal n) ≤ decimal_digits
unfolding decimal
decimal_short n = digits_short 10 decimal_digits n

hexadecimal_short : (n : ℕ) → length (hexadecimal n) ≤ hexadecimal_digits
unfolding hexadecimal
hexadecimal_short n = digits_short 16 hexadecimal_digits n

-- ---- a class

two_short : (r : List ℕ) → length (hexadecimal (get_or r 1 0) ++ 0x2C ∷ hexadecimal (get_or r 0 0)) ≤ 33
two_short r = omega (arith, length-append (hexadecimal (get_or r 1 0)) (0x2C ∷ hexadecimal (get_or r 0 0)), hexadecimal_short (get_or r 1 0), hexadecimal_short (get_or r 0 0))

row_short : (n : ℕ) (r : List ℕ) → length (row_text n r) ≤ 50
unfolding row_text
row_short zero r = omega arith
row_short (suc zero) r = omega (arith, hexadecimal_short (get_or r 0 0))
row_short (suc (suc zero)) r = omega (arith, two_short r)
row_short (suc (suc (suc n))) r =
    let two : List ℕ = hexadecimal (get_or r 1 0) ++ 0x2C ∷ hexadecimal (get_or r 0 0) in
    omega (arith, length-append (hexadecimal (get_or r 2 0)) (0x2C ∷ two), hexadecimal_short (get_or r 2 0), two_short r)

pub class_short : (degree : ℕ) (u v : List ℕ) (n : ℕ) → length (class_text degree u v n) ≤ 122
unfolding class_text
class_short degree u v n =
    let left : List ℕ = 0x3A ∷ row_text n u in
    omega (arith, length-append (decimal degree ++ left) (0x3A ∷ row_text n v), length-append (decimal degree) left, decimal_short degree, row_short n u, row_short n v)

-- ---- a refusal

pub refusal_short : (n : ℕ) → length (refusal_text n) ≤ 28
unfolding refusal_text
refusal_short n = omega (arith, decimal_short n)
