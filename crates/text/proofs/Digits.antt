-- Texts that depend on a test, by the outcome of the test.
-- `digits_none`, `digits_one`, `digits_more`: the digits of a number for no digit, for one and for more.
-- `row_0`, `row_1`, `row_2`, `row_3`: the text of a row's coefficients below x^n, for n = 0, 1, 2 and more.
use Prim.Native.Nat.{ℕ, zero, suc, ◌-◌, ◌/◌, ◌%◌, ◌≤◌, ◌<◌}
use mathlib.Core.Path.{◌≡◌, refl}
use mathlib.Core.List.{List, [], ◌∷◌, ◌++◌}
use native.Mathlib.Omega.{arith}
use lib.ListN.{get_or}
use Rattle.std.proofs.Math.Nat.{mod-eq_of_lt}
use borrow.Author.Tests.{lt-ltb, le-ltb}
use Rattle.text.specs.Text.{digit, digits, hexadecimal, row_text}

pub digits_none : (base k n : ℕ) → k ≡ 0 → digits base k n ≡ []
unfolding digits
digits_none base k n z = rw z

pub digits_one : (base k n : ℕ) → (k ≡ 0 → ⊥) → n < base → digits base k n ≡ digit (n % base) ∷ []
unfolding digits
digits_one base zero n some small = absurd (some refl)
digits_one base (suc k) n some small =
    let itself : n % base ≡ n = mod-eq_of_lt small in
    rw (lt-ltb n base small, itself)

pub digits_more : (base k n : ℕ) → (k ≡ 0 → ⊥) → base ≤ n → digits base k n ≡ digits base (k - 1) (n / base) ++ digit (n % base) ∷ []
unfolding digits
digits_more base zero n some large = absurd (some refl)
digits_more base (suc k) n some large = let front : suc k - 1 ≡ k = omega arith in rw (le-ltb n base large, front)

module _ (n : ℕ) (r : List ℕ) where
  pub row_0 : n ≡ 0 → row_text n r ≡ []
  unfolding row_text
  row_0 e = rw e

  pub row_1 : n ≡ 1 → row_text n r ≡ hexadecimal (get_or r 0 0)
  unfolding row_text
  row_1 e = rw e

  pub row_2 : n ≡ 2 → row_text n r ≡ hexadecimal (get_or r 1 0) ++ 0x2C ∷ hexadecimal (get_or r 0 0)
  unfolding row_text
  row_2 e = rw e

pub row_3 : (n : ℕ) (r : List ℕ) → 2 < n → row_text n r ≡ hexadecimal (get_or r 2 0) ++ (0x2C ∷ (hexadecimal (get_or r 1 0) ++ 0x2C ∷ hexadecimal (get_or r 0 0)))
unfolding row_text
row_3 zero r h = absurd (omega arith)
row_3 (suc zero) r h = absurd (omega arith)
row_3 (suc (suc zero)) r h = absurd (omega arith)
row_3 (suc (suc (suc n))) r h = refl
