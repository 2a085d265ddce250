-- Texts cut at a byte, and bytes that a text is without.
-- `before_at`, `after_at`: what stands before and after the first of a byte.
-- `before_all`, `after_all`: the same where there is none.
-- `printable_without`: printable bytes are without 0x0A.
-- `end`, `blank`, `comma`, `colon`: no digit is one of these.
-- `decimal_without`, `hexadecimal_without`, `row_without`, `class_without`: so the texts of numbers, rows and classes
--   are without them.
use Prim.Native.Nat.{ℕ, zero, suc, ◌+◌, ◌/◌, ◌%◌, ◌≤◌, ◌<◌}
use mathlib.Core.Path.{◌≡◌, refl, ap}
use mathlib.Core.Bool.{Bool, true, false, cond, ◌&&◌}
use mathlib.Core.List.{List, [], ◌∷◌, ◌++◌}
use native.Mathlib.Omega.{arith}
use lib.Dec.{ltb, leb, lit<}
use lib.ListN.{get_or}
use borrow.Author.Tests.{eq-eqb, ne_eqb, ltb-true, ltb-false, leb-true}
use Rattle.lists.specs.Lists.{none, more}
use Rattle.lists.proofs.Lists.{all_append}
use Rattle.jacobian.proofs.ByValue.Checks.{both}
use Rattle.stored_form.specs.Fields.{printable}
use Rattle.text.specs.Text.{digit, digits, decimal, hexadecimal, row_text, class_text}
use Rattle.report_theorems.specs.Parse.{before, after, Without}

-- ---- up to a byte, and after it

module _ (b : ℕ) where
  pub before_at : {l : List ℕ} (m : List ℕ) → Without b l → before b (l ++ b ∷ m) ≡ l
  unfolding before
  before_at m none = rw (eq-eqb b b refl)
  before_at m (more {a = x} {l = l} h r) = rw (ne_eqb x b h) (ap (λ (t : List ℕ). x ∷ t) (before_at m r))

  pub after_at : {l : List ℕ} (m : List ℕ) → Without b l → after b (l ++ b ∷ m) ≡ m
  unfolding after
  after_at m none = rw (eq-eqb b b refl)
  after_at m (more {a = x} {l = l} h r) = rw (ne_eqb x b h) (after_at m r)

  pub before_all : {l : List ℕ} → Without b l → before b l ≡ l
  unfolding before
  before_all none = refl
  before_all (more {a = x} {l = l} h r) = rw (ne_eqb x b h) (ap (λ (t : List ℕ). x ∷ t) (before_all r))

  pub after_all : {l : List ℕ} → Without b l → after b l ≡ []
  unfolding after
  after_all none = refl
  after_all (more {a = x} {l = l} h r) = rw (ne_eqb x b h) (after_all r)

-- ---- printable bytes

pub printable_without : (l : List ℕ) → printable l ≡ true → Without 0x0A l
unfolding printable
printable_without [] h = none
printable_without (x ∷ l) h =
    let p = both (leb 0x20 x && leb x 0x7E) (printable l) h in
    let low : 0x20 ≤ x = leb-true 0x20 x (both (leb 0x20 x) (leb x 0x7E) p.0).0 in
    more {a = x} (λ e. omega (arith, e, low)) (printable_without l p.1)

-- ---- bytes that no digit is

-- no digit is b
pub record NoDigit (b : ℕ) : Type 0 where
  pub apart : (n : ℕ) → ¬ (digit n ≡ b)

no_digit : (b : ℕ) → ¬ ((0x30 ≤ b) × (b ≤ 0x39)) → b < 0x61 → NoDigit b
unfolding digit
no_digit b outside low = record { apart = λ n. go n (ltb n 10) refl }
  where
    go : (n : ℕ) (t : Bool) → ltb n 10 ≡ t → ¬ (cond t (0x30 + n) (0x57 + n) ≡ b)
    go n true e h = outside (omega (arith, h), omega (arith, h, ltb-true n 10 e))
    go n false e h = omega (arith, h, low, ltb-false n 10 e)

pub end : NoDigit 0x0A
end = no_digit 0x0A (λ h. omega (arith, h.0)) (lit< tt)

pub blank : NoDigit 0x20
blank = no_digit 0x20 (λ h. omega (arith, h.0)) (lit< tt)

pub comma : NoDigit 0x2C
comma = no_digit 0x2C (λ h. omega (arith, h.0)) (lit< tt)

pub colon : NoDigit 0x3A
colon = no_digit 0x3A (λ h. omega (arith, h.1)) (lit< tt)

module _ {b : ℕ} (h : NoDigit b) where
  digits_without : (base k n : ℕ) → Without b (digits base k n)
  unfolding digits
  digits_without base zero n = none
  digits_without base (suc k) n = go (ltb n base) (digits_without base k (n / base))
    where
      go : (t : Bool) → Without b (digits base k (n / base)) → Without b (cond t (digit n ∷ []) (digits base k (n / base) ++ digit (n % base) ∷ []))
      go true r = more (h.apart n) none
      go false r = all_append r (more (h.apart (n % base)) none)

  pub decimal_without : (n : ℕ) → Without b (decimal n)
  unfolding decimal
  decimal_without n = digits_without 10 _ n

  pub hexadecimal_without : (n : ℕ) → Without b (hexadecimal n)
  unfolding hexadecimal
  hexadecimal_without n = digits_without 16 _ n

  pub row_without : ¬ (0x2C ≡ b) → (n : ℕ) (r : List ℕ) → Without b (row_text n r)
  unfolding row_text
  row_without s zero r = none
  row_without s (suc zero) r = hexadecimal_without (get_or r 0 0)
  row_without s (suc (suc zero)) r = all_append (hexadecimal_without (get_or r 1 0)) (more s (hexadecimal_without (get_or r 0 0)))
  row_without s (suc (suc (suc n))) r =
      all_append (hexadecimal_without (get_or r 2 0)) (more s (all_append (hexadecimal_without (get_or r 1 0)) (more s (hexadecimal_without (get_or r 0 0)))))

  pub class_without : ¬ (0x2C ≡ b) → ¬ (0x3A ≡ b) → (degree : ℕ) (u v : List ℕ) (n : ℕ) → Without b (class_text degree u v n)
  unfolding class_text
  class_without s t degree u v n = all_append (all_append (decimal_without degree) (more t (row_without s n u))) (more t (row_without s n v))
