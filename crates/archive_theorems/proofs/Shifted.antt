-- Readings with shifted offsets, and tests that agree on two pairs of numbers.
use Prim.Native.Nat.{ℕ, zero, suc, ◌+◌, ◌≤◌, ◌<◌}
use mathlib.Core.Path.{◌≡◌, refl}
use mathlib.Core.Bool.{Bool, true, false}
use lib.Dec.{leb}
use borrow.Author.Tests.{le-leb, lt-leb, leb-true, leb-false}
use Rattle.stored_form.specs.{Reading.Reading, Reading.found, Reading.refused, Reading.checked, Reading.◌then◌}
use Rattle.archive_theorems.specs.Places.{shift}

pub checked_shift : {A : Type 0} (k n : ℕ) (a : A) (next : ℕ) → checked n (found a (k + next)) ≡ shift k (checked n (found a next))
unfolding shift checked
checked_shift k zero a next = refl
checked_shift k (suc n) a next = refl

pub then_shift : {A B : Type 0} (k : ℕ) (x : Reading A) {y : Reading A} (F G : A → ℕ → Reading B) → y ≡ shift k x →
    ((a : A) (n : ℕ) → G a (k + n) ≡ shift k (F a n)) → (y then G) ≡ shift k (x then F)
unfolding shift ◌then◌
then_shift k (found a n) F G e h = rw e (h a n)
then_shift k (refused n) F G e h = rw e

pub same_test : (a b c d : ℕ) → (c ≤ d → a ≤ b) → (d < c → b < a) → leb a b ≡ leb c d
same_test a b c d most less = go (leb c d) refl
  where
    go : (t : Bool) → leb c d ≡ t → leb a b ≡ t
    go true h = le-leb a b (most (leb-true c d h))
    go false h = lt-leb a b (less (leb-false c d h))
