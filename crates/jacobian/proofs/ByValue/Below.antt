-- What the tests of all numbers of a row decide: that each is below a bound, and that each is 0.
use Prim.Native.Nat.{ℕ, zero, suc, ◌+◌, ◌≤◌, ◌<◌}
use mathlib.Core.Path.{◌≡◌, refl, sym, ◌∙◌}
use mathlib.Core.{Bool.Bool, Bool.true, Bool.false, Bool.and-false, List.List, List.[], List.◌∷◌}
use native.Mathlib.Omega.{arith}
use native.Mathlib.Decide.{dec_le}
use lib.ListN.{get_or, length, drop, get_or-eq_default}
use lib.Seq.{get_or-drop}
use borrow.Author.Tests.{le-ltb, eq-eqb}
use Rattle.std.specs.Bool.{MatchBool}
use Rattle.std.specs.List.{AllWithin, HoldsAt}
use Rattle.binary_field.specs.Answer.{below}
pub use Rattle.class_rows.proofs.Tests.{below_all}
use Rattle.jacobian.specs.{Checks.blank, Classes.padded}
use Rattle.jacobian.proofs.ByValue.Checks.{blank_at}

-- ---- numbers below a bound

below_fails : (m : ℕ) (r : List ℕ) (i : ℕ) → i < length r → m ≤ get_or r i 0 → below m r ≡ false
unfolding below
below_fails m [] i h k = absurd (omega arith)
below_fails m (n ∷ r) zero h k = rw (le-ltb n m k)
below_fails m (n ∷ r) (suc i) h k = rw (below_fails m r i (omega arith) k, and-false)

pub below_decided : (m : ℕ) (r : List ℕ) (t : Bool)
    → MatchBool t (AllWithin (λ n. n < m) r 0 (length r)) ((k : ℕ) × (k < length r) × HoldsAt (λ n. m ≤ n) r k) → t ≡ below m r
below_decided m r true h = sym (below_all m r (λ j k. h j 0 (omega arith) k))
below_decided m r false h = sym (below_fails m r h.0 h.1 (h.2 0))

-- ---- numbers that are 0

all_blank : (r : List ℕ) → ((i : ℕ) → get_or r i 0 ≡ 0) → blank r ≡ true
unfolding blank
all_blank [] h = refl
all_blank (n ∷ r) h = rw (eq-eqb n 0 (h 0)) (all_blank r (λ i. h (suc i)))

pub from_blank : (n : ℕ) (r : List ℕ) → ((i : ℕ) → n ≤ i → get_or r i 0 ≡ 0) → blank (drop n r) ≡ true
from_blank n r h = all_blank (drop n r) (λ i. get_or-drop n r i 0 ∙ h (n + i) (omega arith))

blank_decided : (r : List ℕ) (t : Bool)
    → MatchBool t (AllWithin (λ n. n ≡ 0) r 0 (length r)) ((k : ℕ) × (k < length r) × HoldsAt (λ n. ¬ (n ≡ 0)) r k) → t ≡ blank r
blank_decided r true h = sym (all_blank r (λ i. at i (dec_le (length r) i)))
  where
    at : (i : ℕ) → Dec (length r ≤ i) → get_or r i 0 ≡ 0
    at i (yes l) = get_or-eq_default r 0 l
    at i (no l) = h i 0 (omega arith) (omega arith)
blank_decided r false h = go (blank r) refl
  where
    go : (b : Bool) → blank r ≡ b → false ≡ blank r
    go true e = absurd (h.2 0 (blank_at r e h.0))
    go false e = sym e

pub padded_decided : (n : ℕ) (r : List ℕ) (t : Bool) → length r ≡ 3
    → MatchBool t (AllWithin (λ n. n ≡ 0) (drop n r) 0 (length (drop n r))) ((k : ℕ) × (k < length (drop n r)) × HoldsAt (λ n. ¬ (n ≡ 0)) (drop n r) k)
    → t ≡ padded n r
unfolding padded
padded_decided n r t l h = rw (eq-eqb (length r) 3 l) (blank_decided (drop n r) t h)
