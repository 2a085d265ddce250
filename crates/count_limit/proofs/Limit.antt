-- Counts that are refused, those above the limit with 109; released steps that are, those above the count with 120.
-- `within_limit`: a count up to the limit is accepted.
-- `above_limit`: a count above the limit is refused with 109.
-- `limit_keeps`: a count that is accepted is at most the limit.
-- `released_within`: a released step up to the count is accepted.
-- `released_above`: a released step above the count is refused with 120.
-- `released_keeps`: a released step that is accepted is at most the count.
use Prim.Native.Nat.{ℕ, ◌≤◌, ◌<◌}
use mathlib.Core.Path.{◌≡◌}
use lib.Dec.{lit<}
use borrow.Author.Tests.{leb-true, le-leb, lt-leb}
use Rattle.binary_field.specs.Checks.{unless}
use Rattle.binary_field.proofs.Checks.{unless_zero}
use Rattle.count_limit.specs.Limit.{count_limit, count_refusal, released_refusal}

pub within_limit : (n : ℕ) → n ≤ count_limit → count_refusal n ≡ 0
unfolding count_refusal unless
within_limit n h = rw (le-leb n count_limit h)

pub above_limit : (n : ℕ) → count_limit < n → count_refusal n ≡ 109
unfolding count_refusal unless
above_limit n h = rw (lt-leb n count_limit h)

pub limit_keeps : (n : ℕ) → count_refusal n ≡ 0 → n ≤ count_limit
unfolding count_refusal
limit_keeps n e = leb-true _ _ (unless_zero _ 109 (lit< tt) e)

pub released_within : (n released : ℕ) → released ≤ n → released_refusal n released ≡ 0
unfolding released_refusal unless
released_within n released h = rw (le-leb released n h)

pub released_above : (n released : ℕ) → n < released → released_refusal n released ≡ 120
unfolding released_refusal unless
released_above n released h = rw (lt-leb released n h)

pub released_keeps : (n released : ℕ) → released_refusal n released ≡ 0 → released ≤ n
unfolding released_refusal
released_keeps n released e = leb-true _ _ (unless_zero _ 120 (lit< tt) e)
