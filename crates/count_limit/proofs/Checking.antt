-- The refusals of a count and of a released step under their conditions, and the limit as a number
-- (docs/SPECIFICATION.md, 6).
-- `count_checked`: the refusal of a count is 109 where it is above the limit.
-- `count_at_limit`: a count of 1,024 is accepted.
-- `count_past_limit`: a count of 1,025 is refused with 109.
-- `released_checked`: the refusal of a released step is 120 where it is above the count.
use Prim.Native.Nat.{ℕ}
use mathlib.Core.{Path.◌≡◌, Path.refl, List.[], List.◌∷◌}
use native.Mathlib.Omega.{arith}
use lib.Dec.{leb}
use borrow.Author.Tests.{leb-true, le-leb}
use Rattle.binary_field.specs.Checks.{unless, RefusalOf}
use Rattle.binary_field.proofs.RefusalOf.{refusal_unless}
use Rattle.count_limit.specs.{Limit.count_limit, Limit.count_refusal, Limit.released_refusal, Checking.count_check, Checking.released_check}

pub count_checked : (n : ℕ) → RefusalOf (count_check n ∷ []) (count_refusal n)
unfolding count_refusal
count_checked n = refusal_unless (leb n count_limit) 109 (λ e. omega arith) (leb-true n count_limit, le-leb n count_limit)

pub count_at_limit : count_refusal 1024 ≡ 0
unfolding count_refusal count_limit unless
count_at_limit = refl

pub count_past_limit : count_refusal 1025 ≡ 109
unfolding count_refusal count_limit unless
count_past_limit = refl

pub released_checked : (n released : ℕ) → RefusalOf (released_check n released ∷ []) (released_refusal n released)
unfolding released_refusal
released_checked n released = refusal_unless (leb released n) 120 (λ e. omega arith) (leb-true released n, le-leb released n)
