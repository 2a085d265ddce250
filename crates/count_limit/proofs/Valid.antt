-- Demand 1 of a count and of a released step: their refusals are 0 or a listed number (`count_refusal_valid`,
-- `released_refusal_valid`).
use Prim.Native.Nat.{ℕ}
use mathlib.Core.Path.{refl}
use Rattle.jacobian.specs.Refusals.{refusals, listed, IsRefusal, ValidRefusal}
use Rattle.jacobian.proofs.Refusals.{valid_unless}
use Rattle.count_limit.specs.Limit.{count_refusal, released_refusal}

pub count_refusal_valid : (n : ℕ) → ValidRefusal (count_refusal n)
unfolding count_refusal IsRefusal refusals listed
count_refusal_valid n = valid_unless _ 109 refl

pub released_refusal_valid : (n released : ℕ) → ValidRefusal (released_refusal n released)
unfolding released_refusal IsRefusal refusals listed
released_refusal_valid n released = valid_unless _ 120 refl
