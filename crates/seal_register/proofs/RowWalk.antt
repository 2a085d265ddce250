-- Demand 3 of the walk over a lent row (docs/SPECIFICATION.md, 8 and 11), after a list of calls, each by value or in
-- place, on a register that passes its checks, where the accepted calls are commits and releases.
-- `unrefused`: the refusal of a row's classes is 0 where none of them is refused.
-- `row_answered`: where no check fails, the walk answers its end.
-- `row_walk_meets`: the walk from the last seal over the k newest classes of commits is not refused and answers the
-- seal just before the k-th newest commit, for k = 0 the last seal, whatever releases are among them.
-- `row_walk_by_value`: the same of a list of calls by value.
-- `row_walk_answers`: the code's walk over the k newest classes answers 0 and that seal.
use Prim.Native.Nat.{ℕ, ◌≤◌}
use mathlib.Core.{Path.◌≡◌, Path.refl, Path.◌∙◌, Path.ap, Path.subst, List.List}
use native.Mathlib.Omega.{arith}
use lib.{ListN.length, ListN.take, ListN.get_or, Seq.length-take-le}
use Rattle.lists.specs.Lists.{All, none, more}
use Rattle.lists.proofs.Lists.{all_take}
use Rattle.jacobian.specs.{Checks.◌or_else◌, Curves.curve_refusal, Classes.class_refusal, Answer.accepted, Answer.verdict_of, Answer.Result, declared.Curve.Curve, declared.Class.Class}
use Rattle.count_limit.specs.Limit.{count_limit}
use Rattle.count_limit.proofs.Limit.{within_limit}
use Rattle.history.specs.{Register.register_refusal, Register.sealed, Calls.Call, Calls.last, Calls.newest, Calls.classes, Calls.NoUndos, Calls.seals_met, Calls.seals_back, Calls.walk_back, declared.Register.Register}
use Rattle.history.proofs.{Registers.Passes, Registers.register_passes, TakingBack.last_curve, Preserved.last_passes, Preserved.accepted_classes, WalkingBack.walk_ends, WalkingBack.accepted_few}
use Rattle.seal_register.specs.{InPlace.RecordedCall, InPlace.calls, InPlace.Session, InPlace.left_by, InPlace.newest_recorded, InPlace.seals_recorded, RowWalk.classes_refusal, RowWalk.row_refusal, RowWalk.reached, RowWalk.row_walk_answer, declared.walk.RowWalk.RowWalk}
use Rattle.seal_register.proofs.{Answer.verdict_number, InPlace.as_by_value, InPlace.newest_is}

-- ---- the walk's answer where no check fails
pub unrefused : (c : Curve) {P : Class → Type 0} → ((a : Class) → P a → class_refusal c a ≡ 0) → {ops : List Class} → All P ops → classes_refusal c ops ≡ 0
unfolding classes_refusal ◌or_else◌
unrefused c p none = refl
unrefused c p (more {a = a} h hs) = rw (p a h) (unrefused c p hs)

pub row_answered : (c : Curve) (s : Class) (ops : List Class) → curve_refusal c ≡ 0 → class_refusal c s ≡ 0 → length ops ≤ count_limit → classes_refusal c ops ≡ 0
    → row_walk_answer c s ops ≡ record { outcome = accepted; class = walk_back c s ops }
unfolding row_walk_answer row_refusal sealed ◌or_else◌
row_answered c s ops hc hs hl ho = rw (hc, within_limit (length ops) hl, hs, ho)

-- ---- with all calls by value
module _ (r : Register) (cs : List Call) (no_undos : NoUndos (newest r cs)) (ok : register_refusal r ≡ 0) where
  passes : Passes (last r cs)
  passes = register_passes (last r cs) (last_passes r cs ok)

  within : (k : ℕ) → k ≤ length (classes (newest r cs)) → length (take k (classes (newest r cs))) ≤ count_limit
  within k h =
      let e : length (take k (classes (newest r cs))) ≡ k = length-take-le k (classes (newest r cs)) h in
      let f : length (classes (newest r cs)) ≤ count_limit = accepted_few r cs no_undos in
      omega arith

  pub row_walk_by_value : (k : ℕ) → k ≤ length (classes (newest r cs))
      → row_walk_answer r.curve (last r cs).seal (take k (classes (newest r cs))) ≡ record { outcome = accepted; class = get_or (seals_back r cs) k (last r cs).seal }
  row_walk_by_value k h =
      row_answered r.curve (last r cs).seal (take k (classes (newest r cs)))
      (subst (λ c. curve_refusal c ≡ 0) (last_curve r cs) passes.curve_passes)
      (subst (λ c. class_refusal c (last r cs).seal ≡ 0) (last_curve r cs) passes.seal_passes)
      (within k h)
      (unrefused r.curve (λ a h. h) (all_take k (accepted_classes r cs)))
      ∙ ap (λ a. record { outcome = accepted; class = a }) (walk_ends r cs no_undos k h)

-- ---- with each call by value or in place
-- the number and the seal of an answer
found : (w : RowWalk) (s : Class) → reached w ≡ record { outcome = accepted; class = s } → (w.refusal ≡ 0) × (w.seal ≡ s)
unfolding verdict_of
found w s e = (verdict_number w.refusal 0 (ap (λ (x : Result). x.outcome) e), ap (λ (x : Result). x.class) e)

module _ (r : Register) (ms : List RecordedCall) (s : Session r ms) (no_undos : NoUndos (newest_recorded r ms)) (ok : register_refusal r ≡ 0) where
  pub row_walk_meets : (k : ℕ) → k ≤ length (classes (newest_recorded r ms))
      → row_walk_answer r.curve (left_by r ms).seal (take k (classes (newest_recorded r ms))) ≡ record { outcome = accepted; class = get_or (seals_recorded r ms) k (left_by r ms).seal }
  unfolding seals_recorded
  row_walk_meets =
      as_by_value r ms s
      (λ es t. (k : ℕ) → k ≤ length (classes es) → row_walk_answer r.curve t.seal (take k (classes es)) ≡ record { outcome = accepted; class = get_or (seals_met t es) k t.seal })
      (row_walk_by_value r (calls ms) (rw (newest_is r ms s) at no_undos) ok)

  pub row_walk_answers : (k : ℕ) → k ≤ length (classes (newest_recorded r ms))
      → (w : RowWalk) → reached w ≡ row_walk_answer r.curve (left_by r ms).seal (take k (classes (newest_recorded r ms)))
      → (w.refusal ≡ 0) × (w.seal ≡ get_or (seals_recorded r ms) k (left_by r ms).seal)
  row_walk_answers k h w e = found w _ (e ∙ row_walk_meets k h)
