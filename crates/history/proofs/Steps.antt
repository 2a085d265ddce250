-- Walks by steps back.
-- `step_is`: a step from an accepted seal over an accepted class is accepted, and answers the seal before.
-- `steps_accepted`: no step over accepted classes is refused.
-- `steps_walk`: where no step is refused, the seals of the walk are the first seal and those that the steps answer.
-- `walk_at`: the walk over the first k elements ends in its seal at index k.
-- `steps_take`: the steps over the first k classes are the first k steps.
use Prim.Native.Nat.{ℕ, zero, suc, ◌≤◌}
use mathlib.Core.Path.{◌≡◌, refl, sym, ◌∙◌, ap, subst}
use mathlib.Core.List.{List, [], ◌∷◌, map}
use native.Mathlib.Omega.{arith}
use lib.ListN.{length, take, get_or}
use Rattle.lists.specs.{Lists.All, Lists.none, Lists.more, Walk.foldl, Walk.walk}
use Rattle.jacobian.specs.{Answer.accepted, Answer.Accepts, Answer.Result, Answer.result, Answer.refusal_of_two, Answer.subtract_and_halve_answer}
use Rattle.jacobian.specs.declared.{Curve.Curve, Class.Class}
use Rattle.jacobian.proofs.Calls.{accepts_two}
use Rattle.history.specs.{Register.undo_seal, Register.sealed, Calls.steps_back}
use Rattle.history.proofs.{Seals.undo_sound, Answers.subtract_and_halve_sealed}

-- one step of a walk back
abbrev step_back : Curve → Class → Class → Result
step_back c s a = result (subtract_and_halve_answer c s a)

-- ---- a walk over accepted classes
module _ {c : Curve} where
  pub step_is : {seal a : Class} → Accepts c seal → Accepts c a → result (subtract_and_halve_answer c seal a) ≡ record { outcome = accepted; class = undo_seal c seal a }
  unfolding sealed
  step_is {seal} {a} hs ha = subtract_and_halve_sealed c seal a ∙ ap (λ (n : ℕ). sealed n (undo_seal c seal a)) (accepts_two c hs ha)

  pub steps_accepted : {seal : Class} (ops : List Class) → Accepts c seal → All (Accepts c) ops → All (λ x. x.outcome ≡ accepted) (steps_back c seal ops)
  unfolding steps_back
  steps_accepted [] hs none = none
  steps_accepted {seal} (a ∷ ops) hs (more ha has) =
      let e = step_is hs ha in
      more (ap (λ (x : Result). x.outcome) e)
      (subst (λ (b : Class). All (λ x. x.outcome ≡ accepted) (steps_back c b ops)) (sym (ap (λ (x : Result). x.class) e)) (steps_accepted {seal = undo_seal c seal a} ops (undo_sound hs ha) has))

-- ---- a walk whose steps are not refused
sealed_accepted : (n : ℕ) (s : Class) → (sealed n s).outcome ≡ accepted → (sealed n s).class ≡ s
unfolding sealed
sealed_accepted zero s e = refl
sealed_accepted (suc n) s e = cc

step_accepted : (c : Curve) (s a : Class) → (step_back c s a).outcome ≡ accepted → (step_back c s a).class ≡ undo_seal c s a
step_accepted c s a e =
    let p = subtract_and_halve_sealed c s a in
    ap (λ (x : Result). x.class) p ∙ sealed_accepted (refusal_of_two c s a) (undo_seal c s a) (sym (ap (λ (x : Result). x.outcome) p) ∙ e)

pub steps_walk : (c : Curve) (s : Class) (ops : List Class) → All (λ x. x.outcome ≡ accepted) (steps_back c s ops)
    → walk (undo_seal c) s ops ≡ s ∷ map (λ x. x.class) (steps_back c s ops)
unfolding steps_back walk
steps_walk c s [] none = refl
steps_walk c s (a ∷ ops) (more h hs) =
    ap (λ x. s ∷ walk (undo_seal c) x ops) (sym (step_accepted c s a h))
    ∙ ap (λ l. s ∷ l) (steps_walk c (step_back c s a).class ops hs)

-- ---- the first part of a walk
pub walk_at : {X Y : Type 0} (rule : X → Y → X) (s : X) (l : List Y) (k : ℕ) (x : X) → k ≤ length l → foldl rule s (take k l) ≡ get_or (walk rule s l) k x
unfolding foldl walk
walk_at rule s [] zero x h = refl
walk_at rule s (c ∷ l) zero x h = refl
walk_at rule s [] (suc k) x h = absurd (omega arith)
walk_at rule s (c ∷ l) (suc k) x h = walk_at rule (rule s c) l k x (omega arith)

pub steps_take : (c : Curve) (s : Class) (ops : List Class) (k : ℕ) → steps_back c s (take k ops) ≡ take k (steps_back c s ops)
unfolding steps_back
steps_take c s [] zero = refl
steps_take c s (a ∷ ops) zero = refl
steps_take c s [] (suc k) = refl
steps_take c s (a ∷ ops) (suc k) = ap (λ l. step_back c s a ∷ l) (steps_take c (step_back c s a).class ops k)
