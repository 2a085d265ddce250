-- What holds of registers and classes along a list of calls (docs/SPECIFICATION.md, 11).
-- `last_passes`: a register that passes its checks still does so after a list of calls.
-- `accepted_class`: where a step is accepted, the register passes its checks and the class is accepted.
-- `accepted_step`: an accepted step leaves a register that passes its checks, and the other step returns the one given.
-- `accepted_class_reduced`: the class of an accepted step stands for a reduced class of the register's curve.
-- `accepted_classes`: no check refuses a class of the accepted calls of a list.
-- `classes_accept`: on an accepted curve classes that no check refuses are accepted.
-- `operations_accept`: so are those of the accepted calls, in order of time, on a register that passes its checks.
-- `first_passes`: where a call of a list is accepted, the first register passes its checks.
-- `none_or_passes`: what holds of no calls, and of a list's accepted calls where the first register passes its checks,
-- holds of the accepted calls of any list.
use Prim.Native.Nat.{◌<◌}
use mathlib.Core.Path.{◌≡◌, refl, sym, subst}
use mathlib.Core.List.{List, [], ◌∷◌}
use native.Mathlib.Omega.{arith}
use lib.ListN.{length, length-reverse}
use Rattle.lists.specs.Lists.{All, none, more}
use Rattle.jacobian.specs.{Curves.curve_refusal, Membership.ClassOn, Classes.class_refusal, Answer.Verdict, Answer.accepted, Answer.refused, Answer.Accepts, declared.Curve.Curve, declared.Class.Class}
use Rattle.jacobian.proofs.{Representation.accepts_both, Acceptance.membership_iff, Acceptance.of_accepts}
use Rattle.history.specs.Register.{register_refusal, other, step_answer}
use Rattle.history.specs.Machine as definition
use Rattle.history.specs.Calls.{Call, step, release, answer, registers, Event, run, last, newest, classes, operations}
use Rattle.history.specs.declared.{Register.Register, Step.Step}
use Rattle.lists.proofs.Lists.{all_reverse}
use Rattle.history.proofs.Machine.Run.{last_holds, by_accepted}
use Rattle.history.proofs.Registers.{Passes, register_passes, passes_register}
use Rattle.history.proofs.OneStep.{step_taken_back}
use Rattle.history.proofs.Classes.{classes_reverse}
use Rattle.history.proofs.OneCall as call

answer_passes : (r : Register) (c : Call) → Passes r → Passes (answer r c).register
answer_passes r c p = go (answer r c).outcome refl
  where
    go : (v : Verdict) → (answer r c).outcome ≡ v → Passes (answer r c).register
    go accepted e = call.accepted_passes r c e
    go (refused n) e = rw (call.refused_stays r c n e) p

pub last_passes : (r : Register) (cs : List Call) → register_refusal r ≡ 0 → register_refusal (last r cs) ≡ 0
last_passes r cs e = passes_register (last r cs) (last_holds registers Passes answer_passes cs (register_passes r e))

-- ---- one step
module _ (r : Register) (k : Step) (a : Class) (e : (answer r (step k a)).outcome ≡ accepted) where
  pub accepted_class : (register_refusal r ≡ 0) × Accepts r.curve a
  accepted_class =
      let p = call.accepted_register r (step k a) e in
      (passes_register r p, accepts_both r.curve a p.curve_passes (call.accepted_class r k a e))

  pub accepted_class_reduced : ClassOn r.curve a
  accepted_class_reduced = ((membership_iff r.curve a).0 (of_accepts r.curve a accepted_class.1)).1

pub accepted_step : (k : Step) (r : Register) (a : Class) → (step_answer k r a).outcome ≡ accepted
    → (register_refusal (step_answer k r a).register ≡ 0) × (step_answer (other k) (step_answer k r a).register a ≡ record { outcome = accepted; register = r })
unfolding answer
accepted_step k r a e = (passes_register _ (call.accepted_passes r (step k a) e), step_taken_back r a k e)

-- ---- the classes of a list
-- no check on this curve refuses one of these classes
abbrev Unrefused : Curve → List Class → Type 0
Unrefused c l = All (λ a. class_refusal c a ≡ 0) l

then_unrefused : (s : Register) (c : Call) (es : List Event) (t : Register) → (answer s c).outcome ≡ accepted
    → Unrefused (answer s c).register.curve (classes es) → Unrefused s.curve (classes (definition.event registers s c ∷ es))
unfolding definition.event classes
then_unrefused s (step k a) es t e h = more (call.accepted_class s k a e) (subst (λ d. Unrefused d (classes es)) (call.answer_curve s (step k a)) h)
then_unrefused s release es t e h = subst (λ d. Unrefused d (classes es)) (call.answer_curve s release) h

pub accepted_classes : (r : Register) (cs : List Call) → All (λ a. class_refusal r.curve a ≡ 0) (classes (newest r cs))
unfolding definition.newest classes
accepted_classes r cs =
    rw (classes_reverse (definition.accepted_of (run r cs)))
    (all_reverse (by_accepted registers call.refused_stays (λ s es t. Unrefused s.curve (classes es)) (λ s. none) then_unrefused r cs))

pub classes_accept : (c : Curve) → curve_refusal c ≡ 0 → {l : List Class} → All (λ a. class_refusal c a ≡ 0) l → All (Accepts c) l
classes_accept c ok none = none
classes_accept c ok (more {a = a} h hs) = more (accepts_both c a ok h) (classes_accept c ok hs)

pub operations_accept : (r : Register) (cs : List Call) → Passes r → All (Accepts r.curve) (operations (newest r cs))
operations_accept r cs p =
    rw (classes_reverse (newest r cs)) (all_reverse (classes_accept r.curve p.curve_passes (accepted_classes r cs)))

-- ---- the first register
pub first_passes : (r : Register) (cs : List Call) → 0 < length (newest r cs) → Passes r
unfolding definition.newest
first_passes r cs h =
    by_accepted registers call.refused_stays (λ s es t. 0 < length es → Passes s) (λ s l. absurd (omega (arith, l))) (λ s c es t e on l. call.accepted_register s c e) r cs
    (rw (length-reverse (definition.accepted_of (run r cs))) at h)

pub none_or_passes : (r : Register) (cs : List Call) (P : List Event → Type 0) → P [] → (Passes r → P (newest r cs)) → P (newest r cs)
none_or_passes r cs P n h = go (newest r cs) refl
  where
    go : (es : List Event) → newest r cs ≡ es → P (newest r cs)
    go [] e = subst P (sym e) n
    go (x ∷ xs) e = h (first_passes r cs (rw e (omega arith)))
