-- What one call on a register does: a commit, an undo or a release.
-- `answer_curve`: the curve stays.
-- `refused_stays`: a refused call leaves the register as it was.
-- `accepted_register`: where a call is accepted, the register passes its checks.
-- `accepted_class`: where a step is accepted, its class passes.
-- `accepted_passes`: an accepted call leaves a register that passes its checks.
-- `reversible`: registers are a reversible machine, whose calls with a way back are all but releases.
use Prim.Native.Nat.{ℕ}
use mathlib.Core.Path.{◌≡◌, refl, ap}
use Rattle.jacobian.specs.{Classes.class_refusal, Answer.accepted, Answer.refused, declared.Class.Class}
use Rattle.history.specs.Register.{RegisterReply, with_released, stepped, step_answer, release_answer}
use Rattle.history.specs.Machine.{event, turned, Reversible}
use Rattle.history.specs.Calls.{Call, step, release, back, answer, registers}
use Rattle.history.specs.declared.{Register.Register, Step.Step}
use Rattle.history.proofs.Registers.{Passes, Passing, step_passes, follows_accepted, follows_stays, follows_either}
use Rattle.history.proofs.OneStep.{stepped_curve, step_taken, stepped_passes, step_taken_back, released_passes, release_taken, release_passes}

pub answer_curve : (r : Register) (c : Call) → (answer r c).register.curve ≡ r.curve
unfolding answer step_answer release_answer with_released
answer_curve r (step k a) = follows_either _ r (stepped k r a) (λ t. t.curve ≡ r.curve) refl (stepped_curve k r a)
answer_curve r release = follows_either _ r (with_released r.count r) (λ t. t.curve ≡ r.curve) refl refl

pub refused_stays : (r : Register) (c : Call) (n : ℕ) → (answer r c).outcome ≡ refused n → (answer r c).register ≡ r
unfolding answer step_answer release_answer
refused_stays r (step k a) n e = follows_stays _ r (stepped k r a) n e
refused_stays r release n e = follows_stays _ r (with_released r.count r) n e

-- ---- an accepted call
accepted_step : (k : Step) (r : Register) (a : Class) → (step_answer k r a).outcome ≡ accepted → Passing k r a
unfolding step_answer
accepted_step k r a e = step_passes k r a (follows_accepted _ r (stepped k r a) e)

pub accepted_register : (r : Register) (c : Call) → (answer r c).outcome ≡ accepted → Passes r
unfolding answer
accepted_register r (step k a) e = (accepted_step k r a e).register
accepted_register r release e = released_passes r e

pub accepted_class : (r : Register) (k : Step) (a : Class) → (answer r (step k a)).outcome ≡ accepted → class_refusal r.curve a ≡ 0
unfolding answer
accepted_class r k a e = (accepted_step k r a e).class_passes

pub accepted_passes : (r : Register) (c : Call) → (answer r c).outcome ≡ accepted → Passes (answer r c).register
unfolding answer
accepted_passes r (step k a) e = rw (step_taken k r a e) (stepped_passes r a k (accepted_step k r a e))
accepted_passes r release e = rw (release_taken r e) (release_passes r (released_passes r e))

-- a step that was accepted is taken back
returned : (r : Register) (c : Call) → ¬ (c ≡ release) → (answer r c).outcome ≡ accepted → answer (answer r c).register (back c) ≡ record { outcome = accepted; register = r }
unfolding answer back
returned r (step k a) h e = step_taken_back r a k e
returned r release h e = absurd (h refl)

pub reversible : Reversible registers back (λ r. Unit {0}) (λ c. ¬ (c ≡ release))
unfolding event turned
reversible = record {
  stays = refused_stays;
  keeps = λ r c h f e. tt;
  returns = λ r c h f e.
      ap (λ (x : RegisterReply). record { before = (answer r c).register; call = back c; outcome = x.outcome; left = x.register }) (returned r c f e);
}
