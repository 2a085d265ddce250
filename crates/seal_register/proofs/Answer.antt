-- The answer of a call by value, as the call in place answers it.
-- `verdict_number`: equal outcomes have equal numbers.
-- `call_unchanged`: a number other than 0 that a call in place answers stands with the lent register as it was.
-- `step_unchanged`: the same of what a step promises.
-- `kept_accepted`, `kept_refused`: what the code keeps of an acceptance, and of a refusal.
-- `kept_step`, `kept_release`: of a call's answer this is that answer.
use Rattle.std.specs.Prelude.{ℕ, zero, suc, Ok, Err}
use Rattle.refusals.specs.{Refusals.number, declared.Refusal.Refusal}
use Rattle.binary_field.proofs.Refusing.{number_positive}
use mathlib.Core.{Path.◌≡◌, Path.refl, Path.sym, Path.◌∙◌, Path.ap}
use Rattle.jacobian.specs.{Answer.verdict_of, declared.Class.Class}
use Rattle.jacobian.proofs.ByValue.Answers.{refused_verdict}
use Rattle.history.specs.{Register.register_reply, Register.follows, Register.step_answer, Register.release_answer, Register.StepAnswers, Calls.Call, Calls.step, Calls.answer}
use Rattle.history.specs.declared.{Register.Register, RegisterAnswer.RegisterAnswer, Step.Step}
use Rattle.history.proofs.Promises.{step_promised, step_answered}
use Rattle.seal_register.specs.{InPlace.in_place, internal.Kept.kept}
use Rattle.seal_register.proofs.InPlace.{refusal_leaves}

pub verdict_number : (m n : ℕ) → verdict_of m ≡ verdict_of n → m ≡ n
unfolding verdict_of
verdict_number zero zero e = refl
verdict_number zero (suc n) e = cc
verdict_number (suc m) zero e = cc
verdict_number (suc m) (suc n) e = cc

module _ (r : Register) (c : Call) where
  pub call_unchanged : (n : ℕ) (told : Register) → in_place n told ≡ answer r c → ¬ (n ≡ 0) → in_place n r ≡ answer r c
  call_unchanged zero told e h = absurd (h refl)
  call_unchanged (suc n) told e h = ap (in_place (suc n)) (sym (refusal_leaves r c n told e)) ∙ e

module _ (k : Step) (r : Register) (a : Class) where
  pub step_unchanged : (n : ℕ) (told : Register) → StepAnswers k r a (in_place n told) → ¬ (n ≡ 0) → StepAnswers k r a (in_place n r)
  unfolding answer
  step_unchanged n told e h = step_promised r a k (call_unchanged r (step k a) n told (step_answered r a k e) h)

-- ---- what the code keeps
module _ (lent : Register) (x : RegisterAnswer) where
  pub kept_accepted : x.outcome ≡ Ok tt → in_place 0 x.register ≡ kept lent (register_reply x)
  unfolding in_place kept verdict_of
  kept_accepted is = rw is

  pub kept_refused : (f : Refusal) (n : ℕ) → x.outcome ≡ Err f → n ≡ number f → in_place n lent ≡ kept lent (register_reply x)
  unfolding in_place kept
  kept_refused f n is same = rw (is, same, refused_verdict (number f) (number_positive f))

kept_follows : (n : ℕ) (r next : Register) → kept r (follows n r next) ≡ follows n r next
unfolding kept follows
kept_follows zero r next = refl
kept_follows (suc n) r next = refl

pub kept_step : (k : Step) (r : Register) (a : Class) → kept r (step_answer k r a) ≡ step_answer k r a
unfolding step_answer
kept_step k r a = kept_follows _ r _

pub kept_release : (r : Register) → kept r (release_answer r) ≡ release_answer r
unfolding release_answer
kept_release r = kept_follows _ r _
