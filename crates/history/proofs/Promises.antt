-- What a step promises (docs/SPECIFICATION.md, 4): its answer, and of an undo that its seal is the one before a commit.
-- `undo_promised`: the answer of an undo keeps what an undo promises.
-- `step_promised`: the answer of a step keeps what the step promises.
-- `step_answered`: what a step promises includes its answer.
use mathlib.Core.Path.{◌≡◌, ◌∙◌, ap}
use Rattle.jacobian.specs.declared.Class.{Class}
use Rattle.history.specs.Register.{RegisterReply, undo_seal, with_count_and_seal, stepped, step_refusal, step_answer, undo_answer, UndoAnswers, StepAnswers}
use Rattle.history.specs.declared.{Register.Register, Step.Step, Step.TheVariants.Commit, Step.TheVariants.Undo}
use Rattle.history.proofs.{Seals.undo_is_only, Registers.step_passes, Registers.follows_zero, OneStep.seal_sound, OneStep.class_sound}

module _ (r : Register) (a : Class) where
  undone : step_refusal Undo r a ≡ 0 → (undo_answer r a).register.seal ≡ undo_seal r.curve r.seal a
  unfolding step_answer stepped with_count_and_seal
  undone z = ap (λ (x : RegisterReply). x.register.seal) (follows_zero _ r (stepped Undo r a) z)

  pub undo_promised : {x : RegisterReply} → x ≡ undo_answer r a → UndoAnswers r a x
  undo_promised e = record {
    answer = e;
    taken_back = λ z.
        let p = step_passes Undo r a z in
        rw (ap (λ (y : RegisterReply). y.register.seal) e ∙ undone z) (undo_is_only (seal_sound r a p) (class_sound r a p));
  }

  pub step_promised : (k : Step) {x : RegisterReply} → x ≡ step_answer k r a → StepAnswers k r a x
  step_promised Commit e = e
  step_promised Undo e = undo_promised e

  pub step_answered : (k : Step) {x : RegisterReply} → StepAnswers k r a x → x ≡ step_answer k r a
  step_answered Commit e = e
  step_answered Undo h = h.answer
