-- Demand 3 of a register that itself fails a check (docs/SPECIFICATION.md, 11).
-- `failing_answer`: a call is refused with that check's number and leaves the register as it was.
-- `failing_run`: every call of a list is refused with that check's number and leaves the register as it was.
-- `failing_last`: the register after the list is the first one.
use mathlib.Core.Path.{◌≡◌, refl, ◌∙◌, ap}
use mathlib.Core.List.{List, [], ◌∷◌, map}
use Rattle.lists.specs.Walk.{foldl}
use Rattle.jacobian.specs.Answer.{refused}
use Rattle.history.specs.Register.{register_refusal, RegisterReply, with_released, stepped, follows, step_answer, release_answer}
use Rattle.history.specs.Machine as definition
use Rattle.history.specs.Calls.{Call, step, release, answer, run, last}
use Rattle.history.specs.declared.Register.{Register}
use Rattle.history.proofs.{Registers.follows_refused, Numbers.step_failing}

module _ (r : Register) (fails : ¬ (register_refusal r ≡ 0)) where
  pub failing_answer : (c : Call) → answer r c ≡ record { outcome = refused (register_refusal r); register = r }
  unfolding answer step_answer release_answer
  failing_answer (step k a) = ap (λ n. follows n r (stepped k r a)) (step_failing k r a fails) ∙ follows_refused (register_refusal r) r (stepped k r a) fails
  failing_answer release = follows_refused (register_refusal r) r (with_released r.count r) fails

  pub failing_run : (cs : List Call) → run r cs ≡ map (λ c. record { before = r; call = c; outcome = refused (register_refusal r); left = r }) cs
  unfolding definition.run definition.event
  failing_run [] = refl
  failing_run (c ∷ cs) = rw (failing_answer c) (ap (λ es. record { before = r; call = c; outcome = refused (register_refusal r); left = r } ∷ es) (failing_run cs))

  pub failing_last : (cs : List Call) → last r cs ≡ r
  unfolding definition.last foldl
  failing_last [] = refl
  failing_last (c ∷ cs) = ap (λ (x : RegisterReply). last x.register cs) (failing_answer c) ∙ failing_last cs
