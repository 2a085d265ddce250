-- The answers of the calls on classes as a seal or a refusal.
-- `sealed_outcome`: the outcome of such an answer is that of its number.
-- `moved_accepted`, `moved_refused`: the register that the code moves, by an answered class and by a refusal.
-- `moved_sealed`: a register moved by a seal or a refusal is the next register, or that refusal.
-- `double_and_add_sealed`: double and add answers the seal after a commit, or the refusal of curve, seal and class.
-- `subtract_and_halve_sealed`: subtract and halve answers the seal after an undo, or that refusal.
use Rattle.std.specs.Prelude.{ℕ, zero, suc, Ok, Err}
use mathlib.Core.Path.{◌≡◌, refl}
use Rattle.class_group.specs.{Reduction.Counted, Operations.sum, Operations.double, Moves.double_and_add, Moves.subtract_and_halve, Moves.counted_double_and_add, Moves.counted_subtract_and_halve}
use Rattle.jacobian.specs.{Field.Poly, Classes.class_of, Answer.verdict_of, Answer.reply, Answer.result, Answer.answered, Answer.refusal_of_two, Answer.double_and_add_answer, Answer.subtract_and_halve_answer}
use Rattle.jacobian.specs.declared.{Curve.Curve, Class.Class, CountedClass.CountedClass}
use Rattle.refusals.specs.declared.Refusal.{Refusal}
use Rattle.history.specs.{Register.commit_seal, Register.undo_seal, Register.sealed, Register.follows, Register.with_count_and_seal, internal.Next.next_reply, internal.Next.moved_reply, declared.Register.Register}

pub sealed_outcome : (n : ℕ) (s : Class) → (sealed n s).outcome ≡ verdict_of n
unfolding sealed verdict_of
sealed_outcome zero s = refl
sealed_outcome (suc n) s = refl

-- ---- the next register
module _ (r : Register) (n : ℕ) where
  pub moved_accepted : (x : CountedClass) → next_reply r (Ok (with_count_and_seal n x.class r)) ≡ moved_reply r n (result (reply (Ok x)))
  unfolding moved_reply
  moved_accepted x = refl

  pub moved_refused : (f : Refusal) → next_reply r (Err f) ≡ moved_reply r n (result (reply (Err f)))
  unfolding moved_reply
  moved_refused f = refl

  pub moved_sealed : (m : ℕ) (s : Class) → moved_reply r n (sealed m s) ≡ follows m r (with_count_and_seal n s r)
  unfolding moved_reply sealed follows
  moved_sealed zero s = refl
  moved_sealed (suc m) s = refl

-- ---- the two rules
answered_sealed : (d n : ℕ) (D : Counted (Poly d)) → result (answered d n D) ≡ sealed n (class_of d D.class)
unfolding answered sealed
answered_sealed d zero D = refl
answered_sealed d (suc n) D = refl

module _ (c : Curve) (s a : Class) where
  pub double_and_add_sealed : result (double_and_add_answer c s a) ≡ sealed (refusal_of_two c s a) (commit_seal c s a)
  unfolding double_and_add_answer commit_seal double_and_add counted_double_and_add sum double
  double_and_add_sealed = answered_sealed c.degree (refusal_of_two c s a) _

  pub subtract_and_halve_sealed : result (subtract_and_halve_answer c s a) ≡ sealed (refusal_of_two c s a) (undo_seal c s a)
  unfolding subtract_and_halve_answer undo_seal subtract_and_halve counted_subtract_and_halve sum
  subtract_and_halve_sealed = answered_sealed c.degree (refusal_of_two c s a) _
