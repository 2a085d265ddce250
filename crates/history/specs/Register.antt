-- The history register by value: its checks, its two steps, the release and the answers of calls
-- (docs/SPECIFICATION.md, 4 and 6).
use Rattle.std.specs.Prelude.{ℕ, zero, suc, ◌+◌, ◌-◌, eqb}
use mathlib.Core.{Path.◌≡◌, Bool.cond}
use Rattle.class_group.specs.Moves.{double_and_add, subtract_and_halve}
use Rattle.jacobian.specs.{Checks.◌or_else◌, Curves.curve_refusal, Curves.curve, Classes.pair, Classes.class_of, Classes.class_refusal}
use Rattle.jacobian.specs.Answer.{Verdict, accepted, refused, verdict, neutral_class, Result, Only}
use Rattle.jacobian.specs.declared.{Curve.Curve, Class.Class}
use Rattle.count_limit.specs.Limit.{count_limit, count_refusal, released_refusal}
use Rattle.history.specs.declared.{Register.Register, RegisterAnswer.RegisterAnswer, Step.Step, Step.TheVariants.Commit, Step.TheVariants.Undo}

-- ---- seals
-- the seal after a commit: twice the seal plus the operation's class
unfoldable pub commit_seal : Curve → Class → Class → Class
commit_seal c seal a = let d = c.degree in class_of d (double_and_add (curve c) (pair d seal) (pair d a))

-- the seal after an undo: the one seal that a commit of the class takes to the given one; the difference, halved
unfoldable pub undo_seal : Curve → Class → Class → Class
undo_seal c seal a = let d = c.degree in class_of d (subtract_and_halve (curve c) (pair d seal) (pair d a))

-- the seal where the number is 0, else that refusal with the neutral class
unfoldable pub sealed : ℕ → Class → Result
sealed zero seal = record { outcome = accepted; class = seal }
sealed (suc n) seal = record { outcome = refused (suc n); class = neutral_class }

-- ---- checks, in the stored order; 0 where every check passes
-- 106 or 107 of the curve, then 109 for a count above the limit, then 120 for a released step above the count, then
-- 104, 110 or 111 of the seal
unfoldable pub register_refusal : Register → ℕ
register_refusal r =
    curve_refusal r.curve
    or_else count_refusal r.count
    or_else released_refusal r.count r.released
    or_else class_refusal r.curve r.seal

-- the refusal of a step at a count: 114 of a commit at the limit; 113 of an undo at 0, then 121 at the released step
unfoldable pub edge_refusal : Step → ℕ → ℕ → ℕ
edge_refusal Commit n released = cond (eqb n count_limit) 114 0
edge_refusal Undo n released = cond (eqb n 0) 113 (cond (eqb n released) 121 0)

-- the register's checks, then 104, 110 or 111 of the operation's class, then 114, or 113 and 121, of the count
unfoldable pub step_refusal : Step → Register → Class → ℕ
step_refusal k r a = register_refusal r or_else class_refusal r.curve a or_else edge_refusal k r.count r.released

-- ---- the register that follows
-- the register with this count and this seal, all else as it was
unfoldable pub with_count_and_seal : ℕ → Class → Register → Register
with_count_and_seal n seal r = record { curve = r.curve; count = n; seal = seal; released = r.released }

-- the register with this released step, all else as it was
unfoldable pub with_released : ℕ → Register → Register
with_released n r = record { curve = r.curve; count = r.count; seal = r.seal; released = n }

-- the register after a step: a commit adds 1 to the count, an undo subtracts 1
unfoldable pub stepped : Step → Register → Class → Register
stepped Commit r a = with_count_and_seal (r.count + 1) (commit_seal r.curve r.seal a) r
stepped Undo r a = with_count_and_seal (r.count - 1) (undo_seal r.curve r.seal a) r

-- the step that takes a step back
unfoldable pub other : Step → Step
other Commit = Undo
other Undo = Commit

-- ---- what the calls answer
-- what a call on a register answers: the outcome and a register
pub record RegisterReply : Type 0 where
  pub outcome : Verdict
  pub register : Register

-- the code's answer as such a reply
abbrev pub register_reply : RegisterAnswer → RegisterReply
register_reply r = record { outcome = verdict r.outcome; register = r.register }

-- the next register where the number is 0, else that refusal with the register as it was given
unfoldable pub follows : ℕ → Register → Register → RegisterReply
follows zero given next = record { outcome = accepted; register = next }
follows (suc n) given next = record { outcome = refused (suc n); register = given }

-- what a step with a class answers
unfoldable pub step_answer : Step → Register → Class → RegisterReply
step_answer k r a = follows (step_refusal k r a) r (stepped k r a)

-- what a commit answers
abbrev pub commit_answer : Register → Class → RegisterReply
commit_answer = step_answer Commit

-- what an undo answers
abbrev pub undo_answer : Register → Class → RegisterReply
undo_answer = step_answer Undo

-- what a release answers: the released step becomes the count
unfoldable pub release_answer : Register → RegisterReply
release_answer r = follows (register_refusal r) r (with_released r.count r)

-- what an undo promises: its answer; and if accepted, its seal is the only one that a commit takes to the one given
pub record UndoAnswers (r : Register) (a : Class) (x : RegisterReply) : Type 0 where
  pub answer : x ≡ undo_answer r a
  pub taken_back : step_refusal Undo r a ≡ 0 → Only r.curve (λ h. commit_seal r.curve h a ≡ r.seal) x.register.seal

-- what a step promises: a commit its answer, an undo what `UndoAnswers` says
abbrev pub StepAnswers : Step → Register → Class → RegisterReply → Type 0
StepAnswers Commit r a x = x ≡ commit_answer r a
StepAnswers Undo r a x = UndoAnswers r a x
