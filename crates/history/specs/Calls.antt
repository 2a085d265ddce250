-- Lists of calls on a register: taking them back, walking back, and one changed operation (docs/SPECIFICATION.md, 11).
use Rattle.std.specs.Prelude.{ℕ, ◌≡◌, List, [], ◌∷◌, ◌++◌, map, reverse}
use Rattle.lists.specs.{Lists.All, Lists.ChangedAt, Walk.foldl}
use Rattle.jacobian.specs.{Answer.accepted, Answer.Result, Answer.result, Answer.sum_answer, Answer.subtract_and_halve_answer, Group.difference, Group.doublings}
use Rattle.jacobian.specs.declared.{Curve.Curve, Class.Class}
use Rattle.history.specs.Register.{RegisterReply, register_refusal, step_refusal, with_released, stepped, step_answer, release_answer, other, commit_seal, undo_seal}
use Rattle.history.specs.Machine as machine
use Rattle.history.specs.Machine.{Machine}
use Rattle.history.specs.declared.{Register.Register, Step.Step, Step.TheVariants.Commit, Step.TheVariants.Undo}

-- a call on a register: a commit or an undo with its class, whatever values that class has, or a release
pub data Call : Type 0 where
  step : Step → Class → Call
  release : Call

-- the commit of a class
abbrev pub commit : Class → Call
commit a = step Commit a

-- the undo of a class
abbrev pub undo : Class → Call
undo a = step Undo a

-- the call that takes a step back: the other step with the same class; a release has none, and is returned as it is
unfoldable pub back : Call → Call
back (step k a) = step (other k) a
back release = release

-- what a call on a register answers
unfoldable pub answer : Register → Call → RegisterReply
answer r (step k a) = step_answer k r a
answer r release = release_answer r

-- the refusal of a call, and 0 if no check refuses it
unfoldable pub call_refusal : Register → Call → ℕ
call_refusal r (step k a) = step_refusal k r a
call_refusal r release = register_refusal r

-- the register after a call that no check refuses
unfoldable pub next_register : Register → Call → Register
next_register r (step k a) = stepped k r a
next_register r release = with_released r.count r

-- ---- the register as a machine
-- the machine whose states are registers and whose calls are commits, undos and releases
abbrev pub registers : Machine Register Call
registers = record { outcome = λ r c. (answer r c).outcome; next = λ r c. (answer r c).register }

-- a call that was made, with its outcome and the registers before and after it
abbrev pub Event : Type 0
Event = machine.Event Register Call

-- the calls of a list as they happen: each is made on the register that the call before it left
abbrev pub run : Register → List Call → List Event
run = machine.run registers

-- the register after the list
abbrev pub last : Register → List Call → Register
last = machine.last registers

-- the accepted calls of the list, newest first
abbrev pub newest : Register → List Call → List Event
newest = machine.newest registers

-- the calls that take these back
abbrev pub backs : List Event → List Call
backs = machine.backs back

-- the accepted calls of a list taken back, newest first, from the register after the list
abbrev pub taken_back : Register → List Call → List Event
taken_back = machine.taken_back registers back

-- a call taken back: accepted, from the register after it to the register before it
abbrev pub turned : Event → Event
turned = machine.turned back

-- ---- the calls of a list, by kind
-- none of these calls is a release, so each has a way back
abbrev pub NoReleases : List Event → Type 0
NoReleases es = All (λ e. ¬ (e.call ≡ release)) es

-- none of these calls is an undo
abbrev pub NoUndos : List Event → Type 0
NoUndos es = All (λ e. (a : Class) → ¬ (e.call ≡ undo a)) es

-- all of these calls are commits
abbrev pub OnlyCommits : List Event → Type 0
OnlyCommits es = All (λ e. (a : Class) × (e.call ≡ commit a)) es

-- ---- taking back behind a place in a list
-- the accepted calls of the second list taken back, newest first, from the register after both lists
abbrev pub taken_back_after : Register → List Call → List Call → List Event
taken_back_after r cs ds = run (last r (cs ++ ds)) (backs (newest (last r cs) ds))

-- a list in two parts: the first up to its last accepted release, or empty where there is none, and the calls after it
abbrev pub LastRelease : Register → List Call → Type 0
LastRelease = machine.LastFinal registers (λ c. c ≡ release)

-- ---- steps and their classes
-- these calls without the releases
unfoldable pub steps : List Event → List Event
steps [] = []
steps (e ∷ es) = elim e.call [ step k a ↦ e ∷ steps es | release ↦ steps es ]

-- the classes of the steps among these calls
unfoldable pub classes : List Event → List Class
classes [] = []
classes (e ∷ es) = elim e.call [ step k a ↦ a ∷ classes es | release ↦ classes es ]

-- ---- the walk
-- the seals that a walk back meets from the register after these accepted calls, newest first: its seal, then those
-- just before the steps
unfoldable pub seals_met : Register → List Event → List Class
seals_met t es = t.seal ∷ map (λ e. e.before.seal) (steps es)

-- the seals that a walk back meets after a list of calls
abbrev pub seals_back : Register → List Call → List Class
seals_back r cs = seals_met (last r cs) (newest r cs)

-- the end of a walk forward: a commit of each class in turn; for no class the seal itself
abbrev pub walk_forward : Curve → Class → List Class → Class
walk_forward c seal ops = foldl (commit_seal c) seal ops

-- the end of a walk back: the one seal from which a walk forward over the classes, oldest first, ends in the given one;
-- found by the undo rule, once for each class, newest first
unfoldable pub walk_back : Curve → Class → List Class → Class
walk_back c seal ops = foldl (undo_seal c) seal ops

-- the answers of the walk's steps, in order; each step starts from the seal that the step before it answered
unfoldable pub steps_back : Curve → Class → List Class → List Result
steps_back c seal [] = []
steps_back c seal (a ∷ ops) = let s = result (subtract_and_halve_answer c seal a) in s ∷ steps_back c s.class ops

-- the answer expected of the step back over a commit: accepted, with the seal just before the commit
unfoldable pub met : Event → Result
met e = record { outcome = accepted; class = e.before.seal }

-- ---- one changed operation
-- the classes of these calls, given newest first, in order of time: operation k is the k-th, counted from 1
abbrev pub operations : List Event → List Class
operations es = classes (reverse es)

-- two lists of accepted calls, newest first, from one first seal on one curve: all are commits, and only operation k
-- differs, d in the first list and e in the second
pub record Variants (k : ℕ) (d e : Class) (r t : Register) (es fs : List Event) : Type 0 where
  pub same_curve : t.curve ≡ r.curve
  pub same_seal : t.seal ≡ r.seal
  pub commits : OnlyCommits es
  pub changed_commits : OnlyCommits fs
  pub changed : ChangedAt k d e (operations es) (operations fs)

-- a seal plus n doublings of e - d, by the calls on classes
abbrev pub displaced : Curve → ℕ → Class → Class → Class → Result
displaced c n d e seal = result (sum_answer c seal (doublings c n (difference c e d)))
