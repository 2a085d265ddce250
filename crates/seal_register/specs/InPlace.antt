-- A register lent and changed in place, and lists of calls each by value or in place (docs/SPECIFICATION.md, 8 and 11).
use Rattle.std.specs.Prelude.{ℕ, ◌≡◌, List, map}
use Rattle.lists.specs.Lists.{All}
use Rattle.jacobian.specs.{Answer.verdict_of, declared.Class.Class}
use Rattle.history.specs.Register.{RegisterReply, register_reply}
use Rattle.history.specs.Machine.{Machine, run, last, newest, carried}
use Rattle.history.specs.Calls.{Call, answer, Event, seals_met}
use Rattle.history.specs.declared.{Register.Register, RegisterAnswer.RegisterAnswer}

-- what a call on a lent register answers: 0 is an acceptance, else that refusal; with the register that the call leaves
unfoldable pub in_place : ℕ → Register → RegisterReply
in_place n left = record { outcome = verdict_of n; register = left }

-- ---- lists of calls
-- a call that was made: by value with its answer, or in place with its number and the register that it left
pub data RecordedCall : Type 0 where
  by_value : Call → RegisterAnswer → RecordedCall
  lent : Call → ℕ → Register → RecordedCall

-- the call of such an entry
unfoldable pub call : RecordedCall → Call
call (by_value c x) = c
call (lent c n left) = c

-- its answer: the outcome and the register
unfoldable pub recorded_reply : RecordedCall → RegisterReply
recorded_reply (by_value c x) = register_reply x
recorded_reply (lent c n left) = in_place n left

-- the calls of a list
unfoldable pub calls : List RecordedCall → List Call
calls ms = map call ms

-- the machine that replays recorded answers: each call starts from the register that the call before it left
abbrev pub replay : Machine Register RecordedCall
replay = record { outcome = λ r m. (recorded_reply m).outcome; next = λ r m. (recorded_reply m).register }

-- every recorded answer is what the call answers on the register before it
abbrev pub Session : Register → List RecordedCall → Type 0
Session r ms = All (λ e. recorded_reply e.call ≡ answer e.before (call e.call)) (run replay r ms)

-- the recorded calls as calls on a register
unfoldable pub happened : Register → List RecordedCall → List Event
happened r ms = map (carried (λ t. t) call) (run replay r ms)

-- the register after the list
abbrev pub left_by : Register → List RecordedCall → Register
left_by = last replay

-- the accepted calls of the list, newest first
unfoldable pub newest_recorded : Register → List RecordedCall → List Event
newest_recorded r ms = map (carried (λ t. t) call) (newest replay r ms)

-- the seals that a walk back meets: the last seal, then those just before the accepted steps, newest first
unfoldable pub seals_recorded : Register → List RecordedCall → List Class
seals_recorded r ms = seals_met (left_by r ms) (newest_recorded r ms)
