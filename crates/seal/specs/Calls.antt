-- What each byte call answers and leaves in the lent output (docs/SPECIFICATION.md, 5 and 6).
use Rattle.std.specs.Prelude.{ℕ, ◌-◌, ◌≤◌, ◌<◌, length}
use mathlib.Core.{Path.◌≡◌, List.List, List.◌++◌}
use Rattle.jacobian.specs.Answer.{result, gives, Only, opposite_answer, double_answer, half_answer, sum_answer}
use Rattle.jacobian.specs.declared.Class.{Class}
use Rattle.history.specs.declared.Register.{Register}
use Rattle.history.specs.Register.{RegisterReply, commit_answer, undo_answer, release_answer}
use Rattle.stamps.specs.Stamps.{stamp_answer}
use Rattle.stored_form.specs.{Reading.found, Reading.reading_refusal, Head.class_room, Fields.count_field, Fields.released_field, Classes.class_field}
use Rattle.stored_form.specs.Reader.{read_record, curve_layout, class_layout, sum_layout, register_layout, step_layout}
use Rattle.written_form.specs.Effect.{Effect, Response, register_room, write, on_outcome, class_response, byte_call}
use Rattle.stored_form.specs.declared.Record.{Record}
use Rattle.seal.specs.Records.{register_fields}
use Rattle.seal.specs.declared.calls.Call.{Call}
use Rattle.seal.specs.declared.calls.Call.TheVariants.{Opposite, Double, Half, Sum, Commit, Undo, Release, Stamp}

-- the register of a record, whose 0x43 is the seal
abbrev pub register : Record → Register
register h = record { curve = h.curve; count = h.count; seal = h.class; released = h.released }

-- the response with a register: 0x42, 0x45, then 0x43
unfoldable pub register_response : RegisterReply → Response
register_response r = on_outcome r.outcome (register_fields r.register)

-- the response of a call for the values of a record, by the call by value
unfoldable pub answered : Call → Record → Response
answered Opposite h = class_response (result (opposite_answer h.curve h.class))
answered Double h = class_response (result (double_answer h.curve h.class))
answered Half h = class_response (result (half_answer h.curve h.class))
answered Sum h = class_response (result (sum_answer h.curve h.previous h.class))
answered Commit h = register_response (commit_answer (register h) h.operation)
answered Undo h = register_response (undo_answer (register h) h.operation)
answered Release h = register_response (release_answer (register h))
answered (Stamp s) h = class_response (result (stamp_answer h.curve s))

-- ---- the calls

-- membership: 0 if the record is accepted, else its refusal; nothing is written
unfoldable pub membership_call : List ℕ → ℕ
membership_call s = reading_refusal (read_record class_layout s)

-- the layout of the record that a call reads
abbrev pub tags : Call → List ℕ
tags Opposite = class_layout
tags Double = class_layout
tags Half = class_layout
tags Sum = sum_layout
tags Commit = step_layout
tags Undo = step_layout
tags Release = register_layout
tags (Stamp s) = curve_layout

-- the length that its output must have, which is also the most that it writes
abbrev pub room : Call → ℕ
room Opposite = class_room
room Double = class_room
room Half = class_room
room Sum = class_room
room Commit = register_room
room Undo = register_room
room Release = register_room
room (Stamp s) = class_room

-- what a call that writes does on an input and an output
abbrev pub called : Call → List ℕ → List ℕ → Effect
called call s out = byte_call (room call) (tags call) (answered call) s out

-- the opposite of a class
abbrev pub opposite_call : List ℕ → List ℕ → Effect
opposite_call = called Opposite

-- the double of a class
abbrev pub double_call : List ℕ → List ℕ → Effect
double_call = called Double

-- the half of a class
abbrev pub half_call : List ℕ → List ℕ → Effect
half_call = called Half

-- the sum of two classes
abbrev pub sum_call : List ℕ → List ℕ → Effect
sum_call = called Sum

-- the register after a commit
abbrev pub commit_call : List ℕ → List ℕ → Effect
commit_call = called Commit

-- the register after an undo
abbrev pub undo_call : List ℕ → List ℕ → Effect
undo_call = called Undo

-- the register after a release
abbrev pub release_call : List ℕ → List ℕ → Effect
release_call = called Release

-- the class of a stamp, which is an argument and not in the record
abbrev pub stamp_call : ℕ → List ℕ → List ℕ → Effect
stamp_call s = called (Stamp s)

-- ---- what half and undo promise besides their answers (docs/SPECIFICATION.md, 2.7 and 2.8)

-- if the record is accepted and the output has room, half writes the one class whose double is the record's class
pub record Halves (s out : List ℕ) (e : Effect) : Type 0 where
  pub answer : e ≡ half_call s out
  pub half : {h : Record} {end : ℕ} → read_record class_layout s ≡ found h end → class_room ≤ length out →
      (x : Class) × (e ≡ write (class_field 0x43 x) out) × Only h.curve (λ b. result (double_answer h.curve b) ≡ gives h.class) x

-- If the record is accepted, its released step is below its count and the output has room, undo writes the count less
-- one, the released step as it was and a seal: the one whose double plus the operation's class is the record's seal.
pub record Undoes (s out : List ℕ) (e : Effect) : Type 0 where
  pub answer : e ≡ undo_call s out
  pub undone : {h : Record} {end : ℕ} → read_record step_layout s ≡ found h end → h.released < h.count → register_room ≤ length out →
      (x : Class) × (e ≡ write (count_field (h.count - 1) ++ released_field h.released ++ class_field 0x43 x) out)
      × Only h.curve (λ b. result (sum_answer h.curve (double_answer h.curve b).class h.operation) ≡ gives h.class) x
