-- What a call on byte areas answers, and what it leaves in the lent output (docs/SPECIFICATION.md, 5 and 6).
use Rattle.std.specs.Prelude.{ℕ, ◌+◌, ◌≤◌, ◌<◌, ◌≡◌, cond, List, [], ◌∷◌, ◌++◌, length, drop, leb, ltb, Result, Ok, Err}
use Rattle.refusals.specs.{Refusals.number, declared.Refusal.Refusal}
use Rattle.jacobian.specs.{Checks.unless, Checks.Check, Checks.check, Checks.AllHold, Checks.FirstFails, Answer.Verdict, Answer.Result as ClassResult, Answer.accepted, Answer.refused as said_no}
use Rattle.stored_form.specs.Reading.{Reading, found, refused, checked}
use Rattle.stored_form.specs.Head.{count_length, class_room}
use Rattle.stored_form.specs.Classes.{class_field}
use Rattle.stored_form.specs.Reader.{read_record}
use Rattle.stored_form.specs.declared.Record.{Record}
use Rattle.stored_form_theorems.specs.{Checking.record_checks, Checking.record_values, Numbers.OneOf}

-- ---- the answer and the output

-- what a call does: its answer, and the bytes of the lent output after it
pub record Effect : Type 0 where
  pub answer : ℕ
  pub output : List ℕ

-- an effect with this answer and this output
abbrev pub effect : ℕ → List ℕ → Effect
effect n out = record { answer = n; output = out }

-- the effect of a refusal: its number is the answer, and no lent byte changes
unfoldable pub refuse : ℕ → List ℕ → Effect
refuse n out = effect n out

-- the effect of writing: the answer is the length written, and the bytes after it are unchanged
unfoldable pub write : List ℕ → List ℕ → Effect
write bytes out = effect (length bytes) (bytes ++ drop (length bytes) out)

-- ---- the response of a call

-- a response: a call's answer, and the bytes that it writes at the start of the lent output
pub record Response : Type 0 where
  pub answer : ℕ
  pub bytes : List ℕ

-- a response with this answer and these bytes
abbrev pub response : ℕ → List ℕ → Response
response n bytes = record { answer = n; bytes = bytes }

-- the response of a refusal: its number, and no bytes
abbrev pub refusal_response : ℕ → Response
refusal_response n = response n []

-- the response that writes these bytes: their length is the answer
abbrev pub bytes_response : List ℕ → Response
bytes_response bytes = response (length bytes) bytes

-- the bytes if accepted, else the refusal
unfoldable pub on_outcome : Verdict → List ℕ → Response
on_outcome accepted bytes = bytes_response bytes
on_outcome (said_no n) bytes = refusal_response n

-- the response with a class, as one 0x43 field
unfoldable pub class_response : ClassResult → Response
class_response r = on_outcome r.outcome (class_field 0x43 r.class)

-- the refusal of a reading, else the answer for the value that was found
unfoldable pub on_reading : {A : Type 0} → Reading A → (A → Response) → Response
on_reading (found a end) answer = answer a
on_reading (refused n) answer = refusal_response n

-- A response written into the output, whose bytes after it are unchanged.
-- An output that is too short for it stays as it is, and the answer is 101.
unfoldable pub put : Response → List ℕ → Effect
put o out =
    let n = length o.bytes in
    cond (ltb (length out) n) (refuse 101 out) (effect o.answer (o.bytes ++ drop n out))

-- 101 if the output has less room than the least that is required, else 0
unfoldable pub room_refusal : ℕ → ℕ → ℕ
room_refusal has least = unless (leb least has) 101

-- the record of a call, which is read only if the output has the room that is required
unfoldable pub read_call : ℕ → ℕ → List ℕ → List ℕ → Reading Record
read_call has least tags s = checked (room_refusal has least) (read_record tags s)

-- a call: it reads a record with these tags and answers into an output of at least `least` bytes
unfoldable pub byte_call : ℕ → List ℕ → (Record → Response) → List ℕ → List ℕ → Effect
byte_call least tags answer s out = put (on_reading (read_call (length out) least tags s) answer) out

-- ---- the room

-- the length of a count's field and of a released step's field alike
abbrev pub count_room : ℕ
count_room = 3 + count_length

-- the length of the longest register: a count's field, a released step's field and a class's field
abbrev pub register_room : ℕ
register_room = count_room + count_room + class_room

-- the most bytes that a response has
abbrev pub room : ℕ
room = register_room

-- ---- the code's output

-- the response that the code's result stands for
abbrev pub response_of : Result (List ℕ) Refusal → Response
response_of (Ok bytes) = bytes_response bytes
response_of (Err r) = refusal_response (number r)

-- ---- the checks of a call

-- the checks of a call: the room of the output, the record, then those of its response to what the record says
abbrev pub call_checks : ℕ → List ℕ → (Record → List Check) → List ℕ → List ℕ → List Check
call_checks least tags last s out = check 101 (least ≤ length out) ∷ (record_checks tags s ++ last (record_values tags s))

-- What a call with these checks, made in order, does: if all hold, it writes these bytes, whose length is one of these.
-- Else it answers the number of the first that does not hold, and no byte changes.
pub data EffectOf (checks : List Check) (lengths bytes out : List ℕ) (e : Effect) : Type 0 where
  all_hold : AllHold checks → OneOf lengths (length bytes) → e ≡ write bytes out → EffectOf checks lengths bytes out e
  first_fails : (n : ℕ) → FirstFails checks n → e ≡ refuse n out → EffectOf checks lengths bytes out e

-- ---- a call wrote or refused

-- a call wrote bytes of one of these lengths, and the lent output has the room that is required;
-- or it refused with one of these numbers and changed no byte
pub data WroteOrRefused (least : ℕ) (lengths numbers out : List ℕ) (e : Effect) : Type 0 where
  wrote : (xs : List ℕ) → OneOf lengths (length xs) → least ≤ length out → e ≡ write xs out → WroteOrRefused least lengths numbers out e
  kept : (n : ℕ) → OneOf numbers n → e ≡ refuse n out → WroteOrRefused least lengths numbers out e

-- the greatest answer that is a length; every refusal's number is above it
abbrev pub longest_answer : ℕ
longest_answer = 100

-- the answer alone decides whether the call wrote or refused
pub record AnswerDecides (least : ℕ) (lengths numbers out : List ℕ) (e : Effect) : Type 0 where
  pub wrote : e.answer ≤ longest_answer → (xs : List ℕ) × OneOf lengths (length xs) × (least ≤ length out) × (e ≡ write xs out)
  pub kept : longest_answer < e.answer → OneOf numbers e.answer × (e.output ≡ out)
