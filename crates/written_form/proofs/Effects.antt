-- Responses written into the lent output, and what a call does for what it reads.
-- `put_written`, `put_refusal`: the effect of a response that fits, and of a refusal.
-- `put_accepted`, `put_refused`: the same for a response that depends on a verdict.
-- `put_short`, `put_all`: the effect of a response as the code writes it.
-- `call_short`: an output that is too short is refused with 101.
-- `call_refused`, `call_found`: a call whose record is refused, and one whose record is read.
-- `answer_written`, `answer_refused`: a call whose response depends on a verdict.
use Prim.Native.Nat.{ℕ, ◌≤◌, ◌<◌}
use mathlib.Core.Path.{◌≡◌, sym, ap, ◌∙◌}
use mathlib.Core.List.{List, ◌++◌}
use native.Mathlib.Omega.{arith}
use lib.ListN.{length, drop}
use borrow.Author.Tests.{lt-ltb, le-ltb, le-leb, lt-leb}
use Rattle.jacobian.specs.{Checks.unless, Answer.Verdict, Answer.accepted, Answer.refused as said_no}
use Rattle.refusals.specs.{Refusals.number, declared.Refusal.Refusal}
use Rattle.std.specs.Prelude.{Result, Ok, Err}
use Rattle.stored_form.specs.{Reading.Reading, Reading.found, Reading.refused, Reading.checked, Reader.read_record}
use Rattle.stored_form.specs.declared.Record.{Record}
use Rattle.written_form.specs.Effect.{Response, effect, refuse, write, refusal_response, bytes_response, on_outcome, on_reading, put, read_call, room_refusal, byte_call, response_of}

-- ---- a response written

-- if the output is too short for it, and if it is not
module _ (o : Response) (out : List ℕ) where
  put_over : length out < length o.bytes → effect 101 out ≡ put o out
  unfolding put refuse
  put_over h = simp (lt-ltb _ _ h)

  put_in : length o.bytes ≤ length out → put o out ≡ effect o.answer (o.bytes ++ drop (length o.bytes) out)
  unfolding put
  put_in h = simp (le-ltb _ _ h)

pub put_written : (bytes out : List ℕ) → length bytes ≤ length out → put (bytes_response bytes) out ≡ write bytes out
unfolding write
put_written bytes out h = put_in (bytes_response bytes) out h

pub put_refusal : (n : ℕ) (out : List ℕ) → put (refusal_response n) out ≡ refuse n out
unfolding refuse
put_refusal n out = put_in (refusal_response n) out (omega arith)

module _ (v : Verdict) (xs out : List ℕ) where
  pub put_accepted : v ≡ accepted → length xs ≤ length out → put (on_outcome v xs) out ≡ write xs out
  unfolding on_outcome
  put_accepted e h = ap (λ (w : Verdict). put (on_outcome w xs) out) e ∙ put_written xs out h

  pub put_refused : {n : ℕ} → v ≡ said_no n → put (on_outcome v xs) out ≡ refuse n out
  unfolding on_outcome
  put_refused {n} e = ap (λ (w : Verdict). put (on_outcome w xs) out) e ∙ put_refusal n out

-- ---- a response as the code writes it

module _ (o : Response) (out : List ℕ) where
  pub put_short : {n : ℕ} → length out < length o.bytes → n ≡ 101 → effect n out ≡ put o out
  put_short h is = ap (λ (k : ℕ). effect k out) is ∙ put_over o out h

  pub put_all : {after : List ℕ} → length o.bytes ≤ length out → after ≡ o.bytes ++ drop (length o.bytes) out → effect o.answer after ≡ put o out
  put_all h f = ap (effect o.answer) f ∙ sym (put_in o out h)

-- ---- a call

-- the record that it reads, by the room of the output
module _ (has least : ℕ) (tags s : List ℕ) where
  pub room_refused : has < least → refused 101 ≡ read_call has least tags s
  unfolding read_call room_refusal unless checked
  room_refused h = rw (lt-leb least has h)

  pub room_read : least ≤ has → read_record tags s ≡ read_call has least tags s
  unfolding read_call room_refusal unless checked
  room_read h = rw (le-leb least has h)

-- what it does, by what is read
module _ (least : ℕ) (tags : List ℕ) (answer : Record → Response) (s out : List ℕ) where
  does : {x : Reading Record} → read_call (length out) least tags s ≡ x → byte_call least tags answer s out ≡ put (on_reading x answer) out
  unfolding byte_call
  does e = ap (λ (r : Reading Record). put (on_reading r answer) out) e

  refuses_call : {n : ℕ} → read_call (length out) least tags s ≡ refused n → byte_call least tags answer s out ≡ refuse n out
  unfolding on_reading
  refuses_call {n} e = does e ∙ put_refusal n out

  answers_call : {h : Record} {end : ℕ} → read_call (length out) least tags s ≡ found h end → byte_call least tags answer s out ≡ put (answer h) out
  unfolding on_reading
  answers_call e = does e

  pub call_short : length out < least → byte_call least tags answer s out ≡ refuse 101 out
  call_short h = refuses_call (sym (room_refused _ _ _ _ h))

  pub call_refused : least ≤ length out → {n : ℕ} → read_record tags s ≡ refused n → byte_call least tags answer s out ≡ refuse n out
  call_refused fits e = refuses_call (sym (room_read _ _ _ _ fits) ∙ e)

  pub call_found : least ≤ length out → {h : Record} {end : ℕ} → read_record tags s ≡ found h end → byte_call least tags answer s out ≡ put (answer h) out
  call_found fits e = answers_call (sym (room_read _ _ _ _ fits) ∙ e)

  -- a record that is read and answered by a verdict and bytes
  module _ (fits : least ≤ length out) {h : Record} {end : ℕ} (read : read_record tags s ≡ found h end) (v : Verdict) (xs : List ℕ) (is : answer h ≡ on_outcome v xs) where
    handed_over : byte_call least tags answer s out ≡ put (on_outcome v xs) out
    handed_over = call_found fits read ∙ ap (λ (o : Response). put o out) is

    pub answer_written : v ≡ accepted → length xs ≤ least → byte_call least tags answer s out ≡ write xs out
    answer_written e short = handed_over ∙ put_accepted v xs out e (omega arith)

    pub answer_refused : {n : ℕ} → v ≡ said_no n → byte_call least tags answer s out ≡ refuse n out
    answer_refused e = handed_over ∙ put_refused v xs out e
