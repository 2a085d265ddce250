-- Every byte call wrote or refused (docs/SPECIFICATION.md, 6).
-- `wrote_or_refused`: on every input and output, a call writes bytes of one of its lengths and answers that length,
-- or it answers one of its numbers and leaves the output as it was.
-- `lengths_low`: its lengths are at most 100, and its numbers are above that.
-- `call_decides`: the answer alone decides which: up to 100 it is a length, above that the number of a refusal.
-- `membership_valid`: membership answers 0 or the number of a refusal.
-- `membership_answers`: it answers 0 or one of its numbers.
-- `length_read`: a call whose answer is a length had the room, and its record was read.
-- `call_refuses`: the number of a refused register call is a listed one.
-- `room_is`: commit, undo and release require the room of a register's fields.
-- `accepted_room`, `accepted_read`: so had a commit, an undo or a release, and the register call accepts its values.
use Prim.Native.Nat.{ℕ, ◌≤◌}
use mathlib.Core.Path.{◌≡◌, refl, sym, ◌∙◌, subst}
use mathlib.Core.{Bool.true, List.List}
use lib.{Dec.leb, Dec.ltb, ListN.length}
use Rattle.jacobian.specs.{Refusals.listed, Refusals.IsRefusal, Refusals.ValidRefusal, Answer.Verdict, Answer.accepted, Answer.refused}
use Rattle.jacobian.proofs.Refusals.{refused_valid}
use Rattle.history.specs.Calls.{call_refusal}
use Rattle.history.specs.Calls as history
use Rattle.history.specs.Calls.{answer}
use Rattle.history.proofs.Valid.{call_refusal_valid}
use Rattle.history.specs.declared.{Register.Register, Step.TheVariants.Commit, Step.TheVariants.Undo}
use Rattle.stored_form.specs.{Reading.Reading, Reading.found, Reading.refused as unread, Reader.read_record, Reader.class_layout, declared.Record.Record}
use Rattle.written_form.specs.Effect.{Effect, refuse, register_room, WroteOrRefused, AnswerDecides, longest_answer}
use Rattle.stored_form_theorems.specs.Numbers.{ZeroOrOneOf, class_numbers}
use Rattle.jacobian.proofs.Checking.{refusal_among}
use Rattle.stored_form.proofs.{Valid.ValidReading, Valid.record_valid, Valid.reading_valid}
use Rattle.written_form.proofs.{Checking.every, WroteOrRefused.call_wrote_or_refused, WroteOrRefused.answer_decides, WroteOrRefused.never_both, Effects.call_refused}
use Rattle.seal.specs.Calls.{register, membership_call, tags, room, called}
use Rattle.seal.specs.Steps.{Request, step, release, request_call}
use Rattle.seal.specs.Checking.{numbers, lengths}
use Rattle.seal.specs.declared.calls.Call.{Call}
use Rattle.seal.specs.declared.calls.Call.TheVariants.{Opposite, Double, Half, Sum, Stamp}
use Rattle.seal.proofs.Checking.{membership_checked, call_verdict, call_checked}
use Rattle.seal.proofs.ByteRegister.{requested, of_record, unwritten}

-- ---- membership

module _ (s : List ℕ) where
  pub membership_valid : ValidRefusal (membership_call s)
  unfolding membership_call
  membership_valid = reading_valid _ (record_valid class_layout s)

  pub membership_answers : ZeroOrOneOf class_numbers (membership_call s)
  unfolding listed
  membership_answers = refusal_among class_numbers refl (membership_checked s)

-- ---- the calls

pub call_refuses : (g : Register) (c : history.Call) (n : ℕ) → (answer g c).outcome ≡ refused n → IsRefusal n
call_refuses g c n e = refused_valid (call_refusal g c) n (call_refusal_valid g c) (sym (call_verdict g c) ∙ e)

pub wrote_or_refused : (call : Call) (s out : List ℕ) → WroteOrRefused (room call) (lengths call) (numbers call) out (called call s out)
unfolding listed
wrote_or_refused Opposite s out = call_wrote_or_refused (numbers Opposite) refl (call_checked Opposite s out)
wrote_or_refused Double s out = call_wrote_or_refused (numbers Double) refl (call_checked Double s out)
wrote_or_refused Half s out = call_wrote_or_refused (numbers Half) refl (call_checked Half s out)
wrote_or_refused Sum s out = call_wrote_or_refused (numbers Sum) refl (call_checked Sum s out)
wrote_or_refused Call.Commit s out = call_wrote_or_refused (numbers Call.Commit) refl (call_checked Call.Commit s out)
wrote_or_refused Call.Undo s out = call_wrote_or_refused (numbers Call.Undo) refl (call_checked Call.Undo s out)
wrote_or_refused Call.Release s out = call_wrote_or_refused (numbers Call.Release) refl (call_checked Call.Release s out)
wrote_or_refused (Stamp n) s out = call_wrote_or_refused (numbers (Stamp n)) refl (call_checked (Stamp n) s out)

pub lengths_low : (call : Call) → (every (λ n. leb n longest_answer) (lengths call) ≡ true) × (every (λ n. ltb longest_answer n) (numbers call) ≡ true)
lengths_low Opposite = (refl, refl)
lengths_low Double = (refl, refl)
lengths_low Half = (refl, refl)
lengths_low Sum = (refl, refl)
lengths_low Call.Commit = (refl, refl)
lengths_low Call.Undo = (refl, refl)
lengths_low Call.Release = (refl, refl)
lengths_low (Stamp n) = (refl, refl)

pub call_decides : (call : Call) (s out : List ℕ) → AnswerDecides (room call) (lengths call) (numbers call) out (called call s out)
call_decides call s out = answer_decides (lengths_low call).0 (lengths_low call).1 (wrote_or_refused call s out)

-- ---- a call whose answer is a length: its record was read

pub length_read : (call : Call) (s out : List ℕ) → (called call s out).answer ≤ longest_answer
    → (room call ≤ length out) × ((h : Record) × (end : ℕ) × (read_record (tags call) s ≡ found h end))
unfolding refuse ValidReading
length_read call s out low = (long, by (read_record (tags call) s) refl (record_valid (tags call) s))
  where
    long : room call ≤ length out
    long = ((call_decides call s out).wrote low).2

    by : (x : Reading Record) → read_record (tags call) s ≡ x → ValidReading x → (h : Record) × (end : ℕ) × (read_record (tags call) s ≡ found h end)
    by (found h end) e t = (h, end, e)
    by (unread k) e t = absurd (never_both (subst (λ (x : Effect). x.answer ≤ longest_answer) (call_refused (room call) (tags call) _ s out long e) low) t)

-- ---- a commit, an undo or a release whose answer is a length: it was accepted

pub room_is : (q : Request) → room (request_call q) ≡ register_room
room_is (step Commit op) = refl
room_is (step Undo op) = refl
room_is release = refl

module _ (q : Request) (s out : List ℕ) (low : (called (request_call q) s out).answer ≤ longest_answer) where
  pub accepted_room : register_room ≤ length out
  accepted_room = subst (λ (n : ℕ). n ≤ length out) (room_is q) (length_read (request_call q) s out low).0

  not_refused : (n : ℕ) → IsRefusal n → called (request_call q) s out ≡ refuse n out → ⊥
  unfolding refuse
  not_refused n i e = never_both (subst (λ (x : Effect). x.answer ≤ longest_answer) e low) i

  pub accepted_read : (h : Record) × (end : ℕ) × (read_record (tags (request_call q)) s ≡ found h end) × ((answer (register h) (requested q h)).outcome ≡ accepted)
  accepted_read = let r = (length_read (request_call q) s out low).1 in (r.0, r.1, r.2, taken r.0 r.1 r.2 (answer (register r.0) (requested q r.0)).outcome refl)
    where
      taken : (h : Record) (end : ℕ) → read_record (tags (request_call q)) s ≡ found h end → (v : Verdict) → (answer (register h) (requested q h)).outcome ≡ v → v ≡ accepted
      taken h end e accepted f = refl
      taken h end e (refused n) f =
          absurd (not_refused n (call_refuses (register h) (requested q h) n f) (of_record s out accepted_room q e ∙ unwritten out (answer (register h) (requested q h)) f))
