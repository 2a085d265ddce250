-- Demand 3 of byte calls from a register that itself fails a check (docs/SPECIFICATION.md, 11).
-- `call_unread`: a commit, an undo or a release with room on a record that is not read answers that refusal.
-- `record_fails`: if reading the fields of a register is refused, so is the record of each of these calls.
-- `failing_effect`: if reading the kept fields is refused with n, every call with room, releases too, answers n and
-- changes no byte.
-- `failing_run`: so every call of a list, each with room, is refused with n, and what is kept stays.
-- `failing_last`: what is kept after the list is what was kept before it.
-- `register_fails`: the stored form of any register that fails a check by value is refused with that check's number.
use Prim.Native.Nat.{ℕ, ◌≤◌}
use mathlib.Core.Path.{◌≡◌, refl, sym, ap, ap₂, ◌∙◌, subst}
use mathlib.Core.List.{List, [], ◌∷◌, ◌++◌, map}
use lib.ListN.{length}
use Rattle.lists.specs.{Lists.none, Lists.more, Walk.foldl}
use Rattle.jacobian.specs.{Refusals.IsRefusal, Answer.Verdict, Answer.refused}
use Rattle.history.specs.{Register.register_refusal, Machine.event, Machine.run, Machine.last, declared.Register.Register, declared.Step.TheVariants.Commit, declared.Step.TheVariants.Undo}
use Rattle.stored_form.specs.{Reading.refused as unread, Record.empty_record, Reader.read_fields, Reader.read_record, Reader.register_layout}
use Rattle.stored_form.proofs.{Readings.then_refused, Readers.fields_append, Valid.ValidReading, Valid.record_valid}
use Rattle.written_form.specs.{Effect.Effect, Effect.refuse, Effect.register_room, Wrote.outcome}
use Rattle.written_form.proofs.{Effects.call_refused, Wrote.outcome_refusal}
use Rattle.seal.specs.{Records.register_record_bytes, Calls.tags, Calls.called, Calls.room as room_of}
use Rattle.seal.specs.Steps.{Kept, Request, step, release, operation, request_call, ByteCall, call_effect, byte_calls, RegisterRooms, kept, decode_kept, Stored, Fails}
use Rattle.seal.proofs.StoredFields.{register_unread}
use Rattle.seal.proofs.{Decoding.of_bodies, Decoding.kept_decoded, WroteOrRefused.room_is, OneByteStep.refused_stays}

-- ---- calls on fields that are refused

pub call_unread : (q : Request) (s : List ℕ) {n : ℕ} → read_record (tags (request_call q)) s ≡ unread n → (out : List ℕ) → register_room ≤ length out → called (request_call q) s out ≡ refuse n out
call_unread q s e out room = call_refused (room_of (request_call q)) (tags (request_call q)) _ s out (rw (room_is q) room) e

module _ (s : List ℕ) {n : ℕ} (fails : read_fields register_layout empty_record s 0 ≡ unread n) where
  pub record_fails : (q : Request) → read_record (tags (request_call q)) s ≡ unread n
  unfolding read_record
  record_fails (step Commit op) = then_refused _ (fields_append register_layout (0x44 ∷ []) empty_record s 0 ∙ then_refused _ fails)
  record_fails (step Undo op) = then_refused _ (fields_append register_layout (0x44 ∷ []) empty_record s 0 ∙ then_refused _ fails)
  record_fails release = then_refused _ fails

  is_refusal : IsRefusal n
  unfolding ValidReading
  is_refusal = subst ValidReading (record_fails release) (record_valid register_layout s)

module _ (k : Kept) {n : ℕ} (fails : Fails k n) where
  pub failing_effect : (c : ByteCall) → register_room ≤ length c.output → call_effect k c ≡ refuse n c.output
  failing_effect c room = let s = k.curve ++ k.register ++ operation c.request in call_unread c.request s (record_fails s (fails (operation c.request)) c.request) c.output room

  failing_outcome : (c : ByteCall) → register_room ≤ length c.output → byte_calls.outcome k c ≡ refused n
  unfolding refuse
  failing_outcome c room = ap (λ (e : Effect). outcome e.answer) (failing_effect c room) ∙ outcome_refusal n (is_refusal (k.curve ++ k.register ++ []) (fails []))

  failing_stays : (c : ByteCall) → register_room ≤ length c.output → byte_calls.next k c ≡ k
  failing_stays c room = refused_stays k c n (failing_outcome c room)

  pub failing_run : {cs : List ByteCall} → RegisterRooms cs → run byte_calls k cs ≡ map (λ c. record { before = k; call = c; outcome = refused n; left = k }) cs
  unfolding run event
  failing_run none = refl
  failing_run (more {a = c} {l = cs} room rooms) =
      ap₂ ◌∷◌
      (ap₂ (λ (v : Verdict) (t : Kept). record { before = k; call = c; outcome = v; left = t }) (failing_outcome c room) (failing_stays c room))
      (ap (λ (t : Kept). run byte_calls t cs) (failing_stays c room) ∙ failing_run rooms)

  pub failing_last : {cs : List ByteCall} → RegisterRooms cs → last byte_calls k cs ≡ k
  unfolding last foldl
  failing_last none = refl
  failing_last (more {a = c} {l = cs} room rooms) = ap (λ (t : Kept). last byte_calls t cs) (failing_stays c room) ∙ failing_last rooms

-- ---- the stored form of a register that fails a check by value

pub register_fails : (k : Kept) → Stored k → ¬ (register_refusal (decode_kept k) ≡ 0) → Fails k (register_refusal (decode_kept k))
unfolding kept register_record_bytes
register_fails k stored fails rest =
    let g = decode_kept k in
    let same : of_bodies g ≡ g = sym (kept_decoded g) ∙ ap decode_kept stored in
    ap (λ (t : Kept). read_fields register_layout empty_record (t.curve ++ t.register ++ rest) 0) (sym stored)
    ∙ register_unread g same (λ e. fails (ap register_refusal (sym same) ∙ e)) rest
    ∙ ap (λ (r : Register). unread (register_refusal r)) same
