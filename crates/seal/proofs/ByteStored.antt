-- Byte commits, undos and releases on records in stored form, whatever values they hold (docs/SPECIFICATION.md, 11).
-- The register and the operation's class are those that the record's fields decode to; any check may refuse them.
-- `stored_answers`: with room, the call writes what the register call answers for these values, or refuses as it does.
-- `stored_run`: a list of such calls happens as the register calls happen, refused ones with the same numbers.
-- `stored_last`: what is kept after it decodes to the register after the register calls.
use Prim.Native.Nat.{ℕ, zero, suc, ◌≤◌}
use mathlib.Core.Path.{◌≡◌, refl, sym, ap, ap₂, ◌∙◌, subst}
use mathlib.Core.List.{List, [], ◌∷◌, ◌++◌, map}
use native.Mathlib.Omega.{arith}
use lib.ListN.{length}
use Rattle.lists.specs.Lists.{All, none, more}
use Rattle.jacobian.specs.{Classes.class_refusal, Answer.Verdict, Answer.accepted, Answer.refused, Answer.refusal, declared.Class.Class}
use Rattle.jacobian.proofs.{ByValue.Checks.first_due, ByValue.Checks.next_due, Representation.accepts_both}
use Rattle.history.specs.{Register.RegisterReply, Register.register_refusal, Register.step_refusal, Register.stepped, Register.follows, Register.step_answer, Machine.event, Machine.run, Machine.last, Machine.carried, Machine.Agrees}
use Rattle.history.specs.Calls as history
use Rattle.history.specs.Calls.{answer, registers}
use Rattle.history.specs.declared.{Register.Register, Step.Step, Step.TheVariants.Commit, Step.TheVariants.Undo}
use Rattle.history.proofs.{Registers.register_passes, Registers.passes_register, Registers.follows_refused, OneCall.answer_curve, OneCall.refused_stays, OneCall.accepted_passes, Failing.failing_answer}
use Rattle.history.proofs.Machine.Carried.{run_carried, last_carried}
use Rattle.stored_form.specs.{Reading.refused as unread, Classes.curve_fields_bytes, Classes.decode_class, Classes.encode_class, Classes.class_field, Record.empty_record, Tags.rules, Reader.read_fields, Reader.read_record, Reader.register_layout, Reader.step_layout}
use Rattle.stored_form.proofs.{Readings.then_found, Readings.then_refused, Readings.checked_some, Readers.fields_append}
use Rattle.written_form.specs.{Effect.Effect, Effect.write, Effect.refuse, Effect.put, Effect.register_room, Wrote.outcome}
use Rattle.written_form.proofs.Wrote.{outcome_refusal}
use Rattle.seal.specs.{Records.register_values, Records.register_fields, Records.register_record_bytes, Calls.register_response, Calls.called}
use Rattle.seal.specs.Steps.{Kept, Request, step, release, operation, request_call, ByteCall, call_effect, next, byte_calls, RegisterRooms, kept, encode_call, field_class, decode_kept, decode_request, decode_call, decoded, Stored, StoredOperations}
use Rattle.seal.proofs.{WroteOrRefused.call_refuses, Decoding.body_of, Decoding.of_bodies, Decoding.kept_decoded, Decoding.decode_stored, Decoding.in_stored_form, KeptFields.register_read}
use Rattle.seal.proofs.{ByteRegister.unwritten, ByteRegister.call_answers, ByteRegister.call_written, ByteRegister.call_fits, StoredFields.field_read, StoredFields.class_allowed}
use Rattle.seal.proofs.{ByteFailing.call_unread, ByteFailing.register_fails, ByteFailing.failing_effect, OneByteStep.into, OneByteStep.write_leaves, OneByteStep.refused_stays as stays}

-- ---- one call

-- a register that passes, with an operation's class that does not
operation_fails : (g : Register) → register_refusal g ≡ 0 → (a : Class) → decode_class (encode_class a) ≡ a → ¬ (refusal g.curve a ≡ 0)
    → read_record step_layout (register_record_bytes g ++ class_field 0x44 a) ≡ unread (refusal g.curve a)
unfolding read_record read_fields class_field rules
operation_fails g ok a same fails =
    let s = register_record_bytes g ++ class_field 0x44 a in
    let p = register_read g (class_field 0x44 a) ok in
    then_refused _
    (fields_append register_layout (0x44 ∷ []) empty_record s 0
    ∙ then_found _ p.1
    ∙ then_refused _
    (field_read 0x44 (register_values g) s p.0 (encode_class a) (class_allowed a same) p.2
    ∙ checked_some (refusal g.curve (decode_class (encode_class a))) _ (λ e. fails (ap (refusal g.curve) (sym same) ∙ e))
    ∙ ap (λ (x : Class). unread (refusal g.curve x)) same))

-- so a step with it is not read
step_fails : (k : Step) (op : List ℕ) (s out : List ℕ) {n : ℕ} → read_record step_layout s ≡ unread n → register_room ≤ length out → called (request_call (step k op)) s out ≡ refuse n out
step_fails Commit op s out e room = call_unread (step Commit op) s e out room
step_fails Undo op s out e room = call_unread (step Undo op) s e out room

-- what a register call's body decodes to is the call itself
abbrev Decodes : history.Call → Type 0
Decodes (history.step k a) = decode_class (encode_class a) ≡ a
Decodes history.release = Unit {0}

module _ (g : Register) (same : of_bodies g ≡ g) (out : List ℕ) (room : register_room ≤ length out) where
  -- what a register call on the encoded values does
  abbrev Answers : history.Call → Type 0
  Answers c = called (request_call (encode_call c)) (register_record_bytes g ++ operation (encode_call c)) out ≡ put (register_response (answer g c)) out

  register_refuses : (c : history.Call) → ¬ (register_refusal g ≡ 0) → Answers c
  unfolding kept register_record_bytes
  register_refuses c nz =
      let read_back : decode_kept (kept g) ≡ g = kept_decoded g ∙ same in
      failing_effect (kept g)
      (subst (λ (t : Register). (rest : List ℕ) → read_fields register_layout empty_record (register_record_bytes g ++ rest) 0 ≡ unread (register_refusal t)) read_back
      (register_fails (kept g) (ap kept read_back) (λ z. nz (ap register_refusal (sym read_back) ∙ z))))
      (into out (encode_call c)) room
      ∙ sym (unwritten out (answer g c) (ap (λ (x : RegisterReply). x.outcome) (failing_answer g nz c)))

  class_refuses : (k : Step) (a : Class) → decode_class (encode_class a) ≡ a → register_refusal g ≡ 0 → ¬ (class_refusal g.curve a ≡ 0) → Answers (history.step k a)
  unfolding encode_call operation answer step_answer step_refusal refusal
  class_refuses k a class_same ok nz =
      let n = refusal g.curve a in
      let is : class_refusal g.curve a ≡ n = next_due refl (register_passes g ok).curve_passes refl in
      let due : ¬ (n ≡ 0) = λ z. nz (is ∙ z) in
      step_fails k (class_field 0x44 a) (register_record_bytes g ++ class_field 0x44 a) out (operation_fails g ok a class_same due) room
      ∙ sym
      (ap (λ (m : ℕ). put (register_response (follows m g (stepped k g a))) out) (sym (next_due refl ok (first_due _ (sym is) due)))
      ∙ unwritten out (follows n g (stepped k g a)) (ap (λ (x : RegisterReply). x.outcome) (follows_refused n g (stepped k g a) due)))

  record_answers : (c : history.Call) → Decodes c → Answers c
  record_answers c decodes = go (register_refusal g) refl c decodes
    where
      by_class : (k : Step) (a : Class) → decode_class (encode_class a) ≡ a → register_refusal g ≡ 0 → (m : ℕ) → class_refusal g.curve a ≡ m → Answers (history.step k a)
      by_class k a d ok (suc m) f = class_refuses k a d ok (λ z. omega arith)
      by_class k a d ok zero f = let p = register_passes g ok in call_answers g (history.step k a) p (accepts_both g.curve a p.curve_passes f) out room

      go : (n : ℕ) → register_refusal g ≡ n → (c : history.Call) → Decodes c → Answers c
      go (suc n) e c d = register_refuses c (λ z. omega arith)
      go zero e (history.step k a) d = by_class k a d e (class_refusal g.curve a) refl
      go zero e history.release d = call_answers g history.release (register_passes g e) tt out room

-- a request in stored form: the body of its class decodes to the class
request_decodes : (q : Request) → encode_call (decode_request q) ≡ q → Decodes (decode_request q)
unfolding encode_call decode_request operation field_class class_field
request_decodes (step k op) e = let a = field_class op in ap decode_class (sym (body_of 0x44 (encode_class a))) ∙ ap field_class (ap operation e)
request_decodes release e = tt

pub stored_answers : (k : Kept) → Stored k → (c : ByteCall) → encode_call (decode_call c) ≡ c.request → register_room ≤ length c.output
    → call_effect k c ≡ put (register_response (answer (decode_kept k) (decode_call c))) c.output
unfolding kept register_record_bytes
stored_answers k stored c field room =
    let g = decode_kept k in
    ap₂ (λ (t : Kept) (q : Request). called (request_call q) (t.curve ++ t.register ++ operation q) c.output) (sym stored) (sym field)
    ∙ record_answers g (sym (kept_decoded g) ∙ ap decode_kept stored) c.output room (decode_call c) (request_decodes c.request field)

-- ---- a list of calls

module _ (k : Kept) (stored : Stored k) (c : ByteCall) (field : encode_call (decode_call c) ≡ c.request) (room : register_room ≤ length c.output) where
  abbrev g : Register
  g = decode_kept k

  abbrev x : RegisterReply
  x = answer g (decode_call c)

  -- what the call answers, what is kept after it, and what that decodes to
  record Happens : Type 0 where
    outcome_is : byte_calls.outcome k c ≡ x.outcome
    left_is : decode_kept (byte_calls.next k c) ≡ x.register
    left_stored : Stored (byte_calls.next k c)

  happens : Happens
  unfolding kept write refuse
  happens = go x.outcome refl
    where
      same_curve : curve_fields_bytes x.register.curve ≡ k.curve
      same_curve = ap curve_fields_bytes (answer_curve g (decode_call c)) ∙ ap (λ (t : Kept). t.curve) stored

      go : (v : Verdict) → x.outcome ≡ v → Happens
      go accepted e =
          let effect : call_effect k c ≡ write (register_fields x.register) c.output = stored_answers k stored c field room ∙ call_written g (decode_call c) e c.output room in
          let p = write_leaves k (register_fields x.register) c.output (call_fits g (decode_call c) e) in
          let left : byte_calls.next k c ≡ kept x.register = ap (next k) effect ∙ p.1 ∙ ap (λ (f : List ℕ). record { curve = f; register = register_fields x.register }) (sym same_curve) in
          let ok = passes_register x.register (accepted_passes g (decode_call c) e) in
          record {
            outcome_is = ap (λ (y : Effect). outcome y.answer) effect ∙ p.0 ∙ sym e;
            left_is = ap decode_kept left ∙ decode_stored x.register ok;
            left_stored = subst Stored (sym left) (in_stored_form x.register ok).stored;
          }
      go (refused n) e =
          let effect : call_effect k c ≡ refuse n c.output = stored_answers k stored c field room ∙ unwritten c.output x e in
          let no : byte_calls.outcome k c ≡ refused n = ap (λ (y : Effect). outcome y.answer) effect ∙ outcome_refusal n (call_refuses g (decode_call c) n e) in
          let left = stays k c n no in
          record {
            outcome_is = no ∙ sym e;
            left_is = ap decode_kept left ∙ sym (refused_stays g (decode_call c) n e);
            left_stored = subst Stored (sym left) stored;
          }

  agrees : Agrees decode_kept decode_call registers (event byte_calls k c)
  unfolding Agrees carried event
  agrees =
      ap₂ (λ (v : Verdict) (t : Register). record { before = g; call = decode_call c; outcome = v; left = t }) (sym happens.outcome_is) (sym happens.left_is)

agree_all : (k : Kept) → Stored k → {cs : List ByteCall} → StoredOperations cs → RegisterRooms cs → All (Agrees decode_kept decode_call registers) (run byte_calls k cs)
unfolding run
agree_all k stored none none = none
agree_all k stored (more {a = c} f fs) (more room rooms) =
    more (agrees k stored c f room) (agree_all (byte_calls.next k c) (happens k stored c f room).left_stored fs rooms)

module _ (k : Kept) (stored : Stored k) (cs : List ByteCall) (fields : StoredOperations cs) (rooms : RegisterRooms cs) where
  pub stored_run : map decoded (run byte_calls k cs) ≡ history.run (decode_kept k) (map decode_call cs)
  stored_run = run_carried decode_kept decode_call byte_calls registers k cs (agree_all k stored fields rooms)

  pub stored_last : decode_kept (last byte_calls k cs) ≡ history.last (decode_kept k) (map decode_call cs)
  stored_last = last_carried decode_kept decode_call byte_calls registers k cs (agree_all k stored fields rooms)
