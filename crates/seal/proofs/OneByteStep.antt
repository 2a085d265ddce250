-- One byte commit, undo or release from the stored form of a register that no check refuses
-- (docs/SPECIFICATION.md, 11).
-- `refused_stays`: a refusal changes nothing that is kept.
-- `write_leaves`: a call that writes is accepted, and what it wrote is kept.
-- `done`: an accepted call's request is that of a register call which is accepted, its class in stored form, and what
-- is kept after it is the stored form of the register after that call.
-- `kept_stored`: so it is in stored form. `room_was`: the output had room.
-- `returned`: if it is no release, the other step with the same operation, into any output that has room, brings back
-- what was kept.
use Prim.Native.Nat.{ℕ, ◌≤◌}
use mathlib.Core.Path.{◌≡◌, refl, sym, ap, ◌∙◌, subst}
use mathlib.Core.List.{List, ◌++◌}
use native.Mathlib.Omega.{arith}
use lib.ListN.{length}
use Rattle.jacobian.specs.Answer.{Verdict, accepted, refused}
use Rattle.history.specs.{Machine.event, Machine.turned, declared.Register.Register}
use Rattle.history.specs.Calls as history
use Rattle.history.specs.Calls.{answer}
use Rattle.history.proofs.{Registers.passes_register, OneCall.answer_curve, OneCall.accepted_passes, OneCall.reversible}
use Rattle.stored_form.specs.{Number.Bytes, Classes.curve_fields_bytes, declared.Record.Record}
use Rattle.written_form.specs.{Effect.Effect, Effect.write, Effect.register_room, Effect.longest_answer, Wrote.outcome, Wrote.wrote}
use Rattle.written_form.proofs.Wrote.{outcome_low, accepted_low, wrote_write}
use Rattle.seal.specs.{Records.register_fields, Records.register_record_bytes, Calls.register, Calls.called}
use Rattle.seal.specs.Steps.{Kept, Request, release, operation, request_call, ByteCall, call_effect, next, byte_calls, back, kept, encode_call, decode_kept, InStoredForm}
use Rattle.seal.proofs.{KeptFields.call_values, KeptFields.Carries, KeptFields.record_carries, ByteRegister.requested, ByteRegister.as_requested, ByteRegister.call_fits, ByteRegister.call_accepts, Decoding.in_stored_form}
use Rattle.seal.proofs.{WroteOrRefused.accepted_room, WroteOrRefused.accepted_read}

-- ---- what is kept after a call

-- a refusal changes nothing that is kept
pub refused_stays : (k : Kept) (c : ByteCall) (n : ℕ) → byte_calls.outcome k c ≡ refused n → byte_calls.next k c ≡ k
unfolding next
refused_stays k c n e =
    ap (λ (v : Verdict). elim v [ accepted ↦ record { curve = k.curve; register = wrote (call_effect k c) } | refused n ↦ k ]) e

-- a call that writes is accepted, and what it wrote is kept
pub write_leaves : (k : Kept) (xs out : List ℕ) → length xs ≤ register_room → (outcome (write xs out).answer ≡ accepted) × (next k (write xs out) ≡ record { curve = k.curve; register = xs })
unfolding next write
write_leaves k xs out short =
    let e = outcome_low (length xs) (omega arith) in (
      e,
      ap (λ (v : Verdict). elim v [ accepted ↦ record { curve = k.curve; register = wrote (write xs out) } | refused n ↦ k ]) e
          ∙ ap (λ (ys : List ℕ). record { curve = k.curve; register = ys }) (wrote_write xs out (omega arith)),
    )

-- ---- an accepted call

-- What an accepted call did from the stored form of a register: its request was that of a register call which is
-- accepted, and it wrote the register after that call.
pub record Done (k : Kept) (c : ByteCall) : Type 0 where
  pub call : history.Call
  pub request : c.request ≡ encode_call call
  pub taken : (answer (decode_kept k) call).outcome ≡ accepted
  pub leaves : byte_calls.next k c ≡ kept (answer (decode_kept k) call).register

-- a call with this request and this output
abbrev pub into : List ℕ → Request → ByteCall
into out q = record { request = q; output = out }

-- the request that takes a register call back
back_encoded : (c : history.Call) → back (encode_call c) ≡ encode_call (history.back c)
unfolding back encode_call history.back
back_encoded (history.step k a) = refl
back_encoded history.release = refl

module _ (k : Kept) (form : InStoredForm k) (c : ByteCall) (bytes : Bytes (operation c.request)) (ok : byte_calls.outcome k c ≡ accepted) where
  abbrev g : Register
  g = decode_kept k

  -- what a request does on a register's record into the call's output
  abbrev on_record : Register → List ℕ → Request → Effect
  on_record r out q = called (request_call q) (register_record_bytes r ++ operation q) out

  effect_is : call_effect k c ≡ on_record g c.output c.request
  unfolding kept register_record_bytes
  effect_is = ap (λ (t : Kept). called (request_call c.request) (t.curve ++ t.register ++ operation c.request) c.output) (sym form.stored)

  low : (on_record g c.output c.request).answer ≤ longest_answer
  low = subst (λ (e : Effect). e.answer ≤ longest_answer) effect_is (accepted_low _ ok)

  abbrev s : List ℕ
  s = register_record_bytes g ++ operation c.request

  -- its request is that of a register call
  carries : Carries g c.request (accepted_read c.request s c.output low).0
  carries = record_carries g form.passes c.request bytes (accepted_read c.request s c.output low).2

  abbrev x : history.Call
  x = carries.call

  -- which is accepted
  taken : (answer g x).outcome ≡ accepted
  taken =
      sym (ap (λ y. y.outcome) (as_requested g x))
      ∙ subst (λ (q : Request). (answer (register (call_values g x)) (requested q (call_values g x))).outcome ≡ accepted) carries.request
      (subst (λ (h : Record). (answer (register h) (requested c.request h)).outcome ≡ accepted) carries.values (accepted_read c.request s c.output low).3)

  abbrev after : Register
  after = (answer g x).register

  same_curve : k.curve ≡ curve_fields_bytes after.curve
  unfolding kept
  same_curve = ap (λ (t : Kept). t.curve) (sym form.stored) ∙ ap curve_fields_bytes (sym (answer_curve g x))

  pub room_was : register_room ≤ length c.output
  room_was = accepted_room c.request s c.output low

  -- it writes the register after that call
  leaves : byte_calls.next k c ≡ kept after
  unfolding kept
  leaves =
      ap (next k) (effect_is ∙ ap (on_record g c.output) carries.request ∙ call_accepts g x taken c.output room_was)
      ∙ (write_leaves k (register_fields after) c.output (call_fits g x taken)).1
      ∙ ap (λ (xs : List ℕ). record { curve = xs; register = register_fields after }) same_curve

  pub done : Done k c
  done = record { call = x; request = carries.request; taken = taken; leaves = leaves }

  pub kept_stored : InStoredForm (byte_calls.next k c)
  kept_stored = subst InStoredForm (sym leaves) (in_stored_form after (passes_register after (accepted_passes g x taken)))

  -- the other step brings back what was kept
  module _ (no_release : ¬ (c.request ≡ release)) (out : List ℕ) (room : register_room ≤ length out) where
    abbrev back_call : ByteCall
    back_call = into out (back c.request)

    -- so it does by value
    turns : event history.registers after (history.back x) ≡ turned history.back (event history.registers g x)
    unfolding encode_call
    turns = reversible.returns g x tt (λ e. no_release (carries.request ∙ ap encode_call e)) taken

    back_taken : (answer after (history.back x)).outcome ≡ accepted
    unfolding event turned
    back_taken = ap (λ (e : history.Event). e.outcome) turns

    back_register : (answer after (history.back x)).register ≡ g
    unfolding event turned
    back_register = ap (λ (e : history.Event). e.left) turns

    back_effect : call_effect (kept after) back_call ≡ write (register_fields g) out
    unfolding kept register_record_bytes
    back_effect =
        ap (on_record after out) (ap back carries.request ∙ back_encoded x)
        ∙ call_accepts after (history.back x) back_taken out room
        ∙ ap (λ (r : Register). write (register_fields r) out) back_register

    back_left : (outcome (write (register_fields g) out).answer ≡ accepted) × (next (kept after) (write (register_fields g) out) ≡ k)
    unfolding kept
    back_left =
        let p = write_leaves (kept after) (register_fields g) out (subst (λ (r : Register). length (register_fields r) ≤ register_room) back_register (call_fits after (history.back x) back_taken)) in
        (p.0, p.1 ∙ ap (λ (xs : List ℕ). record { curve = xs; register = register_fields g }) (sym same_curve ∙ ap (λ (t : Kept). t.curve) (sym form.stored)) ∙ form.stored)

    pub returned : (byte_calls.outcome (byte_calls.next k c) back_call ≡ accepted) × (byte_calls.next (byte_calls.next k c) back_call ≡ k)
    returned = (
      ap (λ (t : Kept). byte_calls.outcome t back_call) leaves ∙ ap (λ (e : Effect). outcome e.answer) back_effect ∙ back_left.0,
      ap (λ (t : Kept). byte_calls.next t back_call) leaves ∙ ap (next (kept after)) back_effect ∙ back_left.1,
    )
