-- Lists of byte commits, undos and releases, and the lists of register calls that they are (docs/SPECIFICATION.md, 11).
-- Each call gets the count, the released step and the seal that the last accepted call wrote.
use Rattle.std.specs.Prelude.{ℕ, ◌≤◌, length, drop}
use mathlib.Core.{Path.◌≡◌, List.List, List.[], List.◌∷◌, List.◌++◌, List.map}
use Rattle.lists.specs.Lists.{All}
use Rattle.jacobian.specs.{Answer.accepted, Answer.refused, declared.Class.Class}
use Rattle.history.specs.{Machine.Machine, Machine.Event, Machine.carried, Register.other, Register.register_refusal, declared.Register.Register, declared.Step.Step}
use Rattle.history.specs.declared.Step.TheVariants as steps
use Rattle.history.specs.Calls as history
use Rattle.history.specs.Machine.{last, newest, accepted_calls}
use Rattle.stored_form.specs.{Number.Bytes, Number.decode_number, Reading.refused as unread, Cuts.take_fields, Cuts.drop_fields, Classes.curve_fields_bytes, Classes.decode_curve, Classes.decode_class, Classes.class_field}
use Rattle.stored_form.specs.{Record.empty_record, Reader.register_layout, Reader.read_fields}
use Rattle.written_form.specs.{Effect.Effect, Effect.register_room, Wrote.outcome, Wrote.wrote}
use Rattle.seal.specs.{Records.register_fields, Calls.called}
use Rattle.seal.specs.declared.calls.Call.{Call}
use Rattle.seal.specs.declared.calls.Call.TheVariants as calls

-- what is kept between calls: the fields of degree and curve, and the fields of count, released step and seal
pub record Kept : Type 0 where
  pub curve : List ℕ
  pub register : List ℕ

-- what is requested: a commit or an undo with the bytes given as the field of the operation's class, or a release
pub data Request : Type 0 where
  step : Step → List ℕ → Request
  release : Request

-- the bytes given as the operation's field; a release has none
unfoldable pub operation : Request → List ℕ
operation (step k op) = op
operation release = []

-- the call that a request makes
abbrev pub request_call : Request → Call
request_call (step steps.Commit op) = calls.Commit
request_call (step steps.Undo op) = calls.Undo
request_call release = calls.Release

-- a call: its request, and the lent output
pub record ByteCall : Type 0 where
  pub request : Request
  pub output : List ℕ

-- what a call does on the record of what is kept with its operation
abbrev pub call_effect : Kept → ByteCall → Effect
call_effect k c = called (request_call c.request) (k.curve ++ k.register ++ operation c.request) c.output

-- ---- the machine

-- what is kept after a call: what an accepted call wrote replaces the register's fields, a refusal changes nothing
unfoldable pub next : Kept → Effect → Kept
next k e = elim (outcome e.answer) [ accepted ↦ record { curve = k.curve; register = wrote e } | refused n ↦ k ]

-- the machine of byte commits, undos and releases
abbrev pub byte_calls : Machine Kept ByteCall
byte_calls = record { outcome = λ k c. outcome (call_effect k c).answer; next = λ k c. next k (call_effect k c) }

-- a byte call that was made, with its outcome and what was kept before and after it
abbrev pub ByteEvent : Type 0
ByteEvent = Event Kept ByteCall

-- every one of these calls gives bytes as its operation's field
abbrev pub BytesGiven : List ByteCall → Type 0
BytesGiven cs = All (λ c. Bytes (operation c.request)) cs

-- every one of these calls has an output with room for a register's fields
abbrev pub RegisterRooms : List ByteCall → Type 0
RegisterRooms cs = All (λ c. register_room ≤ length c.output) cs

-- ---- taking back

-- the request that takes a step back: the other step with the same operation; a release has none and stays as it is
unfoldable pub back : Request → Request
back (step k op) = step (other k) op
back release = release

-- the requests that take these calls back
abbrev pub backs : List ByteEvent → List Request
backs es = map (λ e. back e.call.request) es

-- none of these calls is a release, so each has a way back
abbrev pub NoReleases : List ByteEvent → Type 0
NoReleases es = All (λ e. ¬ (e.call.request ≡ release)) es

-- the calls bs take the calls es back, in this order, into any outputs that have room
pub record TakesBack (bs : List ByteCall) (es : List ByteEvent) : Type 0 where
  pub requests : map (λ c. c.request) bs ≡ backs es
  pub rooms : RegisterRooms bs

-- the calls for these requests with one buffer as every output, which each call gets as the call before it left it
unfoldable pub with_buffer : Kept → List ℕ → List Request → List ByteCall
with_buffer k buffer [] = []
with_buffer k buffer (q ∷ qs) =
    let c : ByteCall = record { request = q; output = buffer } in
    c ∷ with_buffer (byte_calls.next k c) (call_effect k c).output qs

-- ---- operations and seals

-- the operations of the steps among these calls, as they were given
unfoldable pub operations : List ByteEvent → List (List ℕ)
operations [] = []
operations (e ∷ es) = elim e.call.request [ step k op ↦ op ∷ operations es | release ↦ operations es ]

-- the field of the seal that is kept, which follows those of count and released step
abbrev pub seal_field : Kept → List ℕ
seal_field k = drop_fields 2 k.register

-- the record of the seal that is kept: degree and curve, then its field
abbrev pub seal_record : Kept → List ℕ
seal_record k = k.curve ++ seal_field k

-- the seal fields kept just before the steps among these calls; a release leaves the seal as it is
unfoldable pub seals_before : List ByteEvent → List (List ℕ)
seals_before [] = []
seals_before (e ∷ es) = elim e.call.request [ step k op ↦ seal_field e.before ∷ seals_before es | release ↦ seals_before es ]

-- the seal field that was last written, then those that were kept just before the accepted steps, newest first
unfoldable pub seal_fields : Kept → List ByteCall → List (List ℕ)
seal_fields k cs = seal_field (last byte_calls k cs) ∷ seals_before (newest byte_calls k cs)

-- ---- the registers and the register calls

-- the stored form of a register, as it is kept
unfoldable pub kept : Register → Kept
kept g = record { curve = curve_fields_bytes g.curve; register = register_fields g }

-- the request for a register call: its class in stored form
unfoldable pub encode_call : history.Call → Request
encode_call (history.step k a) = step k (class_field 0x44 a)
encode_call history.release = release

-- the class that a field's body decodes to
unfoldable pub field_class : List ℕ → Class
field_class field = decode_class (drop 3 field)

-- the register that the kept fields decode to
unfoldable pub decode_kept : Kept → Register
decode_kept k = record {
  curve = decode_curve (decode_number (drop 3 (take_fields 1 k.curve))) (drop 3 (drop_fields 1 k.curve));
  count = decode_number (drop 3 (take_fields 1 k.register));
  seal = field_class (seal_field k);
  released = decode_number (drop 3 (take_fields 1 (drop_fields 1 k.register)));
}

-- the register call that a request decodes to: the same step with the class of its operation, or a release
unfoldable pub decode_request : Request → history.Call
decode_request (step k op) = history.step k (field_class op)
decode_request release = history.release

-- the register call that a byte call decodes to
abbrev pub decode_call : ByteCall → history.Call
decode_call c = decode_request c.request

-- a byte call that was made, as a call on registers
abbrev pub decoded : ByteEvent → history.Event
decoded = carried decode_kept decode_call

-- the accepted byte calls of a list as calls on registers, newest first
unfoldable pub newest_decoded : Kept → List ByteCall → List history.Event
newest_decoded k cs = map decoded (newest byte_calls k cs)

-- the register that is kept after a list of byte calls
unfoldable pub last_decoded : Kept → List ByteCall → Register
last_decoded k cs = decode_kept (last byte_calls k cs)

-- the register calls of the accepted byte calls, in order
unfoldable pub decoded_calls : Kept → List ByteCall → List history.Call
decoded_calls k cs = map decode_call (accepted_calls byte_calls k cs)

-- what is kept is the stored form of the register that it decodes to, whatever register that is
abbrev pub Stored : Kept → Type 0
Stored k = kept (decode_kept k) ≡ k

-- what is kept is the stored form of a register that no check refuses
pub record InStoredForm (k : Kept) : Type 0 where
  pub stored : Stored k
  pub passes : register_refusal (decode_kept k) ≡ 0

-- every operation given to these calls is the field of the class that it decodes to, whatever class that is
abbrev pub StoredOperations : List ByteCall → Type 0
StoredOperations cs = All (λ c. encode_call (decode_call c) ≡ c.request) cs

-- the kept fields are refused with n when they are read, whatever follows them
abbrev pub Fails : Kept → ℕ → Type 0
Fails k n = (rest : List ℕ) → read_fields register_layout empty_record (k.curve ++ k.register ++ rest) 0 ≡ unread n
