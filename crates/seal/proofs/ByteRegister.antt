-- A byte commit, undo or release answers what the register call answers for the record's values
-- (docs/SPECIFICATION.md, 11). Every output has the room that the calls require.
-- `of_record`: on a record that is read, the response is the register call's for its values.
-- `commit_of_record`, `undo_of_record`, `release_of_record`: the same of each call.
-- `written`, `unwritten`: an accepted answer writes its register's fields; a refused one is a refusal.
-- `call_fits`: they fit the room. `call_written`: so they are written.
-- `as_requested`: a record with a register and a call's class makes that call on that register.
-- `call_answers`: a call on the encoded values, which pass, writes what the register call answers for them.
-- `call_accepts`: it is accepted if the register call accepts the encoded values.
-- `release_twice_bytes`: a second release, of the record rebuilt from what the first wrote, writes the same bytes.
-- `undo_of_commit_bytes`: undo on the record rebuilt from a commit's output writes the record's register.
-- `commit_of_undo_bytes`: commit on the record rebuilt from an undo's output does the same.
use Prim.Native.Nat.{ℕ, ◌≤◌}
use mathlib.Core.Path.{◌≡◌, refl, sym, ap, ap₂, ◌∙◌}
use mathlib.Core.List.{List, [], ◌++◌, append-nil}
use native.Mathlib.Omega.{arith}
use lib.ListN.{length, length-append}
use Rattle.jacobian.specs.{Answer.accepted, Answer.refused, declared.Curve.Curve, declared.Class.Class}
use Rattle.jacobian.proofs.Representation.{accepts_both}
use Rattle.history.specs.declared.{Register.Register, Step.Step, Step.TheVariants.Commit, Step.TheVariants.Undo}
use Rattle.history.specs.Register.{RegisterReply, other, commit_answer, undo_answer, release_answer}
use Rattle.history.specs.Calls as history
use Rattle.history.specs.Calls.{answer}
use Rattle.history.proofs.{Registers.Passes, Registers.passes_register, OneStep.step_taken_back, OneStep.release_twice, OneCall.answer_curve, OneCall.accepted_register, OneCall.accepted_class, OneCall.accepted_passes}
use Rattle.stored_form.specs.{Reading.found, Fields.count_field, Fields.released_field, Classes.curve_fields_bytes, Classes.class_field, Reader.read_record, Reader.register_layout, Reader.step_layout}
use Rattle.written_form.specs.Effect.{Effect, refuse, write, put, register_room}
use Rattle.written_form.specs.Wrote.{wrote}
use Rattle.stored_form.specs.declared.Record.{Record}
use Rattle.stored_form_theorems.proofs.ClassRoundTrips.{class_short}
use Rattle.stored_form.proofs.Lengths.{length_count, length_released}
use Rattle.written_form.proofs.{Effects.call_found, Effects.put_accepted, Effects.put_refused, Wrote.wrote_write}
use Rattle.seal.specs.Records.{register_fields, register_record_bytes}
use Rattle.seal.specs.Rebuilt.{step_rebuilt}
use Rattle.seal.specs.Calls.{register, register_response, answered, tags, called, commit_call, undo_call, release_call}
use Rattle.seal.specs.Steps.{Request, step, release, operation, request_call, encode_call}
use Rattle.seal.proofs.KeptFields.{call_values, CallClassPasses, call_record_back}

-- ---- what is written for a register call's answer

module _ (out : List ℕ) (x : RegisterReply) where
  pub unwritten : {n : ℕ} → x.outcome ≡ refused n → put (register_response x) out ≡ refuse n out
  unfolding register_response
  unwritten e = put_refused x.outcome _ out e

  pub written : x.outcome ≡ accepted → length (register_fields x.register) ≤ length out → put (register_response x) out ≡ write (register_fields x.register) out
  unfolding register_response
  written e fits = put_accepted x.outcome _ out e fits

-- ---- a record that is read

-- the register call that a request makes with the record's operation
abbrev pub requested : Request → Record → history.Call
requested (step k op) h = history.step k h.operation
requested release h = history.release

module _ (s out : List ℕ) (room : register_room ≤ length out) {h : Record} {end : ℕ} where
  pub of_record : (q : Request) → read_record (tags (request_call q)) s ≡ found h end → called (request_call q) s out ≡ put (register_response (answer (register h) (requested q h))) out
  unfolding answered answer
  of_record (step Commit op) e = call_found register_room step_layout _ s out room e
  of_record (step Undo op) e = call_found register_room step_layout _ s out room e
  of_record release e = call_found register_room register_layout _ s out room e

  pub commit_of_record : read_record step_layout s ≡ found h end → commit_call s out ≡ put (register_response (commit_answer (register h) h.operation)) out
  unfolding answer
  commit_of_record e = of_record (step Commit []) e

  pub undo_of_record : read_record step_layout s ≡ found h end → undo_call s out ≡ put (register_response (undo_answer (register h) h.operation)) out
  unfolding answer
  undo_of_record e = of_record (step Undo []) e

  pub release_of_record : read_record register_layout s ≡ found h end → release_call s out ≡ put (register_response (release_answer (register h))) out
  unfolding answer
  release_of_record e = of_record release e

-- ---- encoded values

-- the fields of a register that passes are no longer than `register_room`
fields_short : (g : Register) → Passes g → length (register_fields g) ≤ register_room
fields_short g p =
    let seal = accepts_both g.curve g.seal p.curve_passes p.seal_passes in
    let counts = count_field g.count ++ released_field g.released in
    omega (
      arith,
      length-append counts (class_field 0x43 g.seal),
      length-append (count_field g.count) (released_field g.released),
      length_count g.count,
      length_released g.released,
      class_short 0x43 g.curve g.seal seal.none,
    )

pub as_requested : (g : Register) (c : history.Call) → answer (register (call_values g c)) (requested (encode_call c) (call_values g c)) ≡ answer g c
unfolding encode_call
as_requested g (history.step k a) = refl
as_requested g history.release = refl

pub call_answers : (g : Register) (c : history.Call) → Passes g → CallClassPasses g c → (out : List ℕ) → register_room ≤ length out →
    called (request_call (encode_call c)) (register_record_bytes g ++ operation (encode_call c)) out ≡ put (register_response (answer g c)) out
call_answers g c p class out room =
    of_record (register_record_bytes g ++ operation (encode_call c)) out room (encode_call c) (call_record_back g (passes_register g p) c class)
    ∙ ap (λ (x : RegisterReply). put (register_response x) out) (as_requested g c)

module _ (g : Register) (c : history.Call) (e : (answer g c).outcome ≡ accepted) where
  pub call_fits : length (register_fields (answer g c).register) ≤ register_room
  call_fits = fields_short (answer g c).register (accepted_passes g c e)

  pub call_written : (out : List ℕ) → register_room ≤ length out → put (register_response (answer g c)) out ≡ write (register_fields (answer g c).register) out
  call_written out room = written out (answer g c) e (let l = call_fits in omega arith)

  pub call_accepts : (out : List ℕ) → register_room ≤ length out →
      called (request_call (encode_call c)) (register_record_bytes g ++ operation (encode_call c)) out ≡ write (register_fields (answer g c).register) out
  call_accepts out room = call_answers g c (accepted_register g c e) (class_passes c e) out room ∙ call_written out room
    where
      class_passes : (x : history.Call) → (answer g x).outcome ≡ accepted → CallClassPasses g x
      class_passes (history.step k a) f = accepts_both g.curve a (accepted_register g (history.step k a) f).curve_passes (accepted_class g k a f)
      class_passes history.release f = tt

-- ---- a second release

-- a release of the register that an accepted one gave
again : (g : Register) → (release_answer g).outcome ≡ accepted → (out : List ℕ) → register_room ≤ length out →
    release_call (register_record_bytes (release_answer g).register) out ≡ write (register_fields (release_answer g).register) out
unfolding answer encode_call operation
again g e out room =
    let next = (release_answer g).register in
    let same = release_twice g e in
    ap (λ (s : List ℕ). release_call s out) (sym (append-nil (register_record_bytes next)))
    ∙ call_accepts next history.release (ap (λ (x : RegisterReply). x.outcome) same ∙ e) out room
    ∙ ap (λ (x : RegisterReply). write (register_fields x.register) out) same

module _ (s out last : List ℕ) (room : register_room ≤ length out) (room' : register_room ≤ length last) {h : Record} {end : ℕ} where
  pub release_twice_bytes : read_record register_layout s ≡ found h end → (release_answer (register h)).outcome ≡ accepted →
      release_call (curve_fields_bytes h.curve ++ wrote (release_call s out)) last ≡ write (wrote (release_call s out)) last
  unfolding answer register_record_bytes
  release_twice_bytes read e =
      let g = register h in
      let next = (release_answer g).register in
      let short = call_fits g history.release e in
      let is : wrote (release_call s out) ≡ register_fields next = ap wrote (release_of_record s out room read ∙ call_written g history.release e out room) ∙ wrote_write (register_fields next) out (omega arith) in
      ap₂ (λ (c : Curve) (fields : List ℕ). release_call (curve_fields_bytes c ++ fields) last) (sym (answer_curve g history.release)) is
      ∙ again g e last room'
      ∙ ap (λ (fields : List ℕ). write fields last) (sym is)

-- ---- taking back

rebuilt_write : (g k : Register) (a : Class) (out : List ℕ) → length (register_fields k) ≤ register_room → k.curve ≡ g.curve →
    step_rebuilt g a (write (register_fields k) out) ≡ register_record_bytes k ++ class_field 0x44 a
unfolding step_rebuilt register_record_bytes
rebuilt_write g k a out short same = rw (wrote_write (register_fields k) out (omega arith), same)

module _ (s out last : List ℕ) (room : register_room ≤ length out) (room' : register_room ≤ length last) {h : Record} {end : ℕ} where
  -- the other step on the record rebuilt from an accepted step's output writes the record's register
  taken_back : (k : Step) → read_record (tags (request_call (step k []))) s ≡ found h end → (answer (register h) (history.step k h.operation)).outcome ≡ accepted →
      called (request_call (step (other k) [])) (step_rebuilt (register h) h.operation (called (request_call (step k [])) s out)) last ≡ write (register_fields (register h)) last
  unfolding answer encode_call operation
  taken_back k read e =
      let g = register h in
      let a = h.operation in
      let c = history.step k a in
      let next = (answer g c).register in
      let back = step_taken_back g a k e in
      let op = class_field 0x44 a in
      ap (λ (x : Effect). called (request_call (step (other k) [])) (step_rebuilt g a x) last) (of_record s out room (step k []) read ∙ call_written g c e out room)
      ∙ ap (λ (t : List ℕ). called (request_call (step (other k) [])) t last) (rebuilt_write g next a out (call_fits g c e) (answer_curve g c))
      ∙ by_step (other k) op (register_record_bytes next ++ op)
      ∙ call_accepts next (history.step (other k) a) (ap (λ (x : RegisterReply). x.outcome) back) last room'
      ∙ ap (λ (x : RegisterReply). write (register_fields x.register) last) back
    where
      -- the operation given is not looked at
      by_step : (j : Step) (op t : List ℕ) → called (request_call (step j [])) t last ≡ called (request_call (step j op)) t last
      by_step Commit op t = refl
      by_step Undo op t = refl

  pub undo_of_commit_bytes : read_record step_layout s ≡ found h end → (commit_answer (register h) h.operation).outcome ≡ accepted →
      undo_call (step_rebuilt (register h) h.operation (commit_call s out)) last ≡ write (register_fields (register h)) last
  unfolding answer other
  undo_of_commit_bytes read e = taken_back Commit read e

  pub commit_of_undo_bytes : read_record step_layout s ≡ found h end → (undo_answer (register h) h.operation).outcome ≡ accepted →
      commit_call (step_rebuilt (register h) h.operation (undo_call s out)) last ≡ write (register_fields (register h)) last
  unfolding answer other
  commit_of_undo_bytes read e = taken_back Undo read e
