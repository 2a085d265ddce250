-- A list of byte commits, undos and releases is a list of calls on a register (docs/SPECIFICATION.md, 11).
-- The list starts from the stored form of any register that no check refuses; any bytes may be given as operations,
-- into any outputs, and calls may be refused. The register calls are the accepted ones, decoded (`decoded_calls`).
-- `newest_carried`: the accepted byte calls, decoded, are the accepted calls of these register calls.
-- `last_carried`: what is kept after the list decodes to the register after these register calls.
-- `released_grows`: no list of byte calls makes the released step that is kept smaller.
-- `above_released`: none leads to a count below it.
-- `none_behind`: after an accepted release no list of byte calls leads to a smaller count.
-- `operations_stored`: the operations of the accepted steps are the fields of the classes that they decode to.
-- `seals_stored`: the seal fields that were kept are the fields of the seals that they decode to.
-- So the theorems of the crate history on lists of calls hold of byte calls. What is kept is the stored form of the
-- register that it decodes to (`last_stored` of ByteSteps).
use Prim.Native.Nat.{◌≤◌}
use mathlib.Core.Path.{◌≡◌, refl, sym, ap, ap₂, ◌∙◌, subst}
use mathlib.Core.List.{List, ◌∷◌, map}
use lib.Dec.{lit<}
use Rattle.lists.specs.Lists.{All, none, more}
use Rattle.lists.proofs.Lists.{all_reverse}
use Rattle.jacobian.specs.Answer.{Verdict, accepted}
use Rattle.jacobian.proofs.Representation.{accepts_both}
use Rattle.history.specs.{Register.RegisterReply, Register.release_answer, Machine.event, Machine.last, Machine.newest, Machine.run, Machine.carried, Machine.Agrees}
use Rattle.history.specs.Calls as history
use Rattle.history.specs.Calls.{answer, registers}
use Rattle.history.specs.declared.Register.{Register}
use Rattle.history.proofs.{Registers.passes_register, OneCall.accepted_register, OneCall.accepted_class, OneCall.accepted_passes}
use Rattle.history.proofs.Releases as releases
use Rattle.history.proofs.Machine.{Run.all_accepted, Accepted.accepted_newest, Accepted.accepted_last}
use Rattle.stored_form.specs.Classes.{class_field}
use Rattle.seal.specs.Steps.{Kept, Request, step, release, operation, ByteCall, byte_calls, ByteEvent, BytesGiven, operations, seal_field, seals_before, seal_fields, encode_call, decode_kept, decode_request, decode_call, decoded, newest_decoded, last_decoded, decoded_calls, InStoredForm}
use Rattle.stored_form.specs.Number.{Bytes}
use Rattle.seal.proofs.{OneByteStep.Done, OneByteStep.done, OneByteStep.refused_stays, OneByteStep.kept_stored, ByteSteps.of_each, ByteSteps.last_stored, Decoding.seal_stored, Decoding.class_decoded, Decoding.decode_stored}

-- ---- an accepted call

-- a register call that is accepted is decoded from its request
request_decoded : (g : Register) (x : history.Call) → (answer g x).outcome ≡ accepted → decode_request (encode_call x) ≡ x
unfolding decode_request encode_call
request_decoded g (history.step k a) e =
    ap (history.step k) (class_decoded 0x44 (accepts_both g.curve a (accepted_register g (history.step k a) e).curve_passes (accepted_class g k a e)))
request_decoded g history.release e = refl

module _ (k : Kept) (form : InStoredForm k) (c : ByteCall) (bytes : Bytes (operation c.request)) (ok : byte_calls.outcome k c ≡ accepted) where
  abbrev g : Register
  g = decode_kept k

  did : Done k c
  did = done k form c bytes ok

  call_is : decode_call c ≡ did.call
  call_is = ap decode_request did.request ∙ request_decoded g did.call did.taken

  request_stored : c.request ≡ encode_call (decode_call c)
  request_stored = did.request ∙ ap encode_call (sym call_is)

  agrees : Agrees decode_kept decode_call registers (event byte_calls k c)
  unfolding Agrees carried event
  agrees =
      ap (λ (x : RegisterReply). record { before = g; call = decode_call c; outcome = x.outcome; left = x.register }) (ap (answer g) call_is)
      ∙ ap₂ (λ (v : Verdict) (t : Register). record { before = g; call = decode_call c; outcome = v; left = t })
      (did.taken ∙ sym ok)
      (sym (ap decode_kept did.leaves ∙ decode_stored _ (passes_register _ (accepted_passes g did.call did.taken))))

-- ---- the steps among byte calls

-- the operations of calls whose requests are in stored form
operations_are : {es : List ByteEvent} → All (λ e. e.call.request ≡ encode_call (decode_call e.call)) es → operations es ≡ map (class_field 0x44) (history.classes (map decoded es))
unfolding operations history.classes carried decode_request encode_call operation
operations_are none = refl
operations_are (more {a = e} {l = es} h hs) = go e.call.request h (operations_are hs)
  where
    go : (q : Request) → q ≡ encode_call (decode_request q) → operations es ≡ map (class_field 0x44) (history.classes (map decoded es))
        → elim q [ step k op ↦ op ∷ operations es | release ↦ operations es ]
        ≡ map (class_field 0x44) (elim (decode_request q) [ history.step k a ↦ a ∷ history.classes (map decoded es) | history.release ↦ history.classes (map decoded es) ])
    go (step k op) f i = ap₂ ◌∷◌ (ap operation f) i
    go release f i = i

-- the seal fields before calls that were made in stored form
seals_are : {es : List ByteEvent} → All (λ e. seal_field e.before ≡ class_field 0x43 (decode_kept e.before).seal) es
    → seals_before es ≡ map (class_field 0x43) (map (λ (e : history.Event). e.before.seal) (history.steps (map decoded es)))
unfolding seals_before history.steps carried decode_request
seals_are none = refl
seals_are (more {a = e} {l = es} h hs) = go e.call.request (seals_are hs)
  where
    go : (q : Request) → seals_before es ≡ map (class_field 0x43) (map (λ (e : history.Event). e.before.seal) (history.steps (map decoded es)))
        → elim q [ step k op ↦ seal_field e.before ∷ seals_before es | release ↦ seals_before es ]
        ≡ map (class_field 0x43) (map (λ (e : history.Event). e.before.seal) (elim (decode_request q) [ history.step k a ↦ decoded e ∷ history.steps (map decoded es) | history.release ↦ history.steps (map decoded es) ]))
    go (step k op) i = ap₂ ◌∷◌ h i
    go release i = i

-- ---- a list of calls

module _ (k : Kept) (form : InStoredForm k) (cs : List ByteCall) (bytes : BytesGiven cs) where
  accepted_agree : All (λ e. e.outcome ≡ accepted → Agrees decode_kept decode_call registers e) (run byte_calls k cs)
  unfolding event
  accepted_agree = of_each (λ t c h b e. agrees t h c b e) k form bytes

  pub newest_carried : newest_decoded k cs ≡ history.newest (decode_kept k) (decoded_calls k cs)
  unfolding newest_decoded decoded_calls
  newest_carried = accepted_newest decode_kept decode_call byte_calls registers refused_stays k cs accepted_agree

  pub last_carried : last_decoded k cs ≡ history.last (decode_kept k) (decoded_calls k cs)
  unfolding last_decoded decoded_calls
  last_carried = accepted_last decode_kept decode_call byte_calls registers refused_stays k cs accepted_agree

  pub released_grows : (decode_kept k).released ≤ (last_decoded k cs).released
  released_grows = rw last_carried (releases.released_grows (decode_kept k) (decoded_calls k cs))

  pub above_released : (decode_kept k).released ≤ (last_decoded k cs).count
  above_released = rw last_carried (releases.above_released (decode_kept k) (decoded_calls k cs) form.passes)

  pub operations_stored : operations (newest byte_calls k cs) ≡ map (class_field 0x44) (history.classes (newest_decoded k cs))
  unfolding newest event newest_decoded
  operations_stored = operations_are (all_reverse (all_accepted (of_each (λ t c h b e. request_stored t h c b e) k form bytes)))

  before_stored : All (λ e. seal_field e.before ≡ class_field 0x43 (decode_kept e.before).seal) (newest byte_calls k cs)
  unfolding newest event
  before_stored = all_reverse (all_accepted (of_each (λ t c h b e. seal_stored t h.stored) k form bytes))

  pub seals_stored : seal_fields k cs ≡ map (class_field 0x43) (history.seals_met (last_decoded k cs) (newest_decoded k cs))
  unfolding seal_fields newest_decoded last_decoded history.seals_met
  seals_stored = ap₂ ◌∷◌ (seal_stored (last byte_calls k cs) (last_stored k form bytes).stored) (seals_are before_stored)

-- ---- after a release

pub none_behind : (k : Kept) → InStoredForm k → (c : ByteCall) → c.request ≡ release → byte_calls.outcome k c ≡ accepted → (cs : List ByteCall) → BytesGiven cs
    → (decode_kept k).count ≤ (last_decoded (byte_calls.next k c) cs).count
unfolding Agrees carried event answer decode_request operation
none_behind k form c is ok cs bytes =
    let no_bytes : Bytes (operation c.request) = subst (λ q. Bytes (operation q)) (sym is) (λ i. lit< tt) in
    let after = byte_calls.next k c in
    let same = agrees k form c no_bytes ok in
    let call : decode_call c ≡ history.release = ap decode_request is in
    let accepts = ap (λ x. (answer (decode_kept k) x).outcome) (sym call) ∙ ap (λ (e : history.Event). e.outcome) same ∙ ok in
    let left : (release_answer (decode_kept k)).register ≡ decode_kept after = ap (λ x. (answer (decode_kept k) x).register) (sym call) ∙ ap (λ (e : history.Event). e.left) same in
    let behind = releases.none_behind (decode_kept k) (decoded_calls after cs) accepts in
    rw (last_carried after (kept_stored k form c no_bytes ok) cs bytes, ← left) behind
