-- Calls that answer a class, and calls on the record of one class, with an output that has room for a class field.
-- `class_written`: a call that gives a valid class for its record writes the class's field.
-- `call_writes`: the same for a call on the record of one class.
-- `rebuilt_write`: a record rebuilt from bytes that were written has these bytes for its class field.
-- `rebuilt_bytes`: the record rebuilt from the field of a class is the record of that class.
-- `last_short`: the class field of a class's record is no longer than `class_room`.
-- `follow_writes`: a second call on the rebuilt record writes the field of its own answer for that class.
-- `taken_back`: if the second answer takes the first back, it writes the class field of the first record.
use Prim.Native.Nat.{ℕ, ◌≤◌}
use mathlib.Core.Path.{◌≡◌, refl, sym, ap, ◌∙◌, subst}
use mathlib.Core.List.{List, ◌++◌}
use native.Mathlib.Omega.{arith}
use lib.ListN.{length}
use Rattle.jacobian.specs.{Answer.Result, Answer.gives, declared.Curve.Curve, declared.Class.Class}
use Rattle.stored_form.specs.{Number.Bytes, Reading.found, Head.class_room, Classes.curve_fields_bytes, Classes.class_field, Passing.ClassPasses, Reader.read_record, Reader.class_layout, declared.Record.Record}
use Rattle.written_form.specs.Effect.{Effect, Response, write, class_response, byte_call}
use Rattle.stored_form_theorems.proofs.{ClassRoundTrips.class_short, Cuts.take_cut, Cuts.drop_cut, Cuts.curve_cut}
use Rattle.written_form.proofs.{Effects.answer_written, Wrote.wrote_write}
use Rattle.seal.specs.{Records.class_values, Records.class_record_bytes, Records.ClassStored, Rebuilt.first_fields, Rebuilt.last_field, Rebuilt.class_rebuilt}
use Rattle.seal.proofs.{Written.class_record_written, Written.class_record_back, Passing.Given}

pub class_written : (tags : List ℕ) (answer : Record → Response) (s out : List ℕ) → class_room ≤ length out → {h : Record} {end : ℕ} → read_record tags s ≡ found h end →
    {c : Curve} {r : Result} → Given c r → answer h ≡ class_response r → byte_call class_room tags answer s out ≡ write (class_field 0x43 r.class) out
unfolding class_response
class_written tags answer s out room read {c} {r} given is =
    answer_written class_room tags answer s out room read r.outcome (class_field 0x43 r.class) is (ap (λ (x : Result). x.outcome) given.gives_class)
    (class_short 0x43 c r.class given.passes.none)

-- a call that answers for the curve and the class of its record
abbrev pub class_call : (Curve → Class → Result) → List ℕ → List ℕ → Effect
class_call f s out = byte_call class_room class_layout (λ h. class_response (f h.curve h.class)) s out

pub call_writes : (s out : List ℕ) → class_room ≤ length out → {h : Record} {end : ℕ} → read_record class_layout s ≡ found h end → (f : Curve → Class → Result)
    → Given h.curve (f h.curve h.class) → class_call f s out ≡ write (class_field 0x43 (f h.curve h.class).class) out
call_writes s out room {h} read f given = class_written class_layout _ s out room read given refl

-- ---- the record rebuilt from what was written

pub rebuilt_write : (s bytes out : List ℕ) → length bytes ≤ class_room → class_rebuilt s (write bytes out) ≡ first_fields s ++ bytes
unfolding class_rebuilt
rebuilt_write s bytes out short = ap (λ (l : List ℕ). first_fields s ++ l) (wrote_write bytes out (omega arith))

module _ {s : List ℕ} (c : Curve) (a : Class) (bytes : s ≡ class_record_bytes c a) where
  pub first_is : first_fields s ≡ curve_fields_bytes c
  unfolding class_record_bytes
  first_is = ap (λ (l : List ℕ). first_fields l) bytes ∙ take_cut 2 (curve_fields_bytes c) (class_field 0x43 a) (curve_cut (class_field 0x43 a) c)

  pub last_is : last_field s ≡ class_field 0x43 a
  unfolding class_record_bytes
  last_is = ap (λ (l : List ℕ). last_field l) bytes ∙ drop_cut 2 (curve_fields_bytes c) (class_field 0x43 a) (curve_cut (class_field 0x43 a) c)

  pub rebuilt_bytes : {x : Class} → ClassPasses c x → (out : List ℕ) → class_rebuilt s (write (class_field 0x43 x) out) ≡ class_record_bytes c x
  unfolding class_record_bytes
  rebuilt_bytes {x} p out = rebuilt_write s (class_field 0x43 x) out (class_short 0x43 c x p.none) ∙ ap (λ (l : List ℕ). l ++ class_field 0x43 x) first_is

-- ---- the record of a class that no check refuses
module _ {s : List ℕ} {c : Curve} {a : Class} (bytes : s ≡ class_record_bytes c a) (p : ClassPasses c a) where
  -- its class field is short
  pub last_short : length (last_field s) ≤ class_room
  last_short = subst (λ (l : List ℕ). length l ≤ class_room) (sym (last_is c a bytes)) (class_short 0x43 c a p.none)

  pub stored_read : read_record class_layout s ≡ found (class_values c a) (length s)
  stored_read = class_record_back (record { curve = c; class = a; values = refl; bytes = bytes; passes = p })

  pub stored_writes : (f : Curve → Class → Result) → Given c (f c a) → (out : List ℕ) → class_room ≤ length out → class_call f s out ≡ write (class_field 0x43 (f c a).class) out
  stored_writes f given out room = call_writes s out room stored_read f given

  pub stored_rebuilt : (f : Curve → Class → Result) → Given c (f c a) → (out : List ℕ) → class_room ≤ length out → class_rebuilt s (class_call f s out) ≡ class_record_bytes c (f c a).class
  stored_rebuilt f given out room = ap (class_rebuilt s) (stored_writes f given out room) ∙ rebuilt_bytes c a bytes given.passes out

-- ---- a record that is read is such a record
pub is_stored : (s : List ℕ) → Bytes s → {h : Record} {end : ℕ} → read_record class_layout s ≡ found h end → ClassStored s h
is_stored s bytes read = (class_record_written bytes read).0

module _ {s : List ℕ} {h : Record} (w : ClassStored s h) (out : List ℕ) (room : class_room ≤ length out) (last : List ℕ) (room' : class_room ≤ length last) where
  pub follow_writes : (f g : Curve → Class → Result) → let c = w.curve in let x = (f c w.class).class in
      Given c (f c w.class) → Given c (g c x) → class_call g (class_rebuilt s (class_call f s out)) last ≡ write (class_field 0x43 (g c x).class) last
  follow_writes f g given again =
      stored_writes (stored_rebuilt w.bytes w.passes f given out room) given.passes g again last room'

  pub taken_back : (f g : Curve → Class → Result) → let c = w.curve in let x = (f c w.class).class in
      Given c (f c w.class) → Given c (g c x) → g c x ≡ gives w.class → class_call g (class_rebuilt s (class_call f s out)) last ≡ write (last_field s) last
  taken_back f g given again back =
      follow_writes f g given again
      ∙ ap (λ (l : List ℕ). write l last) (ap (λ (r : Result). class_field 0x43 r.class) back ∙ sym (last_is w.curve w.class w.bytes))
