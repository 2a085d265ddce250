-- Records that begin with the stored form of a register.
-- `register_read`: the fields of a register that passes are read, and what follows stands after them.
-- `call_record_back`: so is the whole record of a call, a register with the operation of a class that passes.
-- `record_carries`: such a record, if read, gives that register, and the request is that of a register call.
-- `record_kept`: every record of a commit, an undo or a release that is read begins so.
use Prim.Native.Nat.{ℕ}
use mathlib.Core.Path.{◌≡◌, refl, sym, ap, ◌∙◌, subst}
use mathlib.Core.List.{List, [], ◌++◌, append-nil}
use lib.Dec.{lit<}
use lib.ListN.{length, drop}
use lib.Seq.{drop-append_seam}
use Rattle.jacobian.specs.declared.Class.{Class}
use Rattle.history.specs.{Register.register_refusal, declared.Register.Register, declared.Step.Step, declared.Step.TheVariants.Commit, declared.Step.TheVariants.Undo}
use Rattle.history.specs.Calls as history
use Rattle.stored_form.specs.{Number.Bytes, Reading.found, Head.count_length, Classes.curve_fields_bytes, Classes.class_field, Fields.count_field, Fields.released_field, Passing.ClassPasses}
use Rattle.stored_form.specs.{Record.empty_record, Reader.read_fields, Reader.read_record, Reader.register_layout, Reader.step_layout}
use Rattle.stored_form.specs.declared.Record.{Record}
use Rattle.stored_form.proofs.Readings.{same_found}
use Rattle.stored_form_theorems.specs.{Fields.Field, Records.none}
use Rattle.stored_form_theorems.proofs.Written.{bytes_append, number_bytes, field_bytes, class_bytes, first_bytes}
use Rattle.stored_form_theorems.proofs.{Places.apart, Places.whole, RecordRoundTrips.begin_read_back}
use Rattle.seal.specs.{Records.register_values, Records.step_values, Records.register_fields, Records.register_record_bytes, Records.step_record_bytes, Calls.register, Calls.tags}
use Rattle.seal.specs.Steps.{Kept, Request, step, release, operation, request_call, kept, encode_call, InStoredForm}
use Rattle.seal.proofs.Written.{register_more, register_record_written, register_record_back, step_record_written, step_record_back}
use Rattle.seal.proofs.Decoding.{in_stored_form}

-- ---- a register's fields

register_record_are_bytes : (g : Register) → Bytes (register_record_bytes g)
unfolding register_record_bytes count_field released_field
register_record_are_bytes g =
    let counts = count_field g.count ++ released_field g.released in
    bytes_append (curve_fields_bytes g.curve) (register_fields g) (first_bytes g.curve)
    (bytes_append counts (class_field 0x43 g.seal)
    (bytes_append (count_field g.count) (released_field g.released)
    (field_bytes 0x42 _ (lit< tt) (number_bytes count_length g.count))
    (field_bytes 0x45 _ (lit< tt) (number_bytes count_length g.released)))
    (class_bytes 0x43 g.seal (lit< tt)))

pub register_read : (g : Register) (rest : List ℕ) → register_refusal g ≡ 0
    → (at : ℕ) × (read_fields register_layout empty_record (register_record_bytes g ++ rest) 0 ≡ found (register_values g) at)
    × Field (register_record_bytes g ++ rest) at rest (length (register_record_bytes g ++ rest))
register_read g rest ok =
    let f = apart (register_record_bytes g) rest (whole (register_record_bytes g ++ rest)) in
    (f.0, begin_read_back (register_record_bytes g ++ rest) (register_more g ok none) f.1, f.2)

-- two records that begin so and have the same bytes have the same register
same_register : (g k : Register) (xs ys : List ℕ) → register_refusal g ≡ 0 → register_refusal k ≡ 0 → register_record_bytes g ++ xs ≡ register_record_bytes k ++ ys → g ≡ k
same_register g k xs ys p q e =
    let here = register_read g xs p in
    let there = register_read k ys q in
    ap register (same_found (sym here.1 ∙ ap (λ (s : List ℕ). read_fields register_layout empty_record s 0) e ∙ there.1)).0

-- ---- the record of a register call

-- the values of a record with this register and this call's class
abbrev pub call_values : Register → history.Call → Record
call_values g (history.step k a) = step_values g a
call_values g history.release = register_values g

-- no check refuses the call's class, if it has one
abbrev pub CallClassPasses : Register → history.Call → Type 0
CallClassPasses g (history.step k a) = ClassPasses g.curve a
CallClassPasses g history.release = Unit {0}

module _ (g : Register) (ok : register_refusal g ≡ 0) where
  step_back : (a : Class) → ClassPasses g.curve a → read_record step_layout (register_record_bytes g ++ class_field 0x44 a) ≡ found (step_values g a) (length (register_record_bytes g ++ class_field 0x44 a))
  unfolding step_record_bytes
  step_back a p = step_record_back {s = step_record_bytes g a} (record { register = g; class = a; values = refl; bytes = refl; passes = ok; class_passes = p })

  pub call_record_back : (c : history.Call) → CallClassPasses g c →
      let s = register_record_bytes g ++ operation (encode_call c) in read_record (tags (request_call (encode_call c))) s ≡ found (call_values g c) (length s)
  unfolding encode_call operation
  call_record_back (history.step Commit a) p = step_back a p
  call_record_back (history.step Undo a) p = step_back a p
  call_record_back history.release p =
      subst (λ (s : List ℕ). read_record register_layout s ≡ found (register_values g) (length s)) (sym (append-nil (register_record_bytes g)))
      (register_record_back {s = register_record_bytes g} (record { register = g; values = refl; bytes = refl; passes = ok }))

-- the request is that of a register call, and h has the values of the register with that call's class
pub record Carries (g : Register) (q : Request) (h : Record) : Type 0 where
  pub call : history.Call
  pub request : q ≡ encode_call call
  pub values : h ≡ call_values g call

module _ (g : Register) (ok : register_refusal g ≡ 0) {h : Record} {end : ℕ} where
  step_carries : (k : Step) (op : List ℕ) → Bytes op → read_record step_layout (register_record_bytes g ++ op) ≡ found h end → Carries g (step k op) h
  unfolding step_record_bytes encode_call
  step_carries k op bytes read =
      let w = (step_record_written (bytes_append (register_record_bytes g) op (register_record_are_bytes g) bytes) read).0 in
      let field = class_field 0x44 w.class in
      let same : g ≡ w.register = same_register g w.register op field ok w.passes w.bytes in
      record {
        call = history.step k w.class;
        request =
            ap (step k)
            (sym (drop-append_seam (register_record_bytes g) op)
            ∙ ap (drop (length (register_record_bytes g))) (w.bytes ∙ ap (λ (r : Register). register_record_bytes r ++ field) (sym same))
            ∙ drop-append_seam (register_record_bytes g) field);
        values = w.values ∙ ap (λ (r : Register). step_values r w.class) (sym same);
      }

  pub record_carries : (q : Request) → Bytes (operation q) → read_record (tags (request_call q)) (register_record_bytes g ++ operation q) ≡ found h end → Carries g q h
  unfolding operation encode_call
  record_carries (step Commit op) bytes read = step_carries Commit op bytes read
  record_carries (step Undo op) bytes read = step_carries Undo op bytes read
  record_carries release bytes read =
      record { call = history.release; request = refl; values = (same_found (sym read ∙ call_record_back g ok history.release tt)).0 }

-- ---- every record that is read

module _ (s : List ℕ) (bytes : Bytes s) {h : Record} {end : ℕ} where
  step_kept : read_record step_layout s ≡ found h end → (t : Kept) × InStoredForm t × (op : List ℕ) × (s ≡ t.curve ++ t.register ++ op)
  unfolding step_record_bytes register_record_bytes kept
  step_kept read = let w = (step_record_written bytes read).0 in (kept w.register, in_stored_form w.register w.passes, class_field 0x44 w.class, w.bytes)

  pub record_kept : (q : Request) → read_record (tags (request_call q)) s ≡ found h end → (t : Kept) × InStoredForm t × (op : List ℕ) × (s ≡ t.curve ++ t.register ++ op)
  unfolding register_record_bytes kept
  record_kept (step Commit op) read = step_kept read
  record_kept (step Undo op) read = step_kept read
  record_kept release read =
      let w = (register_record_written bytes read).0 in
      (kept w.register, in_stored_form w.register w.passes, [], w.bytes ∙ sym (append-nil (register_record_bytes w.register)))
