-- Records and their values determine each other (docs/SPECIFICATION.md, 2 and 5).
-- `curve_passes`: a class that no check refuses has a curve that no check refuses.
-- `class_record_written`, `sum_record_written`, `register_record_written`, `step_record_written`:
-- a record that is read is the encoding of its values, and no check refuses them.
-- `class_record_back`, `sum_record_back`, `register_record_back`, `step_record_back`: the encoding of such values is
-- read back.
-- `register_more`: the fields of a register that no check refuses can be put first.
use Prim.Native.Nat.{ℕ}
use mathlib.Core.Path.{◌≡◌, sym, ap, ◌∙◌, subst}
use mathlib.Core.List.{List, [], ◌∷◌, ◌++◌, append_assoc}
use lib.ListN.{length}
use Rattle.jacobian.specs.{Curves.curve_refusal, Answer.refusal, declared.Curve.Curve, declared.Class.Class}
use Rattle.jacobian.proofs.{ByValue.Checks.then_zero, Representation.accepts_both, Representation.accepts_class}
use Rattle.history.specs.{Register.register_refusal, declared.Register.Register}
use Rattle.history.proofs.Registers.{register_passes, passes_register}
use Rattle.stored_form.specs.{Number.Bytes, Reading.found, Passing.ClassPasses, Fields.count_field, Fields.released_field, Classes.curve_fields_bytes, Classes.class_field}
use Rattle.stored_form.specs.{Record.empty_record, Record.with_curve, Record.with_count, Record.with_released, Reader.read_record, Reader.class_layout, Reader.sum_layout, Reader.register_layout, Reader.step_layout}
use Rattle.stored_form.specs.declared.Record.{Record}
use Rattle.stored_form_theorems.proofs.{RecordRoundTrips.record_written, RecordRoundTrips.record_read_back, FieldLaws.more, FieldLaws.first_value, FieldLaws.no_more}
use Rattle.stored_form_theorems.proofs.FieldValues.{count_law, released_law, class_law, operation_law, curve_more, first_curve}
use Rattle.stored_form_theorems.specs.Records.{RecordEncodes, none}
use Rattle.seal.specs.Records.{class_values, register_values, class_record_bytes, sum_record_bytes, register_record_bytes, step_record_bytes, ClassStored, SumStored, RegisterStored, StepStored}

pub curve_passes : {c : Curve} {a : Class} → ClassPasses c a → curve_refusal c ≡ 0
unfolding refusal
curve_passes ok = (then_zero _ _ ok.none).0

-- ---- a class's record

module _ {s : List ℕ} {h : Record} where
  pub class_record_written : {end : ℕ} → Bytes s → read_record class_layout s ≡ found h end → ClassStored s h × (end ≡ length s)
  unfolding class_record_bytes
  class_record_written b e =
      let w = record_written class_layout s b e in
      let c = first_curve w.0 in
      let a = first_value (class_law (with_curve c.0 empty_record)) c.2 in
      let last = no_more a.2 in
      (record { curve = c.0; class = a.0; values = last.0; bytes = last.1; passes = a.1 }, w.1)

  pub class_record_back : ClassStored s h → read_record class_layout s ≡ found h (length s)
  unfolding class_record_bytes
  class_record_back w =
      rw (w.values, w.bytes)
      (record_read_back class_layout _
      (curve_more w.curve (curve_passes w.passes)
      (more (class_law (with_curve w.curve empty_record)) w.class w.passes none)))

-- ---- the record of a sum

module _ {s : List ℕ} {h : Record} where
  pub sum_record_written : {end : ℕ} → Bytes s → read_record sum_layout s ≡ found h end → SumStored s h × (end ≡ length s)
  unfolding sum_record_bytes
  sum_record_written b e =
      let w = record_written sum_layout s b e in
      let c = first_curve w.0 in
      let x = first_value (class_law (with_curve c.0 empty_record)) c.2 in
      let y = first_value (class_law (class_values c.0 x.0)) x.2 in
      let last = no_more y.2 in
      (record { curve = c.0; first = x.0; second = y.0; values = last.0; bytes = last.1; first_passes = x.1; second_passes = y.1 }, w.1)

  pub sum_record_back : SumStored s h → read_record sum_layout s ≡ found h (length s)
  unfolding sum_record_bytes
  sum_record_back w =
      rw (w.values, w.bytes)
      (record_read_back sum_layout _
      (curve_more w.curve (curve_passes w.first_passes)
      (more (class_law (with_curve w.curve empty_record)) w.first w.first_passes
      (more (class_law (class_values w.curve w.first)) w.second w.second_passes none))))

-- ---- the fields of a register, with which its record and that of a step begin

-- its bytes, field by field
register_bytes : (g : Register) → curve_fields_bytes g.curve ++ count_field g.count ++ released_field g.released ++ class_field 0x43 g.seal ≡ register_record_bytes g
unfolding register_record_bytes
register_bytes g =
    let c = curve_fields_bytes g.curve in
    let n = count_field g.count in
    let r = released_field g.released in
    ap (λ (l : List ℕ). l ++ class_field 0x43 g.seal) (append_assoc c n r) ∙ append_assoc c (n ++ r) (class_field 0x43 g.seal)

module _ {tags s : List ℕ} {last : Record} where
  pub register_more : (g : Register) → register_refusal g ≡ 0 → RecordEncodes tags (register_values g) (register_record_bytes g) last s
      → RecordEncodes (0x40 ∷ 0x41 ∷ 0x42 ∷ 0x45 ∷ 0x43 ∷ tags) empty_record [] last s
  register_more g ok rest =
      let p = register_passes g ok in
      let begun = with_curve g.curve empty_record in
      let counted = with_count g.count begun in
      curve_more g.curve p.curve_passes
      (more (count_law begun) g.count p.count_passes
      (more (released_law counted p.count_passes) g.released p.released_passes
      (more (class_law (with_released g.released counted)) g.seal (accepts_both g.curve g.seal p.curve_passes p.seal_passes)
      (subst (λ (l : List ℕ). RecordEncodes tags (register_values g) l last s) (sym (register_bytes g)) rest))))

  first_register : RecordEncodes (0x40 ∷ 0x41 ∷ 0x42 ∷ 0x45 ∷ 0x43 ∷ tags) empty_record [] last s
      → (g : Register) × (register_refusal g ≡ 0) × RecordEncodes tags (register_values g) (register_record_bytes g) last s
  first_register l =
      let c = first_curve l in
      let begun = with_curve c.0 empty_record in
      let n = first_value (count_law begun) c.2 in
      let counted = with_count n.0 begun in
      let r = first_value (released_law counted n.1) n.2 in
      let x = first_value (class_law (with_released r.0 counted)) r.2 in
      let g : Register = record { curve = c.0; count = n.0; seal = x.0; released = r.0 } in (
        g,
        passes_register g (record { curve_passes = c.1; count_passes = n.1; released_passes = r.1; seal_passes = accepts_class x.1 }),
        subst (λ (l : List ℕ). RecordEncodes tags (register_values g) l last s) (register_bytes g) x.2,
      )

-- ---- a register's record

module _ {s : List ℕ} {h : Record} where
  pub register_record_written : {end : ℕ} → Bytes s → read_record register_layout s ≡ found h end → RegisterStored s h × (end ≡ length s)
  register_record_written b e =
      let w = record_written register_layout s b e in
      let g = first_register w.0 in
      let last = no_more g.2 in
      (record { register = g.0; values = last.0; bytes = last.1; passes = g.1 }, w.1)

  pub register_record_back : RegisterStored s h → read_record register_layout s ≡ found h (length s)
  register_record_back w = rw (w.values, w.bytes) (record_read_back register_layout _ (register_more w.register w.passes none))

-- ---- a step's record

module _ {s : List ℕ} {h : Record} where
  pub step_record_written : {end : ℕ} → Bytes s → read_record step_layout s ≡ found h end → StepStored s h × (end ≡ length s)
  unfolding step_record_bytes
  step_record_written b e =
      let w = record_written step_layout s b e in
      let g = first_register w.0 in
      let a = first_value (operation_law (register_values g.0)) g.2 in
      let last = no_more a.2 in
      (record { register = g.0; class = a.0; values = last.0; bytes = last.1; passes = g.1; class_passes = a.1 }, w.1)

  pub step_record_back : StepStored s h → read_record step_layout s ≡ found h (length s)
  unfolding step_record_bytes
  step_record_back w =
      rw (w.values, w.bytes)
      (record_read_back step_layout _ (register_more w.register w.passes (more (operation_law (register_values w.register)) w.class w.class_passes none)))
