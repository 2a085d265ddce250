-- Bytes and values of an archive determine each other.
-- `archive_read_back`: an archive whose values no check refuses is read back from its bytes.
-- `archive_written`: bytes that are read are the encoding of an archive whose values no check refuses.
use Prim.Native.Nat.{ℕ, ◌<◌}
use mathlib.Core.Path.{◌≡◌, sym, ap, ◌∙◌, subst}
use mathlib.Core.List.{List, [], ◌++◌}
use native.Mathlib.Omega.{arith}
use lib.ListN.{length}
use Rattle.lists.specs.Lists.{All}
use Rattle.jacobian.specs.declared.{Curve.Curve, Class.Class}
use Rattle.stored_form.specs.{Number.Bytes, Reading.found, Fields.drawing_field, Fields.count_field, Classes.curve_fields_bytes, Classes.class_field, Classes.operation_fields}
use Rattle.stored_form.specs.{Passing.CurvePasses, Passing.DrawingPasses, Passing.CountPasses, Passing.ClassPasses, Reader.read_fields, Reader.header_layout, Fields.count_limit, Pairs.pairs_field, declared.Record.Record}
use Rattle.stored_form.specs.Record.{decode_drawing, empty_record, with_curve, with_drawing, with_count, with_class}
use Rattle.stored_form.proofs.{Readings.then_found, DrawingBytes.name_decoded}
use Rattle.stored_form_theorems.specs.{Fields.Field, Records.RecordEncodes, Pairs.PairsAllowed}
use Rattle.stored_form_theorems.specs.Records as records
use Rattle.stored_form_theorems.proofs.{Places.behind, Places.apart, Places.whole, Places.is_whole, Operations.operations_counted, Operations.operations_sound, Operations.operations_written, Operations.operations_read_back}
use Rattle.stored_form_theorems.proofs.{RecordRoundTrips.begin_written, RecordRoundTrips.begin_read_back, FieldLaws.first_value, FieldLaws.no_more}
use Rattle.stored_form_theorems.proofs.FieldValues.{drawing_law, count_law, class_law, curve_more, first_curve}
use Rattle.stored_form_theorems.proofs.FieldLaws as fields
use Rattle.archive.specs.Archive.{Archive, archive_of, read_archive}
use Rattle.archive_theorems.specs.Written.{archive_bytes, Storable}
use Rattle.archive_theorems.proofs.{Parts.parts_of, Tail.tail_written, Tail.tail_read_back}

-- ---- the header

-- its record
abbrev named : Curve → List ℕ → Record
named c name = with_drawing (decode_drawing name) (with_curve c empty_record)

abbrev counted : Curve → List ℕ → ℕ → Record
counted c name n = with_count n (named c name)

-- its bytes
abbrev header_bytes : Curve → List ℕ → ℕ → Class → List ℕ
header_bytes c name n seal = curve_fields_bytes c ++ drawing_field name ++ count_field n ++ class_field 0x43 seal

-- values that pass, and the encoded header with them at the start of the input
record Opens (s : List ℕ) (h : Record) (first : ℕ) : Type 0 where
  curve : Curve
  drawing : List ℕ
  count : ℕ
  seal : Class
  curve_passes : CurvePasses curve
  drawing_passes : DrawingPasses drawing
  count_passes : CountPasses count
  seal_passes : ClassPasses curve seal
  values : h ≡ with_class seal (counted curve drawing count)
  field : Field s 0 (header_bytes curve drawing count seal) first

header_written : (s : List ℕ) {h : Record} {first : ℕ} → Bytes s → read_fields header_layout empty_record s 0 ≡ found h first → Opens s h first
header_written s {first = first} b e =
    let w = begin_written s header_layout b e in
    let c = first_curve w.1 in
    let name = first_value (drawing_law (with_curve c.0 empty_record)) c.2 in
    let n = first_value (count_law (named c.0 name.0)) name.2 in
    let seal = first_value (class_law (counted c.0 name.0 n.0)) n.2 in
    let last = no_more seal.2 in
    record {
      curve = c.0;
      drawing = name.0;
      count = n.0;
      seal = seal.0;
      curve_passes = c.1;
      drawing_passes = name.1;
      count_passes = n.1;
      seal_passes = seal.1;
      values = last.0;
      field = subst (λ (x : List ℕ). Field s 0 x first) last.1 w.2;
    }

-- ---- the archive

pub archive_read_back : (a : Archive) → Storable a → read_archive (archive_bytes a) ≡ found a (length (archive_bytes a))
unfolding archive_bytes read_archive archive_of count_limit
archive_read_back a ok =
    let s : List ℕ = archive_bytes a in
    let c : Curve = a.curve in
    let n : ℕ = length a.operations in
    let name : List ℕ = a.drawing in
    let kept = apart (header_bytes c name n a.seal ++ operation_fields a.operations) (pairs_field a.pairs) (whole s) in
    let parts = apart (header_bytes c name n a.seal) (operation_fields a.operations) kept.1 in
    let under : n < 65536 = omega (arith, ok.count_within) in
    let leads : RecordEncodes header_layout empty_record [] (with_class a.seal (counted c name n)) (header_bytes c name n a.seal) =
    curve_more c ok.curve_allowed
    (fields.more (drawing_law (with_curve c empty_record)) name (ok.drawing_printable, ok.drawing_short)
    (fields.more (count_law (named c name)) n ok.count_within
    (fields.more (class_law (counted c name n)) a.seal ok.seal_allowed records.none))) in
    then_found _ (begin_read_back s leads parts.1)
    ∙ then_found _ (operations_read_back _ s parts.0 a.operations ok.operations_allowed parts.2)
    ∙ then_found _ (tail_read_back n s kept.0 under ok.pairs_allowed ok.pairs_few kept.2)
    ∙ ap (λ (x : List ℕ). found (record { curve = c; drawing = x; seal = a.seal; operations = a.operations; pairs = a.pairs }) (length s)) (name_decoded name)

pub archive_written : (s : List ℕ) {a : Archive} {end : ℕ} → Bytes s → read_archive s ≡ found a end →
    (s ≡ archive_bytes a) × (end ≡ length s) × Storable a
unfolding archive_bytes archive_of
archive_written s {a} {end} b h =
    let p = parts_of s h in
    let o = header_written s b p.header_read in
    let t = tail_written p.values.count s p.last b p.tail_read in
    let field = operations_written s p.values.count p.values p.first b p.operations_read in
    let read : length p.operations ≡ p.values.count = operations_counted s p.values.count p.values p.first p.operations_read in
    let number : length p.operations ≡ o.count = read ∙ ap (λ (k : Record). k.count) o.values in
    let sound = subst (λ (k : Record). All (ClassPasses k.curve) p.operations) o.values (operations_sound s p.values.count p.values p.first p.operations_read) in
    let ends = is_whole s (behind _ _ (behind _ _ o.field field) t.0.field) t.1 in
    let bytes = ap (λ (n : ℕ). header_bytes o.curve o.drawing n o.seal ++ operation_fields p.operations ++ pairs_field p.pairs) (sym number) in
    let value : Archive = record { curve = o.curve; drawing = o.drawing; seal = o.seal; operations = p.operations; pairs = p.pairs } in
    let is : a ≡ value =
    p.archive
    ∙ ap (λ (k : Record). archive_of k p.operations p.pairs) o.values
    ∙ ap (λ (x : List ℕ). record { curve = o.curve; drawing = x; seal = o.seal; operations = p.operations; pairs = p.pairs }) (name_decoded o.drawing) in
    let storable : Storable value = record {
      curve_allowed = o.curve_passes;
      drawing_printable = o.drawing_passes.0;
      drawing_short = o.drawing_passes.1;
      count_within = subst CountPasses (sym number) o.count_passes;
      seal_allowed = o.seal_passes;
      operations_allowed = sound;
      pairs_allowed = subst (λ (k : ℕ). PairsAllowed k p.pairs) (sym read) t.0.allowed;
      pairs_few = t.0.few;
    } in
    subst (λ (x : Archive). (s ≡ archive_bytes x) × (end ≡ length s) × Storable x) (sym is) (ends.0 ∙ bytes, ends.1, storable)
