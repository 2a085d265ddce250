-- A record's bytes and its values determine each other, for every list of tags.
-- `record_written`: a record that was read is the encoding of its values.
-- `record_read_back`: the encoding of a record is read back.
-- `begin_written`, `begin_read_back`: the same for fields after which the input does not end.
use Prim.Native.Nat.{ℕ}
use mathlib.Core.Path.{◌≡◌, refl, sym, ◌∙◌, subst, subst₂}
use mathlib.Core.List.{List, [], ◌∷◌, ◌++◌}
use native.Mathlib.Nat.{le_refl}
use lib.ListN.{length}
use Rattle.stored_form.specs.{Number.Bytes, Reading.found, Record.empty_record, Tags.field_bytes, Reader.read_field, Reader.read_fields, Reader.read_record, declared.Record.Record}
use Rattle.stored_form.proofs.Readings.{then_found, both_found, same_found}
use Rattle.stored_form_theorems.specs.{Fields.Field, Records.RecordEncodes, Records.none, Records.field, Records.Stored}
use Rattle.stored_form_theorems.proofs.{FieldRoundTrips.field_written, FieldRoundTrips.field_read_back}
use Rattle.stored_form_theorems.proofs.Places.{behind, apart, up_to, whole, is_whole, end_found, end_read_back}

-- ---- fields after bytes with which the input begins

module _ (s : List ℕ) where
  fields_written : (tags : List ℕ) (h : Record) (before : List ℕ) {at end : ℕ} {last : Record} → Bytes s → Field s 0 before at → read_fields tags h s at ≡ found last end →
      (bytes : List ℕ) × RecordEncodes tags h before last bytes × Field s 0 bytes end
  unfolding read_fields
  fields_written [] h before b f e =
      let same = same_found e in
      (before, subst (λ (l : Record). RecordEncodes [] h before l before) same.0 none, subst (Field s 0 before) same.1 f)
  fields_written (tag ∷ tags) h before {at = at} b f e =
      let p = both_found _ (read_field tag h s at) e in
      let this = field_written tag h s at b p.2 in
      let rest = fields_written tags p.0 (before ++ field_bytes tag p.0) b (behind before (field_bytes tag p.0) f this.1) p.3 in
      (rest.0, field this.0 rest.1, rest.2)

  fields_read_back : {tags before bytes : List ℕ} {h last : Record} {end : ℕ} → RecordEncodes tags h before last bytes → Field s 0 bytes end →
      (at : ℕ) × Field s 0 before at × (read_fields tags h s at ≡ found last end)
  unfolding read_fields
  fields_read_back {end = end} none f = (end, f, refl)
  fields_read_back {before = before} (field {tag = tag} {h = h} {m = m} says l) f =
      let rest = fields_read_back l f in
      let p = apart before (field_bytes tag m) rest.1 in
      (p.0, p.1, then_found _ (up_to p.2 (field_read_back tag h s p.0 says)) ∙ rest.2)

  -- from the first byte on
  pub begin_written : (tags : List ℕ) {end : ℕ} {last : Record} → Bytes s → read_fields tags empty_record s 0 ≡ found last end →
      (bytes : List ℕ) × Stored tags last bytes × Field s 0 bytes end
  begin_written tags b e = fields_written tags empty_record [] b (record { stands = refl; ends = refl }) e

  pub begin_read_back : {tags bytes : List ℕ} {last : Record} {end : ℕ} → Stored tags last bytes → Field s 0 bytes end → read_fields tags empty_record s 0 ≡ found last end
  begin_read_back {tags} {last = last} {end = end} l f =
      let r = fields_read_back l f in
      subst (λ (n : ℕ). read_fields tags empty_record s n ≡ found last end) r.1.ends r.2

-- ---- a whole record

pub record_written : (tags s : List ℕ) {h : Record} {end : ℕ} → Bytes s → read_record tags s ≡ found h end → Stored tags h s × (end ≡ length s)
unfolding read_record
record_written tags s b e =
    let p = both_found _ (read_fields tags empty_record s 0) e in
    let q = end_found s p.0 p.1 p.3 in
    let w = begin_written s tags b p.2 in
    let all = is_whole s w.2 q.2 in
    (subst₂ (λ (l : Record) (x : List ℕ). RecordEncodes tags empty_record [] l x) q.0 (sym all.0) w.1, sym q.1 ∙ all.1)

pub record_read_back : (tags s : List ℕ) {h : Record} → Stored tags h s → read_record tags s ≡ found h (length s)
unfolding read_record
record_read_back tags s {h} l = then_found _ (begin_read_back s l (whole s)) ∙ end_read_back s h (length s) (le_refl _)
