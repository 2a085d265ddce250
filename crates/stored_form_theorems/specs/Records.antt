-- Records as fields in order (docs/SPECIFICATION.md, 5).
use Rattle.std.specs.Prelude.{ℕ, List, [], ◌∷◌, ◌++◌}
use Rattle.stored_form.specs.{Record.empty_record, Tags.field_bytes, declared.Record.Record}
use Rattle.stored_form_theorems.specs.Fields.{FieldEncodes}

-- Reading the fields with these tags, which follow the bytes `before`, takes the record h to `last`; s is all bytes.
pub data RecordEncodes : List ℕ → Record → List ℕ → Record → List ℕ → Type 0 where
  none : {h : Record} {s : List ℕ} → RecordEncodes [] h s h s
  field : {tag : ℕ} {tags : List ℕ} {h m last : Record} {before s : List ℕ} → FieldEncodes tag h m → RecordEncodes tags m (before ++ field_bytes tag m) last s → RecordEncodes (tag ∷ tags) h before last s

-- the bytes s are a record with these tags, and h is what it says
abbrev pub Stored : List ℕ → Record → List ℕ → Type 0
Stored tags h s = RecordEncodes tags empty_record [] h s
