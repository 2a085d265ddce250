-- The header of an archive at the edges of what is allowed, in numbers (docs/SPECIFICATION.md, 6.3).
-- `header_refused`: a field of the header that is refused, after fields that are read, is the archive's refusal.
-- `drawing_of_39_bytes`: a drawing number of 39 bytes is 104 of the archive, whatever follows.
-- `count_of_1025_kept`: a count of 1,025 is 109 of the archive, whatever follows.
use Prim.Native.Nat.{ℕ, ◌+◌, ◌≤◌}
use mathlib.Core.Path.{◌≡◌, refl, ap, sym, ◌∙◌}
use mathlib.Core.List.{List, [], ◌∷◌, ◌++◌}
use lib.ListN.{length, get_or}
use Rattle.stored_form.specs.{Reading.found, Reading.refused, Reading.reading_refusal, Head.BytesAt, Head.body_length, Record.empty_record}
use Rattle.stored_form.specs.{Reader.header_layout, Reader.read_field, Reader.read_fields, declared.Record.Record}
use Rattle.stored_form.proofs.{Readings.then_found, Readings.then_refused, Readers.fields_append}
use Rattle.stored_form_theorems.proofs.FieldEdges.{count_of_1025, drawing_of_39}
use Rattle.archive.specs.Archive.{read_archive, archive_refusal}

module _ (s : List ℕ) {h : Record} {at : ℕ} where
  pub header_refused : (before : List ℕ) (tag : ℕ) (after : List ℕ) → before ++ (tag ∷ after) ≡ header_layout → read_fields before empty_record s 0 ≡ found h at →
      {n : ℕ} → read_field tag h s at ≡ refused n → archive_refusal s ≡ n
  unfolding archive_refusal read_archive read_fields
  header_refused before tag after is first e =
      ap reading_refusal
      (then_refused _ (ap (λ (tags : List ℕ). read_fields tags empty_record s 0) (sym is) ∙ fields_append before (tag ∷ after) empty_record s 0 ∙ then_found _ first ∙ then_refused _ e))

  pub drawing_of_39_bytes : read_fields (0x40 ∷ 0x41 ∷ []) empty_record s 0 ≡ found h at → at + 3 ≤ length s → get_or s at 0 ≡ 0x46 → body_length s at ≡ 39 → archive_refusal s ≡ 104
  drawing_of_39_bytes first fits expected long = header_refused (0x40 ∷ 0x41 ∷ []) 0x46 (0x42 ∷ 0x43 ∷ []) refl first (drawing_of_39 h s at fits expected long)

  pub count_of_1025_kept : read_fields (0x40 ∷ 0x41 ∷ 0x46 ∷ []) empty_record s 0 ≡ found h at → BytesAt s at (0x42 ∷ 0x00 ∷ 0x02 ∷ 0x04 ∷ 0x01 ∷ []) → archive_refusal s ≡ 109
  count_of_1025_kept first stands = header_refused (0x40 ∷ 0x41 ∷ 0x46 ∷ []) 0x42 (0x43 ∷ []) refl first (count_of_1025 h s at stands)
