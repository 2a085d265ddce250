-- The refusal of an archive (docs/SPECIFICATION.md, 6).
-- `archive_valid`: it is 0 or a listed number.
-- `archive_found`: where it is 0, `read_archive` finds an archive.
use Prim.Native.Nat.{ℕ}
use mathlib.Core.Path.{◌≡◌}
use mathlib.Core.List.{List}
use Rattle.jacobian.specs.Refusals.{ValidRefusal}
use Rattle.stored_form.specs.{Reading.found, Record.empty_record, Reader.read_fields, Reader.read_operations, Reader.header_layout}
use Rattle.stored_form.proofs.Valid.{ValidReading, found_valid, then_valid, fields_valid, operations_valid, reading_valid, reading_found}
use Rattle.archive.proofs.Tail.{tail_valid}
use Rattle.archive.specs.Archive.{Archive, read_tail, read_archive, archive_refusal}

archive_reading_valid : (s : List ℕ) → ValidReading (read_archive s)
unfolding read_archive
archive_reading_valid s =
    then_valid (read_fields header_layout empty_record s 0) _ (fields_valid header_layout empty_record s 0) λ h first.
    then_valid (read_operations h.count h s first) _ (operations_valid h.count h s first) λ ops end.
    then_valid (read_tail h.count s end) _ (tail_valid h.count s end) λ pairs end.
    found_valid _ end

module _ (s : List ℕ) where
  pub archive_valid : ValidRefusal (archive_refusal s)
  unfolding archive_refusal
  archive_valid = reading_valid _ (archive_reading_valid s)

  pub archive_found : archive_refusal s ≡ 0 → (a : Archive) × (end : ℕ) × (read_archive s ≡ found a end)
  unfolding archive_refusal
  archive_found e = reading_found _ (archive_reading_valid s) e
