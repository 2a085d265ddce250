-- What accepted bytes say.
-- `said_read`, `header_found`: they are read as the archive that they say, and what their header is.
-- `said_stored`, `stored`, `laid`: they are its stored form, no check refuses its values, and where its fields stand.
-- `header_curve`, `header_seal`, `header_counted`: the header has its curve and its seal, and counts its operations.
use Prim.Native.Nat.{ℕ}
use mathlib.Core.Path.{◌≡◌, sym, ap, ap₂, ◌∙◌}
use mathlib.Core.List.{List}
use lib.ListN.{length}
use Rattle.stored_form.specs.{Number.Bytes, Cuts.fields_end, Reading.found, Reading.reading_refusal, Record.empty_record, Reader.read_fields, Reader.header_layout, declared.Record.Record}
use Rattle.stored_form.proofs.Readings.{same_found}
use Rattle.stored_form_theorems.specs.Checking.{record_values}
use Rattle.stored_form_theorems.proofs.{Operations.operations_counted, Checking.first_read}
use Rattle.archive.specs.Archive.{Archive, archive_of, read_archive, archive_in, archive_said, archive_refusal}
use Rattle.archive.proofs.Valid.{archive_found}
use Rattle.archive_theorems.specs.Written.{archive_bytes, Storable}
use Rattle.archive_theorems.proofs.{Parts.parts_of, ArchiveRoundTrips.archive_written, FieldPlaces.Layout, FieldPlaces.layout}
use Rattle.seal_archive.specs.internal.Accepted.{IsAccepted}

pub said_is : (s : List ℕ) {a : Archive} {end : ℕ} → read_archive s ≡ found a end → archive_said s ≡ a
unfolding archive_said archive_in
said_is s e = ap archive_in e

module _ (s : List ℕ) (b : Bytes s) (e : archive_refusal s ≡ 0) where
  pub said_read : (end : ℕ) × (read_archive s ≡ found (archive_said s) end)
  said_read = let f = archive_found s e in (f.1, f.2 ∙ ap (λ (a : Archive). found a f.1) (sym (said_is s f.2)))

  pub said_stored : (s ≡ archive_bytes (archive_said s)) × Storable (archive_said s)
  said_stored = let w = archive_written s b said_read.1 in (w.0, w.2)

  -- its header, as it is read
  pub header_found : read_fields header_layout empty_record s 0 ≡ found (record_values header_layout s) (fields_end (length header_layout) s 0)
  header_found = (first_read s header_layout).value (ap reading_refusal (parts_of s said_read.1).header_read)

module _ {s : List ℕ} {h : Record} {first : ℕ} (accepted : IsAccepted s h first) where
  pub header_read : read_fields header_layout empty_record s 0 ≡ found h first
  header_read = header_found s accepted.in_range accepted.passes ∙ ap₂ found (sym accepted.header) (sym accepted.begins)

  pub stored : (s ≡ archive_bytes (archive_said s)) × Storable (archive_said s)
  stored = said_stored s accepted.in_range accepted.passes

  pub laid : Layout s (archive_said s)
  laid = layout s (archive_said s) stored.0 stored.1

  header_of : archive_said s ≡ archive_of h (archive_said s).operations (archive_said s).pairs
  unfolding archive_of
  header_of =
      let p = parts_of s (said_read s accepted.in_range accepted.passes).1 in
      let is = p.archive ∙ ap (λ (x : Record). archive_of x p.operations p.pairs) (same_found (sym p.header_read ∙ header_read)).0 in
      is ∙ ap (λ (x : Archive). archive_of h x.operations x.pairs) (sym is)

  pub header_curve : (archive_said s).curve ≡ h.curve
  unfolding archive_of
  header_curve = ap (λ (x : Archive). x.curve) header_of

  pub header_seal : (archive_said s).seal ≡ h.class
  unfolding archive_of
  header_seal = ap (λ (x : Archive). x.seal) header_of

  pub header_counted : h.count ≡ length (archive_said s).operations
  unfolding archive_of
  header_counted =
      let p = parts_of s (said_read s accepted.in_range accepted.passes).1 in
      let same = same_found (sym p.header_read ∙ header_read) in
      ap (λ (x : Record). x.count) (sym same.0)
      ∙ sym (operations_counted s p.values.count p.values p.first p.operations_read)
      ∙ ap (λ (x : Archive). length x.operations) (sym p.archive)
