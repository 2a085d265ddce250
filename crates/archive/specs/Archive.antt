-- An archive, and how it is read (docs/SPECIFICATION.md, 6 and 9).
use Rattle.std.specs.Prelude.{ℕ, Bool, List, [], eqb}
use Rattle.jacobian.specs.declared.{Curve.Curve, Class.Class}
use Rattle.stored_form.specs.{Reading.Reading, Reading.found, Reading.refused, Reading.◌then◌, Reading.reading_refusal, Fields.ended, Record.drawing_name, Record.empty_record}
use Rattle.stored_form.specs.{Reader.read_fields, Reader.read_operations, Reader.header_layout, Pairs.read_pairs, declared.Record.Record}

-- the values of an archive; its operations are in order, newest first, and its pairs in ascending order
pub record Archive : Type 0 where
  pub curve : Curve
  pub drawing : List ℕ
  pub seal : Class
  pub operations : List Class
  pub pairs : List ℕ

-- whether a class is neutral
unfoldable pub neutral : Class → Bool
neutral a = eqb a.degree 0

-- reads what follows the n operations: their pairs, if there are any, and the end of the bytes
unfoldable pub read_tail : ℕ → List ℕ → ℕ → Reading (List ℕ)
read_tail n s at = read_pairs n s at then ended s

-- the archive with this header, these operations and these pairs
unfoldable pub archive_of : Record → List Class → List ℕ → Archive
archive_of h ops pairs = record { curve = h.curve; drawing = drawing_name h.drawing; seal = h.class; operations = ops; pairs = pairs }

-- reads an archive: the header (0x40, 0x41, 0x46, 0x42, 0x43), as many 0x44 as its count says, and what follows them
unfoldable pub read_archive : List ℕ → Reading Archive
read_archive s =
    read_fields header_layout empty_record s 0 then λ h first.
    read_operations h.count h s first then λ ops last.
    read_tail h.count s last then λ pairs end.
    found (archive_of h ops pairs) end

-- the archive that was read, and an empty one for a refusal
unfoldable pub archive_in : Reading Archive → Archive
archive_in (found a end) = a
archive_in (refused n) = archive_of empty_record [] []

-- the archive that bytes say, if they are accepted
unfoldable pub archive_said : List ℕ → Archive
archive_said s = archive_in (read_archive s)

-- the number of an archive's refusal, and 0 if it is accepted
unfoldable pub archive_refusal : List ℕ → ℕ
archive_refusal s = reading_refusal (read_archive s)
