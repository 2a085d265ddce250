-- The drawing number at the limit of its length (docs/SPECIFICATION.md, 6.3).
-- The input is any whose degree and curve are read, and in which a head with the tag 0x46 follows.
-- `drawing_above_limit`: a length above the limit is refused with 104, whatever bytes follow and however few.
use Prim.Native.Nat.{ℕ, ◌+◌, ◌≤◌, ◌<◌}
use mathlib.Core.Path.{◌≡◌, refl}
use mathlib.Core.List.{List, [], ◌∷◌}
use lib.ListN.{length, get_or}
use borrow.Author.Tests.{lt-leb}
use Rattle.stored_form.specs.{Reading.found, Reading.refused}
use Rattle.stored_form.specs.{Head.drawing_limit, Head.body_length, Record.empty_record, Tags.rules}
use Rattle.stored_form.specs.{Reader.curve_layout, Reader.read_field, Reader.read_fields, declared.Record.Record}
use Rattle.stored_form.proofs.{Heads.head_104, Readers.field_refused}
use Rattle.archive.specs.Archive.{archive_refusal}
use Rattle.archive_theorems.proofs.HeaderEdges.{header_refused}

module _ (s : List ℕ) {h : Record} {at : ℕ} (first : read_fields curve_layout empty_record s 0 ≡ found h at) (fits : at + 3 ≤ length s) (expected : get_or s at 0 ≡ 0x46) where
  -- the refusal of the drawing number is the archive's
  archive_refused : {n : ℕ} → read_field 0x46 h s at ≡ refused n → archive_refusal s ≡ n
  archive_refused e = header_refused s curve_layout 0x46 (0x42 ∷ 0x43 ∷ []) refl first e

  pub drawing_above_limit : drawing_limit < body_length s at → archive_refusal s ≡ 104
  unfolding rules
  drawing_above_limit e = archive_refused (field_refused 0x46 h s at (head_104 0x46 ((rules 0x46).allows h) s at refl fits expected (lt-leb _ _ e)))
