-- For the contracts of functions that are not open: what an accepted archive is, and the ranges of its bytes that are
-- copied.
use Rattle.std.specs.Prelude.{ℕ, ◌≡◌, List, [], ◌∷◌, length}
use Rattle.stored_form.specs.{Number.Bytes, Cuts.fields_end, Reader.header_layout, declared.Record.Record}
use Rattle.stored_form_theorems.specs.Checking.{record_values}
use Rattle.written_form.specs.{Effect.Effect, Ranges.append}
use Rattle.archive.specs.Archive.{archive_refusal}

-- no check refuses these bytes; h is their header, and their operations begin at this offset
pub record IsAccepted (s : List ℕ) (h : Record) (first : ℕ) : Type 0 where
  pub in_range : Bytes s
  pub passes : archive_refusal s ≡ 0
  pub header : h ≡ record_values header_layout s
  pub begins : first ≡ fields_end (length header_layout) s 0

-- a range of s appended, and then a field in the place of one of s
unfoldable pub replaced : List ℕ → ℕ → ℕ → List ℕ → Effect → Effect
replaced s start end field e = append field 0 (length field) (append s start end e)

-- all of s appended, but for the field from `seal` to `first` and the one from `operation` to `next`: a field replaces
-- the first, the field of a neutral operation the second
unfoldable pub both_replaced : List ℕ → ℕ → ℕ → List ℕ → ℕ → ℕ → Effect → Effect
both_replaced s seal first field operation next e =
    append s next (length s) (replaced s first operation (0x44 ∷ 0x00 ∷ 0x00 ∷ []) (replaced s 0 seal field e))
