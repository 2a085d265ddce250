-- The reader of an archive: a state, and one step for each field (docs/SPECIFICATION.md, 6 and 9).
use Rattle.std.specs.Prelude.{ℕ, zero, suc, ◌-◌, Result, Ok, Err, Bool, true, false, cond, List, ltb, length, get_or}
use Rattle.stored_form.specs.{Reading.Reading, Reading.found, Reading.refused, Reading.◌then◌, Record.empty_record}
use Rattle.stored_form.specs.{Fields.ended, Reader.read_field, Reader.read_fields, Reader.header_layout, Pairs.read_pairs, declared.Record.Record}
use Rattle.refusals.specs.{Refusals.number, declared.Refusal.Refusal}
use Rattle.archive.specs.{declared.Expected.Expected, declared.Reader.Reader, declared.Advance.Advance}
use Rattle.archive.specs.declared.Expected.TheVariants.{Header, Operations, Pairs, End, Nothing}

-- a reader's state: what is expected next, and the record of what was read
abbrev pub reader : Expected → Record → Reader
reader d h = record { expected = d; values = h }

-- the state before the first field
unfoldable pub start : Reader
start = reader (Header 0) empty_record

-- ---- what is expected next

-- what is expected if this many operations are left: the next one, or the pairs
unfoldable pub operations_expected : ℕ → Expected
operations_expected zero = Pairs
operations_expected (suc n) = Operations (suc n)

-- what is expected after field i of the header: its next field, or the operations
unfoldable pub after_header : ℕ → ℕ → Expected
after_header i count = cond (ltb (suc i) (length header_layout)) (Header (suc i)) (operations_expected count)

-- ---- one step

-- reads field i of the header
unfoldable pub read_header_field : ℕ → Record → List ℕ → ℕ → Reading Reader
read_header_field i h s at = read_field (get_or header_layout i 0) h s at then λ more next. found (reader (after_header i more.count) more) next

-- reads an operation, of which n are left
unfoldable pub read_operation : ℕ → Record → List ℕ → ℕ → Reading Reader
read_operation n h s at = read_field 0x44 h s at then λ more next. found (reader (operations_expected (n - 1)) more) next

-- reads the pairs of the operations, of which there are as many as the count says
unfoldable pub read_pairs_expected : Record → List ℕ → ℕ → Reading Reader
read_pairs_expected h s at = read_pairs h.count s at then λ pairs next. found (reader End h) next

-- reads the end of the bytes
unfoldable pub read_end : Record → List ℕ → ℕ → Reading Reader
read_end h s at = ended s (reader Nothing h) at

-- reads what is expected at an offset
abbrev pub read_expected : Expected → Record → List ℕ → ℕ → Reading Reader
read_expected (Header i) h s at = read_header_field i h s at
read_expected (Operations n) h s at = read_operation n h s at
read_expected Pairs h s at = read_pairs_expected h s at
read_expected End h s at = read_end h s at
read_expected Nothing h s at = found (reader Nothing h) at

-- one step: reads what the state expects
unfoldable pub read_next : Reader → List ℕ → ℕ → Reading Reader
read_next r s at = read_expected r.expected r.values s at

-- whether a field, the pairs or the end are expected
unfoldable pub pending : Expected → Bool
pending (Header i) = true
pending (Operations n) = true
pending Pairs = true
pending End = true
pending Nothing = false

-- reads the header as a whole; the operations are expected then
unfoldable pub read_header : List ℕ → Reading Reader
read_header s = read_fields header_layout empty_record s 0 then λ h next. found (reader (operations_expected h.count) h) next

-- ---- the answer of the code, as a reading

-- the state that the code answers, with the offset of the next field
abbrev pub advance_reading : Result Advance Refusal → Reading Reader
advance_reading (Ok a) = found a.reader a.next.at
advance_reading (Err r) = refused (number r)
