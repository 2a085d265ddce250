-- Layouts of records, which list the tags that are expected, and how records are read (docs/SPECIFICATION.md, 5 and 6).
use Rattle.std.specs.Prelude.{ℕ, zero, suc, ◌+◌, Result, Ok, Err, Bool, not, List, [], ◌∷◌, ◌++◌, eqb, ltb, length, get_or}
use Rattle.jacobian.specs.declared.Class.{Class}
use Rattle.stored_form.specs.{Number.part, Reading.Reading, Reading.found, Reading.refused, Reading.refuse, Reading.checked, Reading.◌then◌}
use Rattle.stored_form.specs.{Head.body_length, Fields.ended, Record.empty_record, Tags.rules}
use Rattle.stored_form.specs.declared.{Record.Record, Read.Read, head.Body.Body}
use Rattle.refusals.specs.{Refusals.number, declared.Refusal.Refusal}

-- ---- one field

-- the head at an offset, where this tag is expected with a length that is allowed: the body's length and the offset
-- after the body
unfoldable pub read_head_by : ℕ → (ℕ → Bool) → List ℕ → ℕ → Reading ℕ
read_head_by tag allows s at =
    let n = body_length s at in
    refuse 102 (ltb (length s) (at + 3))
    (refuse 103 (not (eqb (get_or s at 0) tag))
    (refuse 104 (not (allows n))
    (refuse 105 (ltb (length s) (at + 3 + n))
    (found n (at + 3 + n)))))

-- the head at an offset, where this tag is expected after the record h
abbrev pub read_head : ℕ → Record → List ℕ → ℕ → Reading ℕ
read_head tag h s at = read_head_by tag ((rules tag).allows h) s at

-- the body of the field at an offset, with the offset after it
unfoldable pub read_body : ℕ → Record → List ℕ → ℕ → Reading (List ℕ)
read_body tag h s at = read_head tag h s at then λ n next. found (part s (at + 3) n) next

-- the field at an offset: the record h with it, unless its check refuses
unfoldable pub read_field : ℕ → Record → List ℕ → ℕ → Reading Record
read_field tag h s at =
    read_body tag h s at then λ body next.
    let more = (rules tag).with_field body h in
    checked ((rules tag).check (length body) more) (found more next)

-- ---- a record: the fields with these tags, one after the other, and nothing after them

-- reads fields with these tags one after the other into the record h
unfoldable pub read_fields : List ℕ → Record → List ℕ → ℕ → Reading Record
read_fields [] h s at = found h at
read_fields (tag ∷ tags) h s at = read_field tag h s at then λ more next. read_fields tags more s next

-- reads a record with these tags, after which the bytes end
unfoldable pub read_record : List ℕ → List ℕ → Reading Record
read_record tags s = read_fields tags empty_record s 0 then ended s

-- the layout with which every record begins; it is the whole record of a stamp
abbrev pub curve_layout : List ℕ
curve_layout = 0x40 ∷ 0x41 ∷ []

-- the layout of a class's record
abbrev pub class_layout : List ℕ
class_layout = curve_layout ++ 0x43 ∷ []

-- the layout of the record of a sum: two classes
abbrev pub sum_layout : List ℕ
sum_layout = curve_layout ++ 0x43 ∷ 0x43 ∷ []

-- the layout of a register; it is the whole record of a release
abbrev pub register_layout : List ℕ
register_layout = curve_layout ++ 0x42 ∷ 0x45 ∷ 0x43 ∷ []

-- the layout of a commit's or an undo's record: a register with an operation
abbrev pub step_layout : List ℕ
step_layout = register_layout ++ 0x44 ∷ []

-- the layout of an archive's header, its fields before the operations
abbrev pub header_layout : List ℕ
header_layout = curve_layout ++ 0x46 ∷ 0x42 ∷ 0x43 ∷ []

-- ---- operations: 0x44 fields in order, newest first

-- the n operations from an offset on
unfoldable pub read_operations : ℕ → Record → List ℕ → ℕ → Reading (List Class)
read_operations zero h s at = found [] at
read_operations (suc n) h s at =
    read_field 0x44 h s at then λ more next.
    read_operations n more s next then λ older end.
    found (more.operation ∷ older) end

-- ---- the answers of the code, as readings

-- the head that the code answers
abbrev pub head_reading : Result Body Refusal → Reading ℕ
head_reading (Ok b) = found b.len b.next.at
head_reading (Err r) = refused (number r)

-- the record that the code answers, with the offset of the next field
abbrev pub reading_of : Result Read Refusal → Reading Record
reading_of (Ok r) = found r.values r.next.at
reading_of (Err r) = refused (number r)
