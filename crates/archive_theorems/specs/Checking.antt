-- What the checks of an archive's bytes require, in checking order (docs/SPECIFICATION.md, 6 and 9).
use Rattle.std.specs.Prelude.{ℕ, List, [], ◌∷◌, ◌++◌, length, replicate}
use Rattle.jacobian.specs.Checks.{Check}
use Rattle.stored_form.specs.{Cuts.fields_end, Record.empty_record, Reader.header_layout}
use Rattle.stored_form_theorems.specs.{Checking.fields_checks, Checking.end_check, Checking.record_values, Pairs.after_pairs, Pairs.pairs_checks}

-- the number of operations that the header of an archive says
abbrev pub count_said : List ℕ → ℕ
count_said s = (record_values header_layout s).count

-- the layout of an archive: its header, and as many operations as its count says
abbrev pub archive_layout : List ℕ → List ℕ
archive_layout s = header_layout ++ replicate (count_said s) 0x44

-- the offset after the operations
abbrev pub operations_end : List ℕ → ℕ
operations_end s = fields_end (length (archive_layout s)) s 0

-- the checks of what follows n operations: those of their pairs, then the end
abbrev pub tail_checks : ℕ → List ℕ → ℕ → List Check
tail_checks n s at = pairs_checks n s at ++ end_check s (after_pairs s at) ∷ []

-- the checks of an archive: its fields, then what follows them
abbrev pub archive_checks : List ℕ → List Check
archive_checks s = fields_checks (archive_layout s) empty_record s 0 ++ tail_checks (count_said s) s (operations_end s)

-- the numbers with which an archive is refused
abbrev pub archive_numbers : List ℕ
archive_numbers = 102 ∷ 103 ∷ 104 ∷ 105 ∷ 106 ∷ 107 ∷ 108 ∷ 109 ∷ 110 ∷ 111 ∷ 112 ∷ 122 ∷ []
