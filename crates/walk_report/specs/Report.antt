-- The walk report as lines (docs/SPECIFICATION.md, 10).
use Rattle.std.specs.Prelude.{ℕ, ◌+◌, length}
use mathlib.Core.List.{List, [], ◌∷◌, flatten}
use Rattle.jacobian.specs.declared.Class.{Class}
use Rattle.stored_form.specs.Reading.{Reading, found, refused}
use Rattle.archive.specs.Archive.{Archive, read_archive}
use Rattle.walk_report.specs.{Lines.line, Lines.first_line, Lines.refusal_line, Walk.seals, Walk.letters}

-- one line for each seal with its letter, numbered from k
unfoldable pub seal_lines : ℕ → List ℕ → List Class → List (List ℕ)
seal_lines k [] seals = []
seal_lines k (mark ∷ marks) [] = []
seal_lines k (mark ∷ marks) (seal ∷ seals) = line k mark seal ∷ seal_lines (k + 1) marks seals

-- the report of an accepted archive; the last seal's letter is a point, the others are those of the operations undone
unfoldable pub walk_lines : Archive → List (List ℕ)
walk_lines a =
    let ops = a.operations in
    first_line (length ops) a.drawing ∷ seal_lines 0 (0x2E ∷ letters a.curve ops) (seals a.curve a.seal ops)

-- the report of an archive that was read, or the line of its refusal
unfoldable pub lines_of : Reading Archive → List (List ℕ)
lines_of (found a end) = walk_lines a
lines_of (refused n) = refusal_line n ∷ []

-- the lines that the program writes for these bytes
unfoldable pub report_lines : List ℕ → List (List ℕ)
report_lines s = lines_of (read_archive s)

-- all bytes that the program writes for these bytes
unfoldable pub report : List ℕ → List ℕ
report s = flatten (report_lines s)
