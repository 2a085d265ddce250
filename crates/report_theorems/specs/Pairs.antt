-- Archives that differ in their pairs alone (docs/SPECIFICATION.md, 9 and 10).
use Rattle.std.specs.Prelude.{ℕ, List}
use Rattle.archive.specs.Archive.{Archive}

-- the archive with these pairs in place of its own
abbrev pub with_pairs : List ℕ → Archive → Archive
with_pairs pairs a = record { curve = a.curve; drawing = a.drawing; seal = a.seal; operations = a.operations; pairs = pairs }
