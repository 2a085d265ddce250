-- The bytes of an archive, and the values that have such bytes (docs/SPECIFICATION.md, 6 and 9).
use Rattle.std.specs.Prelude.{ℕ, ◌≤◌, ◌≡◌, true, List, ◌++◌, length}
use Rattle.lists.specs.Lists.{All}
use Rattle.stored_form.specs.{Head.drawing_limit, Fields.drawing_field, Fields.count_field, Fields.printable}
use Rattle.stored_form.specs.{Classes.curve_fields_bytes, Classes.class_field, Classes.operation_fields, Passing.CurvePasses, Passing.CountPasses, Passing.ClassPasses}
use Rattle.stored_form.specs.Pairs.{pairs_field}
use Rattle.stored_form_theorems.specs.Pairs.{PairsAllowed}
use Rattle.archive.specs.Archive.{Archive}

-- an archive encoded: 0x40, 0x41, 0x46, 0x42, 0x43, one 0x44 for each operation, and 0x48 if there are pairs
unfoldable pub archive_bytes : Archive → List ℕ
archive_bytes a =
    curve_fields_bytes a.curve
    ++ drawing_field a.drawing
    ++ count_field (length a.operations)
    ++ class_field 0x43 a.seal
    ++ operation_fields a.operations
    ++ pairs_field a.pairs

-- an archive whose values no check refuses
pub record Storable (a : Archive) : Type 0 where
  pub curve_allowed : CurvePasses a.curve
  pub drawing_printable : printable a.drawing ≡ true
  pub drawing_short : length a.drawing ≤ drawing_limit
  pub count_within : CountPasses (length a.operations)
  pub seal_allowed : ClassPasses a.curve a.seal
  pub operations_allowed : All (ClassPasses a.curve) a.operations
  pub pairs_allowed : PairsAllowed (length a.operations) a.pairs
  pub pairs_few : length a.pairs ≤ 2048
