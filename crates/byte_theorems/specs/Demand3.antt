-- The archive made of the fields of a list of byte calls, for demand 3 (docs/SPECIFICATION.md, 9 and 11).
use Rattle.std.specs.Prelude.{ℕ, length}
use mathlib.Core.List.{List, ◌++◌, flatten}
use Rattle.history.specs.Machine.{last, newest}
use Rattle.stored_form.specs.{Fields.drawing_field, Fields.count_field, Pairs.pairs_field}
use Rattle.seal.specs.Steps.{Kept, ByteCall, byte_calls, operations, seal_field}

-- The kept fields of degree and curve, a drawing number, the count of the accepted steps, the seal field last written,
-- the operations of the accepted steps as they were given, newest first, and the field of pairs if there are any.
unfoldable pub archive_of_fields : Kept → List ByteCall → List ℕ → List ℕ → List ℕ
archive_of_fields k cs drawing pairs =
    k.curve
    ++ drawing_field drawing
    ++ count_field (length (operations (newest byte_calls k cs)))
    ++ seal_field (last byte_calls k cs)
    ++ flatten (operations (newest byte_calls k cs))
    ++ pairs_field pairs
