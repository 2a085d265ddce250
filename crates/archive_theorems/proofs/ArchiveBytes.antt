-- An encoded archive is a list of bytes (`archive_is_bytes`).
use Prim.Native.Nat.{ℕ, zero, suc, ◌≤◌, ◌<◌}
use mathlib.Core.Path.{◌≡◌}
use mathlib.Core.Bool.{true, ◌&&◌}
use mathlib.Core.List.{List, [], ◌∷◌, ◌++◌}
use native.Mathlib.Omega.{arith}
use lib.Dec.{leb, lit<}
use lib.ListN.{length, get_or}
use borrow.Author.Tests.{leb-true}
use Rattle.jacobian.proofs.ByValue.Checks.{both}
use Rattle.stored_form.specs.{Number.Bytes, Head.count_length, Fields.printable, Fields.count_field, Fields.drawing_field, Classes.curve_fields_bytes, Classes.class_field, Classes.operation_fields, Pairs.pairs_field}
use Rattle.stored_form_theorems.proofs.{Written.bytes_append, Written.number_bytes, Written.field_bytes, Written.class_bytes, Written.first_bytes, Operations.operations_bytes, Pairs.pairs_are_bytes}
use Rattle.archive.specs.Archive.{Archive}
use Rattle.archive_theorems.specs.Written.{archive_bytes}

-- printable bytes are bytes
printable_bytes : (xs : List ℕ) → printable xs ≡ true → Bytes xs
unfolding printable
printable_bytes [] h i = lit< tt
printable_bytes (x ∷ xs) h i =
    let p = both (leb 0x20 x && leb x 0x7E) (printable xs) h in
    go i (leb-true x 0x7E (both (leb 0x20 x) (leb x 0x7E) p.0).1) (printable_bytes xs p.1)
  where
    go : (i : ℕ) → x ≤ 0x7E → Bytes xs → get_or (x ∷ xs) i 0 < 256
    go zero le b = omega arith
    go (suc i) le b = b i

pub archive_is_bytes : (a : Archive) → printable a.drawing ≡ true → Bytes (archive_bytes a)
unfolding archive_bytes drawing_field count_field
archive_is_bytes a ok =
    let name : List ℕ = curve_fields_bytes a.curve ++ drawing_field a.drawing in
    let count : List ℕ = count_field (length a.operations) in
    let seal : List ℕ = class_field 0x43 a.seal in
    let named : Bytes name =
    bytes_append (curve_fields_bytes a.curve) (drawing_field a.drawing) (first_bytes a.curve) (field_bytes 0x46 _ (lit< tt) (printable_bytes a.drawing ok)) in
    let counted : Bytes (name ++ count) = bytes_append name count named (field_bytes 0x42 _ (lit< tt) (number_bytes count_length (length a.operations))) in
    let sealed : Bytes (name ++ count ++ seal) = bytes_append (name ++ count) seal counted (class_bytes 0x43 a.seal (lit< tt)) in
    let ops : List ℕ = operation_fields a.operations in
    let told : Bytes (name ++ count ++ seal ++ ops) = bytes_append (name ++ count ++ seal) ops sealed (operations_bytes a.operations) in
    bytes_append (name ++ count ++ seal ++ ops) (pairs_field a.pairs) told (pairs_are_bytes a.pairs)
