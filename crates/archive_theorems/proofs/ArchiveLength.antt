-- `archive_longest`: every accepted archive has at most 60,547 bytes (docs/SPECIFICATION.md, 9).
-- `archive_short`: so it is shorter than the report's input of 65,536 (docs/SPECIFICATION.md, 10).
use Prim.Native.Nat.{ℕ, ◌+◌, ◌≤◌, ◌<◌}
use mathlib.Core.Path.{◌≡◌, refl, ap}
use mathlib.Core.List.{List, ◌++◌}
use native.Mathlib.Omega.{arith}
use lib.ListN.{length, length-append}
use Rattle.jacobian.specs.{Curves.coefficients, declared.Curve.Curve}
use Rattle.stored_form.specs.{Number.encode_numbers, Number.encode_number, Number.Bytes, Reading.found, Head.degree_length, Head.curve_length, Head.head_bytes, Head.encode_field}
use Rattle.stored_form.specs.{Fields.degree_field, Fields.drawing_field, Fields.count_field, Fields.count_limit, Pairs.pairs_field}
use Rattle.stored_form.specs.Classes.{curve_field, curve_fields_bytes, class_field, operation_fields}
use Rattle.stored_form.proofs.Lengths.{length_stored, length_count}
use Rattle.stored_form_theorems.proofs.{ClassRoundTrips.class_short, Operations.operations_short, Pairs.pairs_short}
use Rattle.archive.specs.Archive.{Archive, read_archive}
use Rattle.archive_theorems.specs.Written.{archive_bytes, Storable}
use Rattle.archive_theorems.proofs.ArchiveRoundTrips.{archive_written}

first_length : (c : Curve) → length (curve_fields_bytes c) ≡ 3 + degree_length + (3 + curve_length)
unfolding curve_fields_bytes degree_field curve_field coefficients encode_field head_bytes encode_numbers encode_number
first_length c = refl

stored_longest : (a : Archive) → Storable a → length (archive_bytes a) ≤ 60547
unfolding archive_bytes drawing_field count_limit
stored_longest a ok =
    let first : List ℕ = curve_fields_bytes a.curve in
    let name : List ℕ = drawing_field a.drawing in
    let count : List ℕ = count_field (length a.operations) in
    let seal : List ℕ = class_field 0x43 a.seal in
    let ops : List ℕ = operation_fields a.operations in
    let pairs : List ℕ = pairs_field a.pairs in
    omega (
      arith,
      length-append first name,
      length-append (first ++ name) count,
      length-append (first ++ name ++ count) seal,
      length-append (first ++ name ++ count ++ seal) ops,
      length-append (first ++ name ++ count ++ seal ++ ops) pairs,
      first_length a.curve,
      length_stored 0x46 a.drawing,
      length_count (length a.operations),
      class_short 0x43 a.curve a.seal ok.seal_allowed.none,
      operations_short a.curve a.operations ok.operations_allowed,
      pairs_short a.pairs ok.pairs_few,
    )

module _ (s : List ℕ) {a : Archive} {end : ℕ} (b : Bytes s) (h : read_archive s ≡ found a end) where
  pub archive_longest : length s ≤ 60547
  archive_longest =
      let w = archive_written s b h in
      let long : length s ≡ length (archive_bytes a) = ap length w.0 in
      omega (arith, stored_longest a w.2)

  pub archive_short : length s < 65536
  archive_short = omega (arith, archive_longest)
