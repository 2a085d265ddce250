-- `suppressed_lengths`: the stored form of a suppressed archive is at most 32 bytes longer than that of the archive,
-- and at most 96 shorter.
use Prim.Native.Nat.{ℕ, zero, suc, ◌+◌, ◌-◌, ◌≤◌, ◌<◌}
use mathlib.Core.Path.{◌≡◌, refl, ap, ◌∙◌}
use mathlib.Core.List.{List, ◌∷◌, ◌++◌}
use native.Mathlib.Omega.{arith}
use lib.ListN.{length, get_or, take, drop, set, length-append}
use lib.Seq.{set_split, split_at}
use Rattle.lists.proofs.Lists.{all_at}
use Rattle.jacobian.specs.{Answer.neutral_class, declared.Class.Class}
use Rattle.jacobian.proofs.Calls.{only_neutral}
use Rattle.stored_form.specs.{Number.encode_number, Number.encode_numbers, Head.head_bytes, Head.encode_field, Fields.drawing_field, Fields.count_field, Passing.ClassPasses, Pairs.pairs_field}
use Rattle.stored_form.specs.Classes.{curve_fields_bytes, encode_row, encode_class, class_field, operation_fields}
use Rattle.stored_form.proofs.Lengths.{length_stored, length_count}
use Rattle.stored_form_theorems.proofs.ClassRoundTrips.{class_short, length_encoded}
use Rattle.archive.specs.Archive.{Archive}
use Rattle.archive_theorems.specs.Written.{archive_bytes, Storable}
use Rattle.archive_theorems.proofs.FieldPlaces.{operation_fields_append}
use Rattle.suppression_theory.specs.{Suppression.operation_of, Suppression.suppressed_operations, Archives.suppressed}
use Rattle.suppression_theory.proofs.{Suppression.suppressed_seal_accepts, Archives.neutral_unchanged}

-- the length of an archive, by its parts
abbrev front : Archive → List ℕ
front a = curve_fields_bytes a.curve ++ drawing_field a.drawing

by_parts : (a : Archive) → length (archive_bytes a) ≡ length (front a) + 5 + length (class_field 0x43 a.seal) + length (operation_fields a.operations) + length (pairs_field a.pairs)
unfolding archive_bytes
by_parts a =
    let C = count_field (length a.operations) in
    let S = class_field 0x43 a.seal in
    let O = operation_fields a.operations in
    omega (arith, length-append (front a ++ C ++ S ++ O) (pairs_field a.pairs), length-append (front a ++ C ++ S) O, length-append (front a ++ C) S, length-append (front a) C, length_count (length a.operations))

-- a class's field has at least three bytes
field_least : (tag : ℕ) (a : Class) → 3 ≤ length (class_field tag a)
unfolding class_field
field_least tag a = omega (arith, length_stored tag (encode_class a))

-- the operations with another at a place
changed_length : (ops : List Class) (p : ℕ) (e : Class) → p < length ops →
    length (operation_fields (set ops p e)) + length (class_field 0x44 (get_or ops p neutral_class)) ≡ length (operation_fields ops) + length (class_field 0x44 e)
unfolding operation_fields
changed_length ops p e h =
    let B = take p ops in
    let R = drop (suc p) ops in
    let x = get_or ops p neutral_class in
    let at : (y : Class) → length (operation_fields (B ++ (y ∷ R))) ≡ length (operation_fields B) + (length (class_field 0x44 y) + length (operation_fields R)) =
    λ y. ap length (operation_fields_append B (y ∷ R)) ∙ length-append (operation_fields B) (class_field 0x44 y ++ operation_fields R) ∙ ap (λ (n : ℕ). length (operation_fields B) + n) (length-append (class_field 0x44 y) (operation_fields R)) in
    let new = ap (λ (l : List Class). length (operation_fields l)) (set_split ops p e h) ∙ at e in
    let old = ap (λ (l : List Class). length (operation_fields l)) (split_at ops p neutral_class h) ∙ at x in
    omega (arith, new, old)

neutral_long : length (class_field 0x44 neutral_class) ≡ 3
unfolding class_field encode_field head_bytes encode_number encode_numbers encode_row neutral_class
neutral_long = refl

module _ (a : Archive) (ok : Storable a) (k : ℕ) (low : 1 ≤ k) (high : k ≤ length a.operations) where
  abbrev op : Class
  op = operation_of k a.operations

  -- the two lengths
  lengths : length (archive_bytes (suppressed k a)) + length (class_field 0x43 a.seal) + length (class_field 0x44 op)
      ≡ length (archive_bytes a) + length (class_field 0x43 (suppressed k a).seal) + 3
  unfolding suppressed suppressed_operations operation_of
  lengths =
      let p = length a.operations - k in
      omega (arith, by_parts (suppressed k a), by_parts a, changed_length a.operations p neutral_class (omega arith), neutral_long)

  inside : length a.operations - k < length a.operations
  inside = omega arith

  passes : ClassPasses a.curve op
  unfolding operation_of
  passes = all_at (length a.operations - k) neutral_class inside ok.operations_allowed

  new_passes : ClassPasses a.curve (suppressed k a).seal
  unfolding suppressed
  new_passes = suppressed_seal_accepts ok.seal_allowed ok.operations_allowed k low high

  -- an operation that is not neutral has a field of at least 19 bytes
  some_long : {d : ℕ} → op.degree ≡ suc d → 19 ≤ length (class_field 0x44 op)
  unfolding class_field
  some_long e = omega (arith, length_stored 0x44 (encode_class op), length_encoded a.curve op passes.none, e)

  pub suppressed_lengths : (length (archive_bytes (suppressed k a)) ≤ length (archive_bytes a) + 32) × (length (archive_bytes a) ≤ length (archive_bytes (suppressed k a)) + 96)
  suppressed_lengths = go op.degree refl
    where
      shrinks : length (archive_bytes a) ≤ length (archive_bytes (suppressed k a)) + 96
      shrinks = omega (arith, lengths, field_least 0x43 (suppressed k a).seal, class_short 0x43 a.curve a.seal ok.seal_allowed.none, class_short 0x44 a.curve op passes.none)

      go : (d : ℕ) → op.degree ≡ d → (length (archive_bytes (suppressed k a)) ≤ length (archive_bytes a) + 32) × (length (archive_bytes a) ≤ length (archive_bytes (suppressed k a)) + 96)
      go zero e =
          let same = ap (λ (x : Archive). length (archive_bytes x)) (neutral_unchanged a ok k low high (only_neutral a.curve passes e)) in
          (omega (arith, same), shrinks)
      go (suc d) e =
          let long : 19 ≤ length (class_field 0x44 op) = some_long e in
          (omega (arith, lengths, long, field_least 0x43 a.seal, class_short 0x43 a.curve (suppressed k a).seal new_passes.none), shrinks)
