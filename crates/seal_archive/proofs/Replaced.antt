-- The ranges that are copied make the stored form of the suppressed archive.
-- `operation_accepted`, `operation_read`, `both_accepted`, `new_seal`: the operation, and the new seal as the code computes it.
-- `both_written`: the input with its two fields replaced is the suppressed archive's stored form.
use Prim.Native.Nat.{ℕ, suc, ◌+◌, ◌-◌, ◌≤◌, ◌<◌}
use mathlib.Core.Path.{◌≡◌, refl, sym, ap, ap₂, ◌∙◌, subst, subst₂}
use mathlib.Core.List.{List, [], ◌∷◌, ◌++◌, append_assoc}
use native.Mathlib.Omega.{arith}
use lib.ListN.{length, get_or, take, drop, set, length-append, length-set}
use lib.Seq.{set_split, take-length}
use Rattle.lists.proofs.Lists.{all_at}
use Rattle.std.specs.Prelude as std
use Rattle.std.specs.Result.{IsOk}
use Rattle.refusals.specs.{Refusals.number, declared.Refusal.Refusal}
use Rattle.jacobian.specs.{Answer.Accepts, Answer.Result, Answer.sum_answer, Answer.result, Answer.neutral_class, Group.opposite_of, Group.doublings, declared.Curve.Curve, declared.Class.Class}
use Rattle.jacobian.proofs.{Calls.opposite_accepts, Group.sum_given, Group.doublings_accept}
use Rattle.stored_form.specs.{Number.part, Head.head_bytes, Head.encode_field, Number.encode_number, Number.encode_numbers, Cuts.fields_end, Pairs.pairs_field, Reader.read_field, Reader.reading_of, Reading.found, Reading.refused, Record.with_operation, declared.Record.Record, declared.Read.Read}
use Rattle.stored_form.specs.{Fields.drawing_field, Fields.count_field}
use Rattle.stored_form.specs.Classes.{curve_fields_bytes, encode_row, encode_class, class_field, operation_fields}
use Rattle.stored_form.proofs.{Lengths.length_stored, Readings.same_found}
use Rattle.stored_form_theorems.specs.Fields.{Field}
use Rattle.stored_form_theorems.proofs.{Places.behind, Places.up_to, FieldLaws.value_read_back, FieldValues.operation_law, ClassRoundTrips.class_short}
use Rattle.archive.specs.{Archive.Archive, Archive.archive_said, Skipping.next_field, Skipping.skip_fields}
use Rattle.archive.proofs.Skipped.{next_within, fields_more, skip_inside}
use Rattle.archive_theorems.specs.Written.{archive_bytes, Storable}
use Rattle.archive_theorems.proofs.FieldPlaces.{Layout, front_bytes, operation_fields_append, operation_place, operation_stands, place_within}
use Rattle.written_form.specs.{Effect.effect, Effect.write, Ranges.append}
use Rattle.written_form.proofs.Appending.{append_write}
use Rattle.suppression_theory.specs.{Suppression.operation_of, Suppression.suppressed_operations, Suppression.suppressed_seal, Archives.suppressed}
use Rattle.suppression_theory.proofs.Suppression.{suppressed_seal_accepts}
use Rattle.seal_archive.specs.{Suppress.growth, internal.Accepted.IsAccepted, internal.Accepted.replaced, internal.Accepted.both_replaced}
use Rattle.seal_archive.proofs.Accepted.{stored, laid, header_counted, header_curve, header_seal}

-- a field copied after what was written
append_field : {s : List ℕ} {at next : ℕ} {bytes : List ℕ} (xs out : List ℕ) → Field s at bytes next → next ≤ length s → length xs + length bytes ≤ length out
    → append s at next (write xs out) ≡ write (xs ++ bytes) out
append_field {s} {at} {next} {bytes} xs out f within fits =
    let long : next - at ≡ length bytes = omega (arith, f.ends) in
    append_write s at next xs out (omega (arith, f.ends)) within (omega (arith, f.ends))
    ∙ ap (λ (x : List ℕ). write (xs ++ x) out) (ap (part s at) long ∙ f.stands)

neutral_field : class_field 0x44 neutral_class ≡ 0x44 ∷ 0x00 ∷ 0x00 ∷ []
unfolding class_field encode_field head_bytes encode_number encode_numbers encode_row neutral_class
neutral_field = refl

regroup : (x o n r q : List ℕ) → x ++ o ++ n ++ (r ++ q) ≡ x ++ (o ++ (n ++ r)) ++ q
regroup x o n r q =
    sym (append_assoc (x ++ o ++ n) r q)
    ∙ ap (λ (y : List ℕ). y ++ q) (append_assoc (x ++ o) n r ∙ append_assoc x o (n ++ r))

module _ {s : List ℕ} {h : Record} {first k : ℕ} (accepted : IsAccepted s h first) (low : 1 ≤ k) (high : k ≤ h.count) where
  abbrev a : Archive
  a = archive_said s

  abbrev ops : List Class
  ops = a.operations

  abbrev p : ℕ
  p = length ops - k

  fields : Layout s a
  fields = laid accepted

  ok : Storable a
  ok = (stored accepted).1

  count_is : h.count ≡ length ops
  count_is = header_counted accepted

  first_is : first ≡ fields.first
  first_is = accepted.begins ∙ fields.first_begins

  p_inside : p < length ops
  p_inside = omega (arith, low, high, count_is)

  -- ---- offsets

  module _ {seal : ℕ} (skipped : seal ≡ skip_fields 4 s 0) where
    seal_is : seal ≡ fields.seal_at
    seal_is = skipped ∙ skip_inside s 4 0 (omega (arith, fields.seal_begins, fields.seal.ends, fields.operations.ends, fields.pairs.ends)) ∙ fields.seal_begins

  module _ {operation : ℕ} (skipped : operation ≡ skip_fields (h.count - k) s first) where
    operation_is : operation ≡ fields_end p s fields.first
    operation_is =
        let e = ap₂ (λ (n j : ℕ). fields_end (n - k) s j) count_is first_is in
        skipped ∙ skip_inside s (h.count - k) first (omega (arith, e, place_within fields ok p (omega (arith, p_inside)))) ∙ e

    next_is : {next : ℕ} → next ≡ next_field s operation → next ≡ fields_end (suc p) s fields.first
    unfolding fields_end
    next_is passed =
        let at = fields_end p s fields.first in
        let one : p + 1 ≡ suc p = omega arith in
        let e = ap (λ (i : ℕ). fields_end i s fields.first) (sym one) ∙ fields_more s p 1 fields.first in
        passed ∙ ap (next_field s) operation_is ∙ sym (next_within s at refl (omega (arith, e, place_within fields ok (suc p) p_inside))) ∙ sym e

    -- ---- the new seal

    operation_found : (end : ℕ) × (read_field 0x44 h s operation ≡ found (with_operation (operation_of k ops) h) end)
    unfolding operation_of
    operation_found =
        let passes = all_at p neutral_class p_inside ok.operations_allowed in
        let f = operation_stands fields ok p p_inside in
        let read = up_to f (value_read_back (operation_law h) s (fields_end p s fields.first) (subst (λ (c : Curve). Accepts c (get_or ops p neutral_class)) (header_curve accepted) passes)) in
        (_, ap (read_field 0x44 h s) operation_is ∙ read)

    pub operation_accepted : (x : std.Result Read Refusal) → reading_of x ≡ read_field 0x44 h s operation → IsOk x
    operation_accepted (std.Ok r) e = refl
    operation_accepted (std.Err r) e = let f : refused (number r) ≡ _ = e ∙ operation_found.1 in cc

    pub operation_read : {x : std.Result Read Refusal} {r : Read} → reading_of x ≡ read_field 0x44 h s operation → x ≡ std.Ok r → r.values.operation ≡ operation_of k ops
    operation_read e is = ap (λ (m : Record). m.operation) (same_found (ap reading_of (sym is) ∙ e ∙ operation_found.1)).0

  -- the header's seal and the operation are accepted
  pub both_accepted : {operation : Class} → operation ≡ operation_of k ops → Accepts h.curve h.class × Accepts h.curve operation
  unfolding operation_of
  both_accepted read =
      let curve_is = header_curve accepted in
      let passes = all_at p neutral_class p_inside ok.operations_allowed in
      (subst₂ Accepts curve_is (header_seal accepted) ok.seal_allowed, subst₂ Accepts curve_is (sym read) passes)

  pub new_seal : {operation : Class} → operation ≡ operation_of k ops →
      (sum_answer h.curve h.class (opposite_of h.curve (doublings h.curve (h.count - k) operation))).class ≡ suppressed_seal a.curve k a.seal ops
  unfolding suppressed_seal operation_of
  new_seal read =
      let c = a.curve in
      let newer = h.count - k in
      let curve_is = sym (header_curve accepted) in
      let seal_is = sym (header_seal accepted) in
      let rule : Curve → Class → ℕ → Class → Result = λ x seal n d. result (sum_answer x seal (opposite_of x (doublings x n d))) in
      let number : newer ≡ p = ap (λ (n : ℕ). n - k) count_is in
      let passes = all_at p neutral_class p_inside ok.operations_allowed in
      ap (λ (r : Result). r.class)
      (ap (rule h.curve h.class newer) read
      ∙ ap₂ (λ (x : Curve) (seal : Class). rule x seal newer (operation_of k ops)) curve_is seal_is
      ∙ ap (λ (n : ℕ). rule c a.seal n (operation_of k ops)) number
      ∙ sum_given c ok.seal_allowed (opposite_accepts c (doublings_accept c passes p)))

  -- ---- the ranges

  abbrev F : List ℕ
  F = class_field 0x43 (suppressed_seal a.curve k a.seal ops)

  abbrev O : List ℕ
  O = operation_fields (take p ops)

  abbrev N : List ℕ
  N = class_field 0x44 neutral_class

  abbrev R : List ℕ
  R = operation_fields (drop (suc p) ops) ++ pairs_field a.pairs

  -- the stored form of the suppressed archive
  form : front_bytes a ++ F ++ O ++ N ++ R ≡ archive_bytes (suppressed k a)
  unfolding archive_bytes suppressed suppressed_operations operation_fields
  form =
      let all = ap operation_fields (set_split ops p neutral_class p_inside) ∙ operation_fields_append (take p ops) (neutral_class ∷ drop (suc p) ops) in
      regroup (front_bytes a ++ F) O N (operation_fields (drop (suc p) ops)) (pairs_field a.pairs)
      ∙ ap (λ (x : List ℕ). front_bytes a ++ F ++ x ++ pairs_field a.pairs) (sym all)
      ∙ ap (λ (n : ℕ). curve_fields_bytes a.curve ++ drawing_field a.drawing ++ count_field n ++ F ++ operation_fields (set ops p neutral_class) ++ pairs_field a.pairs) (sym (length-set ops p neutral_class))

  module _ {seal operation next : ℕ} (at_seal : seal ≡ skip_fields 4 s 0) (at_operation : operation ≡ skip_fields (h.count - k) s first) (at_next : next ≡ next_field s operation)
      (out : List ℕ) (roomy : length s + growth ≤ length out) where
    -- the fields that are copied
    front : Field s 0 (front_bytes a) seal
    front = subst (Field s 0 (front_bytes a)) (sym (seal_is at_seal)) fields.front

    -- the new seal's field
    new_short : length F ≤ 51
    new_short = class_short 0x43 a.curve _ (suppressed_seal_accepts ok.seal_allowed ok.operations_allowed k low (omega (arith, high, count_is))).none

    new : Field F 0 F (length F)
    new = record { stands = take-length F; ends = omega arith }

    newer : Field s first O operation
    newer = subst₂ (λ (i j : ℕ). Field s i O j) (sym first_is) (sym (operation_is at_operation)) (operation_place fields ok p (omega (arith, p_inside))).0

    replacing : Field (0x44 ∷ 0x00 ∷ 0x00 ∷ []) 0 N 3
    replacing = subst (λ (x : List ℕ). Field (0x44 ∷ 0x00 ∷ 0x00 ∷ []) 0 x 3) (sym neutral_field) (record { stands = refl; ends = refl })

    rest : Field s next R (length s)
    rest = subst (λ (i : ℕ). Field s i R (length s)) (sym (next_is at_operation at_next)) (behind _ _ (operation_place fields ok (suc p) p_inside).1 fields.pairs)

    -- how long they are
    seal_long : seal + 3 ≤ first
    unfolding class_field
    seal_long = omega (arith, seal_is at_seal, first_is, fields.seal.ends, length_stored 0x43 (encode_class a.seal))

    operation_long : operation + 3 ≤ next
    unfolding class_field
    operation_long =
        let f = operation_stands fields ok p p_inside in
        omega (arith, operation_is at_operation, next_is at_operation at_next, f.ends, length_stored 0x44 (encode_class (get_or ops p neutral_class)))

    pub both_written : both_replaced s seal first F operation next (effect 0 out) ≡ write (archive_bytes (suppressed k a)) out
    unfolding both_replaced replaced write
    both_written =
        let X = front_bytes a in
        let x = front.ends in
        let f = new.ends in
        let o = newer.ends in
        let n = replacing.ends in
        let r = rest.ends in
        let xf = length-append X F in
        let xfo = length-append (X ++ F) O in
        let xfon = length-append (X ++ F ++ O) N in
        ap (append s next (length s))
        (ap (append (0x44 ∷ 0x00 ∷ 0x00 ∷ []) 0 3)
        (ap (append s first operation)
        (ap (append F 0 (length F)) (append_field [] out front (omega (arith, seal_long, o, operation_long, r)) (omega (arith, x, seal_long, o, operation_long, r, roomy)))
        ∙ append_field X out new (omega arith) (omega (arith, x, f, new_short, seal_long, o, operation_long, r, roomy)))
        ∙ append_field (X ++ F) out newer (omega (arith, operation_long, r)) (omega (arith, xf, x, f, new_short, seal_long, o, operation_long, r, roomy)))
        ∙ append_field (X ++ F ++ O) out replacing (omega arith) (omega (arith, xf, xfo, x, f, n, new_short, seal_long, o, operation_long, r, roomy)))
        ∙ append_field (X ++ F ++ O ++ N) out rest (omega arith) (omega (arith, xf, xfo, xfon, x, f, n, new_short, seal_long, o, operation_long, r, roomy))
        ∙ ap (λ (y : List ℕ). write y out) form
