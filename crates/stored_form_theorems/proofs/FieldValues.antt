-- The laws of the tags: fields, and values that no check refuses, determine each other.
-- `degree_law`, `curve_law`, `drawing_law`, `count_law`, `released_law`, `class_law`, `operation_law`: the law of each
-- tag.
-- The law of a released step is that after a count that passes, up to which it fits the bytes of a count.
-- `curve_more`, `first_curve`: the same of the first two fields of a record and its curve.
use Prim.Native.Nat.{ℕ, ◌^◌, ◌≤◌, ◌<◌}
use mathlib.Core.Path.{◌≡◌, refl, sym, ap, ◌∙◌, subst}
use mathlib.Core.Bool.{Bool, true, false, ◌||◌}
use mathlib.Core.List.{List, [], ◌∷◌, ◌++◌}
use native.Mathlib.{Nat.le_refl, Omega.arith}
use lib.Dec.{eqb, leb, lit<, lit≤}
use lib.ListN.{length}
use borrow.Author.Tests.{eqb-true, leb-true, le-leb}
use Rattle.lists.proofs.Lists.{all_of}
use Rattle.jacobian.specs.{Checks.unless, Curves.coefficients, Curves.curve_with, Curves.degree_refusal, Curves.curve_refusal, declared.Curve.Curve}
use Rattle.jacobian.proofs.ByValue.{Degrees.by_degree, Checks.curve_passes, Checks.then_zero}
use Rattle.stored_form.specs.{Number.decode_number, Number.encode_number, Head.encode_field, Head.degree_length, Head.count_length, Head.drawing_limit, Elements.encode_elements, Passing.DegreePasses, Passing.CurvePasses, Passing.CountPasses, Passing.ReleasedPasses, Passing.DrawingPasses, Passing.ClassPasses}
use Rattle.stored_form.specs.Fields.{degree_field, count_field, released_field, count_limit, count_refusal, released_refusal, drawing_field, drawing_refusal}
use Rattle.stored_form.specs.Classes.{decode_curve, curve_field, curve_fields_bytes, decode_class, encode_class, class_field}
use Rattle.stored_form.specs.Record.{decode_drawing, drawing_name, empty_record, curve_of_degree, with_curve, with_drawing, with_count, with_released, with_class, with_operation}
use Rattle.stored_form.specs.{Tags.rules, declared.Record.Record}
use Rattle.stored_form.proofs.{Digits.length_bytes, NumberLists.length_encode_numbers, Readings.test_passed, DrawingBytes.name_decoded, Lengths.class_lengths, Lengths.operation_lengths, Lengths.is_drawing_length}
use Rattle.stored_form_theorems.specs.{Fields.FieldLaw, Records.RecordEncodes}
use Rattle.stored_form_theorems.proofs.{Numbers.number_bytes_small, Elements.Small, Elements.numbers_bytes, Elements.fits, ClassRoundTrips.decode_body, ClassRoundTrips.body_allowed}
use Rattle.stored_form_theorems.proofs.FieldLaws.{field_law, more, first_value}

-- ---- values that pass fit their bytes

degree_small : (d : ℕ) → DegreePasses d → d < 256
degree_small d h = go (eqb d 5) refl h
  where
    go : (b : Bool) → eqb d 5 ≡ b → (b || eqb d 61) ≡ true → d < 256
    go true e f = omega (arith, eqb-true d 5 e)
    go false e f = omega (arith, eqb-true d 61 f)

count_small : (n : ℕ) → CountPasses n → n < 256 ^ count_length
unfolding count_limit
count_small n h = omega arith

-- the coefficients of a curve that is not refused fit eight bytes each
curve_fits : (c : Curve) → CurvePasses c → Small (coefficients c)
curve_fits c ok =
    let p = curve_passes c ok in
    let small = by_degree (λ d. 2 ^ d ≤ 2 ^ 61) (lit≤ tt) (lit≤ tt) c.degree p.accepted in
    all_of (coefficients c) 0 (λ i. fits c.degree small (p.coefficients_below i))

decode_encode_curve : (c : Curve) → CurvePasses c → decode_curve c.degree (encode_elements (coefficients c)) ≡ c
unfolding decode_curve coefficients curve_with
decode_encode_curve c ok = rw (numbers_bytes 8 (coefficients c) (curve_fits c ok))

pub degree_passes : (c : Curve) → CurvePasses c → DegreePasses c.degree
unfolding curve_refusal degree_refusal
degree_passes c ok = test_passed _ (lit< tt) (then_zero _ _ ok).0

-- ---- the laws

module _ (h : Record) where
  pub degree_law : FieldLaw 0x40 h DegreePasses degree_field (λ d. with_curve (curve_of_degree d) h) (λ m. m.curve.degree)
  unfolding rules curve_of_degree curve_with degree_refusal degree_field unless
  degree_law =
      field_law 0x40 h DegreePasses (encode_number degree_length) decode_number (λ d. with_curve (curve_of_degree d) h) (λ m. m.curve.degree)
      (λ m. refl) (λ d. refl) (λ b. refl)
      (λ d ok. (number_bytes_small degree_length d (degree_small d ok), rw ok, rw (length_bytes degree_length d) refl))
      (λ b none fits. test_passed _ (lit< tt) none)

  pub curve_law : FieldLaw 0x41 h (λ c. (c.degree ≡ h.curve.degree) × CurvePasses c) curve_field (λ c. with_curve c h) (λ m. m.curve)
  unfolding rules curve_field decode_curve curve_with coefficients
  curve_law =
      field_law 0x41 h _ (λ c. encode_elements (coefficients c)) (decode_curve h.curve.degree) (λ c. with_curve c h) (λ m. m.curve)
      (λ m. refl) (λ c. refl) (λ b. refl)
      (λ c ok.
      let said = ap (λ (d : ℕ). decode_curve d (encode_elements (coefficients c))) (sym ok.0) ∙ decode_encode_curve c ok.1 in
      (said, ok.1, rw (length_encode_numbers 8 (coefficients c)) refl))
      (λ b none fits. (refl, none))

  pub drawing_law : FieldLaw 0x46 h DrawingPasses drawing_field (λ xs. with_drawing (decode_drawing xs) h) (λ m. drawing_name m.drawing)
  unfolding rules drawing_field drawing_refusal unless
  drawing_law =
      field_law 0x46 h DrawingPasses (λ xs. xs) (λ b. b) (λ xs. with_drawing (decode_drawing xs) h) (λ m. drawing_name m.drawing)
      (λ m. refl) name_decoded (λ b. refl)
      (λ xs ok. (refl, rw (name_decoded xs, ok.0), le-leb (length xs) drawing_limit ok.1))
      (λ b none fits. (test_passed _ (lit< tt) (ap drawing_refusal (sym (name_decoded b)) ∙ none), is_drawing_length h {n = length b} fits))

  -- the law of a tag whose body is a number in the bytes of a count, refused with k above a bound that fits them
  bounded_law : (tag k bound : ℕ) (with : ℕ → Record) (value : Record → ℕ) → 0 < k → CountPasses bound →
      ((m : Record) → (rules tag).body m ≡ encode_number count_length (value m)) → ((n : ℕ) → value (with n) ≡ n) →
      ((b : List ℕ) → (rules tag).with_field b h ≡ with (decode_number b)) → ((len n : ℕ) → (rules tag).check len (with n) ≡ unless (leb n bound) k) →
      ((len : ℕ) → (rules tag).allows h len ≡ eqb len count_length) →
      FieldLaw tag h (λ n. n ≤ bound) (λ n. encode_field tag (encode_number count_length n)) with value
  unfolding unless
  bounded_law tag k bound with value some within has back holds checks allows =
      field_law tag h (λ n. n ≤ bound) (encode_number count_length) decode_number with value has back holds
      (λ n ok. (number_bytes_small count_length n (count_small n (omega arith)), checks _ n ∙ rw (le-leb n bound ok), allows _ ∙ rw (length_bytes count_length n) refl))
      (λ b none fits. leb-true _ _ (test_passed _ some (sym (checks _ _) ∙ none)))

  pub count_law : FieldLaw 0x42 h CountPasses count_field (λ n. with_count n h) (λ m. m.count)
  unfolding rules count_field count_refusal
  count_law = bounded_law 0x42 109 count_limit (λ n. with_count n h) (λ m. m.count) (lit< tt) (le_refl _) (λ m. refl) (λ n. refl) (λ b. refl) (λ len n. refl) (λ len. refl)

  pub released_law : CountPasses h.count → FieldLaw 0x45 h (ReleasedPasses h.count) released_field (λ n. with_released n h) (λ m. m.released)
  unfolding rules released_field released_refusal
  released_law within = bounded_law 0x45 120 h.count (λ n. with_released n h) (λ m. m.released) (lit< tt) within (λ m. refl) (λ n. refl) (λ b. refl) (λ len n. refl) (λ len. refl)

  pub class_law : FieldLaw 0x43 h (ClassPasses h.curve) (class_field 0x43) (λ a. with_class a h) (λ m. m.class)
  unfolding rules class_field
  class_law =
      field_law 0x43 h (ClassPasses h.curve) encode_class decode_class (λ a. with_class a h) (λ m. m.class) (λ m. refl) (λ a. refl) (λ b. refl)
      (λ a ok. (decode_body h.curve a ok.none, ok.none, class_lengths h (length (encode_class a)) ∙ body_allowed h.curve a ok.none))
      (λ b none fits. record { none = none })

  pub operation_law : FieldLaw 0x44 h (ClassPasses h.curve) (class_field 0x44) (λ a. with_operation a h) (λ m. m.operation)
  unfolding rules class_field
  operation_law =
      field_law 0x44 h (ClassPasses h.curve) encode_class decode_class (λ a. with_operation a h) (λ m. m.operation) (λ m. refl) (λ a. refl) (λ b. refl)
      (λ a ok. (decode_body h.curve a ok.none, ok.none, operation_lengths h (length (encode_class a)) ∙ body_allowed h.curve a ok.none))
      (λ b none fits. record { none = none })

-- ---- degree and curve, with which every record begins

module _ {tags s : List ℕ} {last : Record} where
  pub curve_more : (c : Curve) → CurvePasses c → RecordEncodes tags (with_curve c empty_record) (curve_fields_bytes c) last s → RecordEncodes (0x40 ∷ 0x41 ∷ tags) empty_record [] last s
  unfolding curve_fields_bytes curve_of_degree curve_with
  curve_more c ok rest =
      more (degree_law empty_record) c.degree (degree_passes c ok) (more (curve_law (with_curve (curve_of_degree c.degree) empty_record)) c (refl, ok) rest)

  pub first_curve : RecordEncodes (0x40 ∷ 0x41 ∷ tags) empty_record [] last s →
      (c : Curve) × CurvePasses c × RecordEncodes tags (with_curve c empty_record) (curve_fields_bytes c) last s
  unfolding curve_fields_bytes curve_of_degree curve_with
  first_curve l =
      let d = first_value (degree_law empty_record) l in
      let c = first_value (curve_law (with_curve (curve_of_degree d.0) empty_record)) d.2 in
      let rest = subst (λ (n : ℕ). RecordEncodes tags (with_curve c.0 empty_record) (degree_field n ++ curve_field c.0) last s) (sym c.1.0) c.2 in
      (c.0, c.1.1, rest)
