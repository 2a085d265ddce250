-- Fields in stored form as they are read, whether or not their values pass the checks.
-- `field_read`: a field whose length is allowed is read as its check says.
-- `class_allowed`: the body of a class that it decodes to has an allowed length.
-- `register_unread`: the fields of a register that fails a check by value are refused with that check's number.
use Prim.Native.Nat.{ℕ, zero, suc, ◌+◌, ◌*◌, ◌/◌, min}
use mathlib.Core.Path.{◌≡◌, refl, sym, ap, ◌∙◌, subst}
use mathlib.Core.Bool.{true}
use mathlib.Core.List.{List, [], ◌∷◌, ◌++◌, reverse}
use native.Mathlib.Omega.{arith}
use lib.ListN.{length, take, length-append, length-take, length-reverse}
use Rattle.jacobian.specs.{Checks.◌or_else◌, Curves.coefficients, Curves.curve_with, Curves.degree_refusal, Curves.curve_refusal, Answer.refusal, declared.Class.Class}
use Rattle.jacobian.proofs.ByValue.Checks.{first_due, next_due}
use Rattle.history.specs.{Register.register_refusal, declared.Register.Register}
use Rattle.stored_form.specs.{Number.encode_number, Reading.Reading, Reading.found, Reading.refused as unread, Reading.checked, Reading.◌then◌, Head.degree_length, Head.count_length, Head.class_length, Head.encode_field, Elements.encode_elements}
use Rattle.stored_form.specs.{Fields.degree_field, Fields.count_field, Fields.released_field, Fields.count_refusal, Fields.released_refusal, Classes.curve_field, Classes.curve_fields_bytes, Classes.decode_class, Classes.decode_row, Classes.encode_row, Classes.encode_class, Classes.class_field, Classes.decode_curve}
use Rattle.stored_form.specs.{Record.empty_record, Record.curve_of_degree, Tags.rules, Reader.read_field, Reader.read_fields, Reader.register_layout, declared.Record.Record}
use Rattle.stored_form.proofs.{Digits.length_bytes, NumberLists.length_encode_numbers, Lengths.allows_short, Readings.then_found}
use Rattle.stored_form_theorems.specs.Fields.{Field}
use Rattle.stored_form_theorems.proofs.{Bodies.body_read, Places.apart, Places.whole, ClassRoundTrips.class_length_of}
use Rattle.seal.specs.Records.{register_fields, register_record_bytes}
use Rattle.seal.proofs.Decoding.{of_bodies}

-- a field as it is read: its check, then the record with it
pub field_read : (tag : ℕ) (h : Record) (s : List ℕ) (at : ℕ) (body : List ℕ) {next : ℕ} → (rules tag).allows h (length body) ≡ true → Field s at (encode_field tag body) next
    → read_field tag h s at ≡ checked ((rules tag).check (length body) ((rules tag).with_field body h)) (found ((rules tag).with_field body h) next)
unfolding read_field
field_read tag h s at body allowed f =
    then_found _ (body_read tag h s at body allowed (omega (arith, allows_short h tag (length body) allowed)) f.stands)
    ∙ ap (λ (n : ℕ). checked ((rules tag).check (length body) ((rules tag).with_field body h)) (found ((rules tag).with_field body h) n)) (sym f.ends)

-- one check of several: refused with N, whether here or later
turn : {A B : Type 0} (n N : ℕ) (m : A) (at : ℕ) (f : A → ℕ → Reading B) → (n ≡ 0 → f m at ≡ unread N) → (¬ (n ≡ 0) → n ≡ N) → (checked n (found m at) then f) ≡ unread N
unfolding checked ◌then◌
turn zero N m at f on off = on refl
turn (suc n) N m at f on off = ap unread (off (λ e. omega arith))

-- the next of several fields: refused with N, whether it or a later one
next_fails : (tag : ℕ) (tags : List ℕ) (h : Record) (s : List ℕ) (at : ℕ) (body : List ℕ) {next N : ℕ} → (rules tag).allows h (length body) ≡ true → Field s at (encode_field tag body) next
    → ((rules tag).check (length body) ((rules tag).with_field body h) ≡ 0 → read_fields tags ((rules tag).with_field body h) s next ≡ unread N)
    → (¬ ((rules tag).check (length body) ((rules tag).with_field body h) ≡ 0) → (rules tag).check (length body) ((rules tag).with_field body h) ≡ N)
    → read_fields (tag ∷ tags) h s at ≡ unread N
unfolding read_fields
next_fails tag tags h s at body allowed f on off =
    ap (λ (x : Reading Record). x then λ m a. read_fields tags m s a) (field_read tag h s at body allowed f) ∙ turn _ _ _ _ _ on off

-- ---- the length of a class that its own body decodes to
row_three : (es : List ℕ) → length (decode_row es) ≡ 3
unfolding decode_row
row_three es = length-take 3 (reverse es ++ 0 ∷ 0 ∷ 0 ∷ []) ∙ (let e : length (reverse es ++ 0 ∷ 0 ∷ 0 ∷ []) ≡ length (reverse es) + 3 = length-append (reverse es) (0 ∷ 0 ∷ 0 ∷ []) in omega arith)

row_length : (n : ℕ) (r : List ℕ) → length r ≡ 3 → length (encode_row n r) ≡ min n 3
unfolding encode_row
row_length n r long = length-reverse (take n r) ∙ length-take n r ∙ ap (min n) long

pub class_allowed : (a : Class) → decode_class (encode_class a) ≡ a → class_length (length (encode_class a)) ≡ true
unfolding decode_class
class_allowed a e =
    let n = a.degree in
    let us = encode_row n a.u in
    let vs = encode_row n a.v in
    let u : length us ≡ min n 3 = row_length n a.u (subst (λ (x : Class). length x.u ≡ 3) e (row_three _)) in
    let v : length vs ≡ min n 3 = row_length n a.v (subst (λ (x : Class). length x.v ≡ 3) e (row_three _)) in
    let long : length (encode_class a) ≡ length (encode_elements us) + length (encode_elements vs) = length-append (encode_elements us) (encode_elements vs) in
    let d : length (encode_class a) / 16 ≡ n = ap (λ (x : Class). x.degree) e in
    let x : length (encode_elements us) ≡ 8 * length us = length_encode_numbers 8 us in
    let y : length (encode_elements vs) ≡ 8 * length vs = length_encode_numbers 8 vs in
    let all : length (encode_class a) ≡ 16 * n = omega arith in
    ap class_length all ∙ class_length_of n (omega arith)

module _ (g : Register) (same : of_bodies g ≡ g) (fails : ¬ (register_refusal (of_bodies g) ≡ 0)) (rest : List ℕ) where
  abbrev b : Register
  b = of_bodies g

  abbrev s : List ℕ
  s = register_record_bytes g ++ rest

  -- where its fields stand
  stands : (a₁ : ℕ) × (a₂ : ℕ) × (a₃ : ℕ) × (a₄ : ℕ) × (a₅ : ℕ) × Field s 0 (degree_field g.curve.degree) a₁ × Field s a₁ (curve_field g.curve) a₂
      × Field s a₂ (count_field g.count) a₃ × Field s a₃ (released_field g.released) a₄ × Field s a₄ (class_field 0x43 g.seal) a₅
  unfolding register_record_bytes curve_fields_bytes
  stands =
      let counts = count_field g.count ++ released_field g.released in
      let all = apart (register_record_bytes g) rest (whole s) in
      let halves = apart (curve_fields_bytes g.curve) (register_fields g) all.1 in
      let first = apart (degree_field g.curve.degree) (curve_field g.curve) halves.1 in
      let second = apart counts (class_field 0x43 g.seal) halves.2 in
      let third = apart (count_field g.count) (released_field g.released) second.1 in
      (first.0, halves.0, third.0, second.0, all.0, first.1, first.2, third.1, third.2, second.2)

  -- the refusal of the register, by the checks of its fields
  of_degree : ¬ (degree_refusal b.curve.degree ≡ 0) → degree_refusal b.curve.degree ≡ register_refusal b
  unfolding register_refusal curve_refusal
  of_degree nz = first_due _ (first_due _ refl nz) nz

  of_curve : ¬ (curve_refusal b.curve ≡ 0) → curve_refusal b.curve ≡ register_refusal b
  unfolding register_refusal
  of_curve nz = first_due _ refl nz

  of_count : curve_refusal b.curve ≡ 0 → ¬ (count_refusal b.count ≡ 0) → count_refusal b.count ≡ register_refusal b
  unfolding register_refusal
  of_count z nz = next_due refl z (first_due _ refl nz)

  of_released : curve_refusal b.curve ≡ 0 → count_refusal b.count ≡ 0 → ¬ (released_refusal b.count b.released ≡ 0) → released_refusal b.count b.released ≡ register_refusal b
  unfolding register_refusal
  of_released z y nz = next_due refl z (next_due refl y (first_due _ refl nz))

  of_seal : curve_refusal b.curve ≡ 0 → count_refusal b.count ≡ 0 → released_refusal b.count b.released ≡ 0 → refusal b.curve b.seal ≡ register_refusal b
  unfolding register_refusal refusal ◌or_else◌
  of_seal z y x = rw (z, y, x)

  pub register_unread : read_fields register_layout empty_record (register_record_bytes g ++ rest) 0 ≡ unread (register_refusal (of_bodies g))
  unfolding rules degree_field curve_field count_field released_field class_field curve_of_degree curve_with decode_curve coefficients
  register_unread =
      let p = stands in
      next_fails 0x40 (0x41 ∷ 0x42 ∷ 0x45 ∷ 0x43 ∷ []) empty_record s 0 (encode_number degree_length g.curve.degree) (rw (length_bytes degree_length g.curve.degree) refl) p.5
      (λ x.
      next_fails 0x41 (0x42 ∷ 0x45 ∷ 0x43 ∷ []) _ s _ (encode_elements (coefficients g.curve)) (rw (length_encode_numbers 8 (coefficients g.curve)) refl) p.6
      (λ y.
      next_fails 0x42 (0x45 ∷ 0x43 ∷ []) _ s _ (encode_number count_length g.count) (rw (length_bytes count_length g.count) refl) p.7
      (λ z.
      next_fails 0x45 (0x43 ∷ []) _ s _ (encode_number count_length g.released) (rw (length_bytes count_length g.released) refl) p.8
      (λ v.
      next_fails 0x43 [] _ s _ (encode_class g.seal) (class_allowed g.seal (ap (λ (t : Register). t.seal) same)) p.9
      (λ w. absurd (fails (sym (of_seal y z v) ∙ w)))
      (λ nz. of_seal y z v))
      (λ nz. of_released y z nz))
      (λ nz. of_count y nz))
      (λ nz. of_curve nz))
      (λ nz. of_degree nz)
