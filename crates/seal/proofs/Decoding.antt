-- What kept fields decode to, and what they encode.
-- `body_of`: the body of a field is what follows its head.
-- `seal_at`: the third field of a register is its seal's. `seal_stored`: so it is in what is kept in stored form.
-- `kept_decoded`: the stored form of any register decodes to what its bodies decode to.
-- `decode_stored`: the stored form of a register that no check refuses decodes to that register.
-- `in_stored_form`: so it is in stored form.
-- `class_decoded`: the field of a class that no check refuses decodes to the class.
use Prim.Native.Nat.{ℕ}
use mathlib.Core.Path.{◌≡◌, refl, sym, ap, ◌∙◌, subst}
use mathlib.Core.List.{List, ◌++◌, append_assoc}
use native.Mathlib.{Nat.zero-add, Omega.arith}
use lib.ListN.{length, drop}
use Rattle.jacobian.specs.{Curves.coefficients, Curves.curve_with, declared.Curve.Curve, declared.Class.Class}
use Rattle.jacobian.proofs.Representation.{accepts_both}
use Rattle.history.specs.{Register.register_refusal, declared.Register.Register}
use Rattle.history.proofs.Registers.{register_passes}
use Rattle.stored_form.specs.{Number.decode_number, Number.encode_number, Head.degree_length, Head.count_length, Head.head_bytes, Head.encode_field, Elements.encode_elements}
use Rattle.stored_form.specs.{Fields.degree_field, Fields.count_field, Fields.released_field, Fields.count_limit, Classes.decode_curve, Classes.curve_field, Classes.curve_fields_bytes, Classes.decode_class, Classes.encode_class, Classes.class_field}
use Rattle.stored_form.specs.{Cuts.take_fields, Cuts.drop_fields, Passing.CurvePasses, Passing.CountPasses, Passing.ClassPasses, Record.curve_of_degree, Record.with_curve, Record.empty_record, Tags.rules, declared.Record.Record}
use Rattle.stored_form.proofs.Digits.{length_bytes}
use Rattle.stored_form_theorems.proofs.{Numbers.number_bytes_small, Places.apart, Places.whole, Cuts.FieldsAt, Cuts.none, Cuts.field, ClassRoundTrips.decode_body, Cuts.take_cut, Cuts.drop_cut, Cuts.degree_cut, Cuts.count_cut, Cuts.released_cut, FieldValues.curve_law, FieldValues.degree_law, FieldValues.degree_passes}
use Rattle.seal.specs.{Records.register_fields, Steps.Kept, Steps.kept, Steps.field_class, Steps.decode_kept, Steps.Stored, Steps.InStoredForm, Steps.seal_field}

pub body_of : (tag : ℕ) (body : List ℕ) → drop 3 (encode_field tag body) ≡ body
unfolding encode_field head_bytes encode_number
body_of tag body = refl

-- ---- any register

module _ (g : Register) where
  abbrev degree_body : List ℕ
  degree_body = encode_number degree_length g.curve.degree

  abbrev curve_body : List ℕ
  curve_body = encode_elements (coefficients g.curve)

  first_body : drop 3 (take_fields 1 (curve_fields_bytes g.curve)) ≡ degree_body
  unfolding curve_fields_bytes degree_field
  first_body = ap (drop 3) (take_cut 1 (degree_field g.curve.degree) (curve_field g.curve) (degree_cut (curve_field g.curve) g.curve.degree)) ∙ body_of 0x40 degree_body

  second_body : drop 3 (drop_fields 1 (curve_fields_bytes g.curve)) ≡ curve_body
  unfolding curve_fields_bytes curve_field
  second_body = ap (drop 3) (drop_cut 1 (degree_field g.curve.degree) (curve_field g.curve) (degree_cut (curve_field g.curve) g.curve.degree)) ∙ body_of 0x41 curve_body

  -- the fields after its count
  rest_at : drop_fields 1 (register_fields g) ≡ released_field g.released ++ class_field 0x43 g.seal
  rest_at = ap (drop_fields 1) (append_assoc (count_field g.count) (released_field g.released) (class_field 0x43 g.seal)) ∙ drop_cut 1 (count_field g.count) _ (count_cut _ g.count)

  count_body : drop 3 (take_fields 1 (register_fields g)) ≡ encode_number count_length g.count
  unfolding count_field
  count_body =
      ap (λ (l : List ℕ). drop 3 (take_fields 1 l)) (append_assoc (count_field g.count) (released_field g.released) (class_field 0x43 g.seal))
      ∙ ap (drop 3) (take_cut 1 (count_field g.count) _ (count_cut _ g.count))
      ∙ body_of 0x42 (encode_number count_length g.count)

  released_body : drop 3 (take_fields 1 (drop_fields 1 (register_fields g))) ≡ encode_number count_length g.released
  unfolding released_field
  released_body =
      ap (λ (l : List ℕ). drop 3 (take_fields 1 l)) rest_at
      ∙ ap (drop 3) (take_cut 1 (released_field g.released) _ (released_cut _ g.released))
      ∙ body_of 0x45 (encode_number count_length g.released)

  -- the fields of its count and its released step, with which its fields begin
  counts_cut : FieldsAt (register_fields g) 2 0 (length (count_field g.count ++ released_field g.released))
  unfolding count_field released_field
  counts_cut =
      let counts = count_field g.count ++ released_field g.released in
      let all = apart counts (class_field 0x43 g.seal) (whole (register_fields g)) in
      let f = apart (count_field g.count) (released_field g.released) all.1 in
      subst (FieldsAt (register_fields g) 2 0) (all.1.ends ∙ zero-add (length counts))
      (field 0x42 (encode_number count_length g.count) (omega (arith, length_bytes count_length g.count)) f.1
      (field 0x45 (encode_number count_length g.released) (omega (arith, length_bytes count_length g.released)) f.2 none))

  pub seal_at : drop_fields 2 (register_fields g) ≡ class_field 0x43 g.seal
  seal_at = drop_cut 2 (count_field g.count ++ released_field g.released) (class_field 0x43 g.seal) counts_cut

  seal_body : drop 3 (drop_fields 2 (register_fields g)) ≡ encode_class g.seal
  unfolding class_field
  seal_body = ap (drop 3) seal_at ∙ body_of 0x43 (encode_class g.seal)

  -- what the bodies of its fields decode to
  abbrev pub of_bodies : Register
  of_bodies = record {
    curve = decode_curve (decode_number (encode_number degree_length g.curve.degree)) (encode_elements (coefficients g.curve));
    count = decode_number (encode_number count_length g.count);
    seal = decode_class (encode_class g.seal);
    released = decode_number (encode_number count_length g.released);
  }

  pub kept_decoded : decode_kept (kept g) ≡ of_bodies
  unfolding decode_kept kept field_class
  kept_decoded = rw (first_body, second_body, count_body, released_body, seal_body) refl

-- ---- values that pass

degree_decoded : (c : Curve) → CurvePasses c → decode_number (encode_number degree_length c.degree) ≡ c.degree
unfolding rules curve_of_degree curve_with
degree_decoded c ok = sym (ap (λ (m : Record). m.curve.degree) ((degree_law empty_record).says c.degree (degree_passes c ok)).kept)

curve_decoded : (c : Curve) → CurvePasses c → decode_curve c.degree (encode_elements (coefficients c)) ≡ c
unfolding rules curve_of_degree curve_with
curve_decoded c ok = sym (ap (λ (m : Record). m.curve) ((curve_law (with_curve (curve_of_degree c.degree) empty_record)).says c (refl, ok)).kept)

count_decoded : (n : ℕ) → CountPasses n → decode_number (encode_number count_length n) ≡ n
unfolding count_limit
count_decoded n h = number_bytes_small count_length n (omega arith)

pub class_decoded : (tag : ℕ) {c : Curve} {a : Class} → ClassPasses c a → field_class (class_field tag a) ≡ a
unfolding field_class class_field
class_decoded tag {c} {a} p = ap decode_class (body_of tag (encode_class a)) ∙ decode_body c a p.none

module _ (g : Register) (ok : register_refusal g ≡ 0) where
  pub decode_stored : decode_kept (kept g) ≡ g
  decode_stored =
      let p = register_passes g ok in
      let few = p.count_passes in
      let behind = p.released_passes in
      kept_decoded g
      ∙ rw (
        degree_decoded g.curve p.curve_passes,
        curve_decoded g.curve p.curve_passes,
        count_decoded g.count few,
        count_decoded g.released (omega arith),
        decode_body g.curve g.seal (accepts_both g.curve g.seal p.curve_passes p.seal_passes).none,
      ) refl

  pub in_stored_form : InStoredForm (kept g)
  in_stored_form = record { stored = ap kept decode_stored; passes = ap register_refusal decode_stored ∙ ok }

pub seal_stored : (k : Kept) → Stored k → seal_field k ≡ class_field 0x43 (decode_kept k).seal
unfolding kept
seal_stored k stored = ap (λ (t : Kept). seal_field t) (sym stored) ∙ seal_at (decode_kept k)
