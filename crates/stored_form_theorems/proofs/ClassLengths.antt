-- The lengths of written fields, in numbers (docs/SPECIFICATION.md, 5 and 6).
-- `class_field_length`: the field of a class that no check refuses has 3, 19, 35 or 51 bytes.
-- `first_degree_length`: that of one of degree 1 has 19.
-- `counted_length`: the fields of a count, of a released step and of such a class together have 13, 29, 45 or 61.
use Prim.Native.Nat.{ℕ, ◌+◌}
use mathlib.Core.{Path.◌≡◌, Path.refl, Path.sym, Path.subst, Path.◌∙◌, List.◌++◌}
use native.Mathlib.Omega.{arith}
use lib.ListN.{length, length-append}
use Rattle.jacobian.specs.{Refusals.listed, Answer.refusal, declared.Curve.Curve, declared.Class.Class}
use Rattle.stored_form.specs.{Fields.count_field, Fields.released_field, Classes.encode_class, Classes.class_field}
use Rattle.stored_form.proofs.Lengths.{by_class_length, length_stored, length_count, length_released}
use Rattle.stored_form_theorems.specs.Numbers.{OneOf, class_field_lengths, register_field_lengths}
use Rattle.stored_form_theorems.proofs.ClassRoundTrips.{length_encoded, body_allowed}

module _ (c : Curve) (a : Class) (ok : refusal c a ≡ 0) (tag : ℕ) where
  field_long : length (class_field tag a) ≡ 3 + length (encode_class a)
  unfolding class_field
  field_long = length_stored tag (encode_class a)

  pub class_field_length : OneOf class_field_lengths (length (class_field tag a))
  unfolding listed
  class_field_length =
      subst (OneOf class_field_lengths) (sym field_long)
      (by_class_length (λ n. OneOf class_field_lengths (3 + n)) refl refl refl refl (length (encode_class a)) (body_allowed c a ok))

  pub first_degree_length : a.degree ≡ 1 → length (class_field tag a) ≡ 19
  first_degree_length e = omega (arith, field_long, length_encoded c a ok, e)

  pub counted_length : (n released : ℕ) → OneOf register_field_lengths (length (count_field n ++ released_field released ++ class_field tag a))
  unfolding listed
  counted_length n released =
      let both = count_field n ++ released_field released in
      let long : length (both ++ class_field tag a) ≡ 13 + length (encode_class a) =
      length-append both (class_field tag a) ∙ omega (arith, length-append (count_field n) (released_field released), length_count n, length_released released, field_long) in
      subst (OneOf register_field_lengths) (sym long)
      (by_class_length (λ n. OneOf register_field_lengths (13 + n)) refl refl refl refl (length (encode_class a)) (body_allowed c a ok))
