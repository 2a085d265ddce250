-- Bytes that begin with k encoded fields, cut after them.
-- `take_cut`, `drop_cut`: the cut gives these fields, and the rest.
-- `curve_cut`: bytes that begin with the fields of degree and curve.
-- `degree_cut`, `count_cut`, `released_cut`: those that begin with a degree, with a count, with a released step.
-- `cut_whole`: the two parts of a cut make the whole.
use Prim.Native.Nat.{ℕ, suc, ◌+◌, ◌^◌, ◌≤◌, ◌<◌}
use mathlib.Core.Path.{◌≡◌, refl, sym, ap, ◌∙◌, subst}
use mathlib.Core.List.{List, ◌++◌}
use native.Mathlib.{Nat.zero-add, Omega.arith}
use lib.{Dec.lit≤, ListN.length, ListN.take-append-drop, Seq.take_at, Seq.drop_at}
use Rattle.jacobian.specs.{Curves.coefficients, declared.Curve.Curve}
use Rattle.stored_form.specs.{Number.encode_number, Head.degree_length, Head.count_length, Head.body_length, Head.encode_field, Elements.encode_elements, Fields.degree_field, Fields.count_field, Fields.released_field}
use Rattle.stored_form.specs.{Classes.curve_field, Classes.curve_fields_bytes, Cuts.fields_end, Cuts.take_fields, Cuts.drop_fields}
use Rattle.stored_form.proofs.{Digits.length_bytes, NumberLists.length_encode_numbers, Lengths.length_stored}
use Rattle.stored_form_theorems.specs.Fields.{Field}
use Rattle.stored_form_theorems.proofs.{Bodies.stored_length, Places.apart, Places.whole}

-- k encoded fields, from an offset to the next
pub data FieldsAt (s : List ℕ) : ℕ → ℕ → ℕ → Type 0 where
  none : {at : ℕ} → FieldsAt s 0 at at
  field : {k at middle next : ℕ} (tag : ℕ) (body : List ℕ) → length body < 256 ^ 2 → Field s at (encode_field tag body) middle → FieldsAt s k middle next → FieldsAt s (suc k) at next

pub fields_at_end : {s : List ℕ} {k at next : ℕ} → FieldsAt s k at next → fields_end k s at ≡ next
unfolding fields_end
fields_at_end none = refl
fields_at_end {s} {at = at} (field {k} {middle = middle} tag body small f rest) =
    let n : body_length s at ≡ length body = stored_length tag s at body small f.stands in
    let ends : at + 3 + body_length s at ≡ middle = omega (arith, n, f.ends, length_stored tag body) in
    ap (fields_end k s) ends ∙ fields_at_end rest

-- ---- bytes that begin with such fields

module _ (k : ℕ) (xs rest : List ℕ) (f : FieldsAt (xs ++ rest) k 0 (length xs)) where
  pub take_cut : take_fields k (xs ++ rest) ≡ xs
  take_cut = take_at xs rest (fields_end k (xs ++ rest) 0) (sym (fields_at_end f))

  pub drop_cut : drop_fields k (xs ++ rest) ≡ rest
  drop_cut = drop_at xs rest (fields_end k (xs ++ rest) 0) (sym (fields_at_end f))

pub cut_whole : (k : ℕ) (s : List ℕ) → take_fields k s ++ drop_fields k s ≡ s
cut_whole k s = take-append-drop (fields_end k s 0) s

module _ (rest : List ℕ) where
  -- bytes at the start of the input
  front : (xs : List ℕ) → Field (xs ++ rest) 0 xs (length xs)
  front xs = let f = apart xs rest (whole (xs ++ rest)) in subst (Field (xs ++ rest) 0 xs) (f.1.ends ∙ zero-add (length xs)) f.1

  -- the field of a number in up to two bytes
  number_cut : (tag k n : ℕ) → k ≤ 2 → FieldsAt (encode_field tag (encode_number k n) ++ rest) 1 0 (length (encode_field tag (encode_number k n)))
  number_cut tag k n short = field tag (encode_number k n) (omega (arith, length_bytes k n)) (front (encode_field tag (encode_number k n))) none

  pub degree_cut : (d : ℕ) → FieldsAt (degree_field d ++ rest) 1 0 (length (degree_field d))
  unfolding degree_field
  degree_cut d = number_cut 0x40 degree_length d (lit≤ tt)

  pub count_cut : (n : ℕ) → FieldsAt (count_field n ++ rest) 1 0 (length (count_field n))
  unfolding count_field
  count_cut n = number_cut 0x42 count_length n (lit≤ tt)

  pub released_cut : (n : ℕ) → FieldsAt (released_field n ++ rest) 1 0 (length (released_field n))
  unfolding released_field
  released_cut n = number_cut 0x45 count_length n (lit≤ tt)

  pub curve_cut : (c : Curve) → FieldsAt (curve_fields_bytes c ++ rest) 2 0 (length (curve_fields_bytes c))
  unfolding curve_fields_bytes degree_field curve_field coefficients
  curve_cut c =
      let f = apart (degree_field c.degree) (curve_field c) (front (curve_fields_bytes c)) in
      field 0x40 (encode_number degree_length c.degree) (omega (arith, length_bytes degree_length c.degree)) f.1
      (field 0x41 (encode_elements (coefficients c)) (omega (arith, length_encode_numbers 8 (coefficients c))) f.2 none)
