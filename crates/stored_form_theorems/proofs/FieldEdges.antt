-- Fields at the edges of what is allowed, byte by byte, at any offset of any input (docs/SPECIFICATION.md, 6.3).
-- `count_of_1024`: a count of 1,024 is read. `count_of_1025`: a count of 1,025 is refused with 109.
-- `released_of_count`: a released step that is the count is read. `released_past_count`: one more is refused with 120.
-- `f3_of_31`: over the field of degree 5 a coefficient f3 = 31 is read. `f3_of_32`: f3 = 32 is refused with 107.
-- `drawing_of_38`: a drawing number of 38 printable bytes is read. `drawing_of_39`: a length of 39 is refused with 104.
-- `space_and_tilde`: the bytes 0x20 and 0x7E are printable. `unit_separator`, `delete`: 0x1F and 0x7F are not.
use Prim.Native.Nat.{ℕ, ◌+◌, ◌*◌, ◌^◌, ◌≤◌, ◌<◌}
use mathlib.Core.{Path.◌≡◌, Path.refl, Path.sym, Path.subst, Path.◌∙◌, Bool.true, Bool.false, List.List, List.[], List.◌∷◌, List.◌++◌}
use native.Mathlib.{Nat.le_refl, Omega.arith}
use lib.{Dec.lit<, ListN.length, ListN.get_or, ListN.replicate}
use borrow.Author.Tests.{le-leb, lt-leb}
use Rattle.binary_field.specs.Answer.{below}
use Rattle.jacobian.specs.{Checks.unless, Checks.◌or_else◌, Curves.coefficients, Curves.curve_with, Curves.degree_refusal, Curves.coefficient_refusal, Curves.curve_refusal}
use Rattle.stored_form.specs.{Number.decode_numbers, Number.decode_number, Number.encode_number, Reading.found, Reading.refused, Reading.checked, Head.BytesAt, Head.body_length, Head.encode_field, Head.head_bytes}
use Rattle.stored_form.specs.{Fields.printable, Fields.drawing_refusal, Fields.count_limit, Fields.count_refusal, Fields.released_refusal, Classes.decode_curve, Record.with_curve, Record.with_count, Record.with_released, Record.with_drawing, Record.decode_drawing, Tags.rules, Reader.read_field, declared.Record.Record}
use Rattle.stored_form.proofs.{Readings.then_found, Heads.head_104, Readers.field_refused, DrawingBytes.name_decoded}
use Rattle.stored_form_theorems.proofs.Bodies.{body_read}

module _ (h : Record) (s : List ℕ) (at : ℕ) where
  -- a field whose body stands in the input: what its tag says of it
  field_at : (tag : ℕ) (body : List ℕ) → (rules tag).allows h (length body) ≡ true → length body < 256 ^ 2 → BytesAt s at (encode_field tag body) →
      let more = (rules tag).with_field body h in
      read_field tag h s at ≡ checked ((rules tag).check (length body) more) (found more (at + length (encode_field tag body)))
  unfolding read_field
  field_at tag body allowed small stands = then_found _ (body_read tag h s at body allowed small stands)

  -- ---- the count

  pub count_of_1024 : BytesAt s at (0x42 ∷ 0x00 ∷ 0x02 ∷ 0x04 ∷ 0x00 ∷ []) → read_field 0x42 h s at ≡ found (with_count 1024 h) (at + 5)
  unfolding rules encode_field head_bytes encode_number decode_number count_refusal count_limit unless checked
  count_of_1024 stands = field_at 0x42 (0x04 ∷ 0x00 ∷ []) refl (lit< tt) stands

  pub count_of_1025 : BytesAt s at (0x42 ∷ 0x00 ∷ 0x02 ∷ 0x04 ∷ 0x01 ∷ []) → read_field 0x42 h s at ≡ refused 109
  unfolding rules encode_field head_bytes encode_number decode_number count_refusal count_limit unless checked
  count_of_1025 stands = field_at 0x42 (0x04 ∷ 0x01 ∷ []) refl (lit< tt) stands

  -- ---- the released step, after a count that was read

  pub released_of_count : (high low : ℕ) → h.count ≡ high * 256 + low → BytesAt s at (0x45 ∷ 0x00 ∷ 0x02 ∷ high ∷ low ∷ []) →
      read_field 0x45 h s at ≡ found (with_released h.count h) (at + 5)
  unfolding rules encode_field head_bytes encode_number decode_number released_refusal unless checked
  released_of_count high low e stands =
      let is : high * 256 ^ 1 + (low * 256 ^ 0 + 0) ≡ h.count = omega arith in
      field_at 0x45 (high ∷ low ∷ []) refl (lit< tt) stands ∙ rw (is, le-leb h.count h.count (le_refl _)) refl

  pub released_past_count : (high low : ℕ) → high * 256 + low ≡ h.count + 1 → BytesAt s at (0x45 ∷ 0x00 ∷ 0x02 ∷ high ∷ low ∷ []) → read_field 0x45 h s at ≡ refused 120
  unfolding rules encode_field head_bytes encode_number decode_number released_refusal unless checked
  released_past_count high low e stands =
      let is : high * 256 ^ 1 + (low * 256 ^ 0 + 0) ≡ h.count + 1 = omega arith in
      field_at 0x45 (high ∷ low ∷ []) refl (lit< tt) stands ∙ rw (is, lt-leb (h.count + 1) h.count (omega arith)) refl

  -- ---- the curve, over the field of degree 5

  pub f3_of_31 : h.curve.degree ≡ 5 → BytesAt s at (0x41 ∷ 0 ∷ 24 ∷ (replicate 7 0 ++ (31 ∷ replicate 16 0))) →
      read_field 0x41 h s at ≡ found (with_curve (record { degree = 5; f3 = 31; f1 = 0; f0 = 0 }) h) (at + 27)
  unfolding rules encode_field head_bytes encode_number decode_number decode_numbers decode_curve curve_with coefficients curve_refusal degree_refusal coefficient_refusal below unless ◌or_else◌ checked
  f3_of_31 e stands = field_at 0x41 (replicate 7 0 ++ (31 ∷ replicate 16 0)) refl (lit< tt) stands ∙ rw e refl

  pub f3_of_32 : h.curve.degree ≡ 5 → BytesAt s at (0x41 ∷ 0 ∷ 24 ∷ (replicate 7 0 ++ (32 ∷ replicate 16 0))) → read_field 0x41 h s at ≡ refused 107
  unfolding rules encode_field head_bytes encode_number decode_number decode_numbers decode_curve curve_with coefficients curve_refusal degree_refusal coefficient_refusal below unless ◌or_else◌ checked
  f3_of_32 e stands = field_at 0x41 (replicate 7 0 ++ (32 ∷ replicate 16 0)) refl (lit< tt) stands ∙ rw e refl

  -- ---- the drawing number

  pub drawing_of_38 : (name : List ℕ) → length name ≡ 38 → printable name ≡ true → BytesAt s at (0x46 ∷ 0 ∷ 38 ∷ name) → read_field 0x46 h s at ≡ found (with_drawing (decode_drawing name) h) (at + 41)
  unfolding rules encode_field head_bytes encode_number drawing_refusal unless checked
  drawing_of_38 name long ok stands =
      let field : encode_field 0x46 name ≡ 0x46 ∷ 0 ∷ 38 ∷ name = rw long refl in
      field_at 0x46 name (rw long refl) (omega arith) (subst (BytesAt s at) (sym field) stands) ∙ rw (name_decoded name, ok, long) refl

  pub drawing_of_39 : at + 3 ≤ length s → get_or s at 0 ≡ 0x46 → body_length s at ≡ 39 → read_field 0x46 h s at ≡ refused 104
  unfolding rules
  drawing_of_39 fits expected long = field_refused 0x46 h s at (head_104 0x46 ((rules 0x46).allows h) s at (sym long) fits expected refl)

pub space_and_tilde : printable (0x20 ∷ 0x7E ∷ []) ≡ true
unfolding printable
space_and_tilde = refl

pub unit_separator : printable (0x1F ∷ []) ≡ false
unfolding printable
unit_separator = refl

pub delete : printable (0x7F ∷ []) ≡ false
unfolding printable
delete = refl
