-- A field's bytes and the record that it leads to determine each other, for every tag.
-- `field_written`: a field that was read is the encoding of the record that it led to.
-- `field_read_back`: the encoded field of such a record is read back.
use Prim.Native.Nat.{ℕ, ◌+◌}
use mathlib.Core.Path.{◌≡◌, sym, ap, ◌∙◌, subst}
use mathlib.Core.Bool.{true}
use mathlib.Core.List.{List}
use native.Mathlib.Omega.{arith}
use lib.ListN.{length}
use Rattle.jacobian.specs.Curves.{coefficient_count, coefficients, curve_with}
use Rattle.stored_form.specs.{Number.decode_numbers, Number.decode_number, Number.encode_number, Number.Bytes, Reading.found, Reading.checked, Classes.decode_curve, declared.Record.Record}
use Rattle.stored_form.specs.{Head.degree_length, Head.count_length, Head.encode_field, Head.BytesAt, Record.curve_of_degree, Tags.rules, Tags.field_bytes, Reader.read_field}
use Rattle.stored_form.proofs.{Lengths.is_degree_length, Lengths.is_curve_length, Lengths.is_count_length, Lengths.is_released_length, Lengths.class_lengths, Lengths.operation_lengths, Lengths.by_tag, Lengths.allows_short}
use Rattle.stored_form.proofs.{DrawingBytes.name_decoded, Readings.then_found, Readings.checked_none, Readers.field_found}
use Rattle.stored_form_theorems.specs.Fields.{Field, FieldEncodes}
use Rattle.stored_form_theorems.proofs.{Numbers.bytes_number, Elements.bytes_numbers, ClassRoundTrips.encode_decode_class, Bodies.body_written, Bodies.body_read}

-- a number encoded in as many bytes as it was decoded from
number_body : (k : ℕ) (body : List ℕ) → length body ≡ k → Bytes body → encode_number k (decode_number body) ≡ body
number_body k body len b = ap (λ (j : ℕ). encode_number j (decode_number body)) (sym len) ∙ bytes_number body b

-- a body that was decoded is encoded as the same body
encode_with_field : (tag : ℕ) (body : List ℕ) (h : Record) → (rules tag).allows h (length body) ≡ true → Bytes body → (rules tag).body ((rules tag).with_field body h) ≡ body
unfolding rules curve_of_degree curve_with decode_curve coefficients decode_numbers
encode_with_field tag body h a b =
    by_tag h (λ t. (rules t).allows h (length body) ≡ true → (rules t).body ((rules t).with_field body h) ≡ body)
    (λ e. number_body degree_length body (is_degree_length h e) b)
    (λ e. bytes_numbers 8 coefficient_count body (is_curve_length h e) b)
    (λ e. name_decoded body)
    (λ e. number_body count_length body (is_count_length h e) b)
    (λ e. number_body count_length body (is_released_length h e) b)
    (λ e. encode_decode_class body (sym (class_lengths h (length body)) ∙ e) b)
    (λ e. encode_decode_class body (sym (operation_lengths h (length body)) ∙ e) b)
    tag (length body) a a

module _ (tag : ℕ) (h : Record) (s : List ℕ) (at : ℕ) {m : Record} where
  pub field_written : {next : ℕ} → Bytes s → read_field tag h s at ≡ found m next → FieldEncodes tag h m × Field s at (field_bytes tag m) next
  unfolding field_bytes
  field_written {next} b e =
      let f = field_found tag h s at e in
      let w = body_written tag h s at b f.body_read in
      let is : f.body ≡ (rules tag).body m = sym (encode_with_field tag f.body h w.allows w.bytes) ∙ ap (rules tag).body (sym f.values) in (
        record {
          kept = f.values ∙ ap (λ (x : List ℕ). (rules tag).with_field x h) is;
          passes = ap (λ (x : List ℕ). (rules tag).check (length x) m) (sym is) ∙ f.passes;
          fits = ap (λ (x : List ℕ). (rules tag).allows h (length x)) (sym is) ∙ w.allows;
        },
        subst (λ (x : List ℕ). Field s at (encode_field tag x) next) is w.field,
      )

  pub field_read_back : FieldEncodes tag h m → BytesAt s at (field_bytes tag m) → read_field tag h s at ≡ found m (at + length (field_bytes tag m))
  unfolding read_field field_bytes
  field_read_back says stands =
      let body = (rules tag).body m in
      then_found _ (body_read tag h s at body says.fits (omega (arith, allows_short h tag (length body) says.fits)) stands)
      ∙ ap (λ (k : Record). checked ((rules tag).check (length body) k) (found k (at + length (encode_field tag body)))) (sym says.kept)
      ∙ checked_none _ _ says.passes
