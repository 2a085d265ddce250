-- What the law of a tag (`FieldLaw`) gives for the first field of a record, and for a field alone.
-- `field_law`: the law of a tag, from how its body is encoded and decoded.
-- `more`: the field of a valid value can be put first. `first_value`: the first field is that of a valid value.
-- `no_more`: without a field the record and the bytes are unchanged.
-- `value_written`: a field that was read has a valid value and is its encoding.
-- `value_read_back`: the encoded field of a valid value is read back.
use Prim.Native.Nat.{ℕ, ◌+◌}
use mathlib.Core.Path.{◌≡◌, refl, sym, ap, ◌∙◌, subst, subst₂}
use mathlib.Core.Bool.{true}
use mathlib.Core.List.{List, [], ◌∷◌, ◌++◌}
use lib.ListN.{length}
use Rattle.stored_form.specs.{Number.Bytes, Reading.found, Head.encode_field, Head.BytesAt, Tags.rules, Tags.field_bytes, Reader.read_field, declared.Record.Record}
use Rattle.stored_form_theorems.specs.{Fields.Field, Fields.FieldLaw, Records.RecordEncodes, Records.field, Records.none}
use Rattle.stored_form_theorems.proofs.FieldRoundTrips.{field_written, field_read_back}

-- Builds a FieldLaw from encode, decode, decode after encode on valid values, and that decoded values are valid.
module _ {A : Type 0} (tag : ℕ) (h : Record) (Ok : A → Type 0) (body : A → List ℕ) (said : List ℕ → A) (with : A → Record) (value : Record → A) where
  pub field_law : ((m : Record) → (rules tag).body m ≡ body (value m)) → ((a : A) → value (with a) ≡ a) → ((b : List ℕ) → (rules tag).with_field b h ≡ with (said b)) →
      ((a : A) → Ok a → (said (body a) ≡ a) × ((rules tag).check (length (body a)) (with a) ≡ 0) × ((rules tag).allows h (length (body a)) ≡ true)) →
      ((b : List ℕ) → (rules tag).check (length b) (with (said b)) ≡ 0 → (rules tag).allows h (length b) ≡ true → Ok (said b)) →
      FieldLaw tag h Ok (λ a. encode_field tag (body a)) with value
  unfolding field_bytes
  field_law has back holds passes ok =
      record {
        valued = back;
        written = λ m. ap (encode_field tag) (has m);
        says = λ a k.
            let p = passes a k in
            let is : (rules tag).body (with a) ≡ body a = has (with a) ∙ ap body (back a) in
            record {
              kept = sym (ap (λ (b : List ℕ). (rules tag).with_field b h) is ∙ holds (body a) ∙ ap with p.0);
              passes = ap (λ (b : List ℕ). (rules tag).check (length b) (with a)) is ∙ p.1;
              fits = ap (λ (b : List ℕ). (rules tag).allows h (length b)) is ∙ p.2;
            };
        said = λ {m} says.
            let b = (rules tag).body m in
            let is : m ≡ with (said b) = says.kept ∙ holds b in
            let v : value m ≡ said b = ap value is ∙ back (said b) in
            (subst Ok (sym v) (ok b (ap ((rules tag).check (length b)) (sym is) ∙ says.passes) says.fits), is ∙ ap with (sym v));
      }

module _ {A : Type 0} {tag : ℕ} {h : Record} {Ok : A → Type 0} {bytes : A → List ℕ} {with : A → Record} {value : Record → A} (law : FieldLaw tag h Ok bytes with value) where
  its_bytes : (a : A) → field_bytes tag (with a) ≡ bytes a
  its_bytes a = law.written (with a) ∙ ap bytes (law.valued a)

  -- ---- the first field of several

  module _ {tags before s : List ℕ} {last : Record} where
    pub more : (a : A) → Ok a → RecordEncodes tags (with a) (before ++ bytes a) last s → RecordEncodes (tag ∷ tags) h before last s
    more a ok rest = field (law.says a ok) (subst (λ (x : List ℕ). RecordEncodes tags (with a) (before ++ x) last s) (sym (its_bytes a)) rest)

    pub first_value : RecordEncodes (tag ∷ tags) h before last s → (a : A) × Ok a × RecordEncodes tags (with a) (before ++ bytes a) last s
    first_value (field {m = m} says rest) =
        let p = law.said says in
        (value m, p.0, subst₂ (λ (k : Record) (x : List ℕ). RecordEncodes tags k (before ++ x) last s) p.1 (law.written m) rest)

  -- ---- a field alone

  module _ (s : List ℕ) (at : ℕ) where
    pub value_written : {m : Record} {next : ℕ} → Bytes s → read_field tag h s at ≡ found m next → Ok (value m) × (m ≡ with (value m)) × Field s at (bytes (value m)) next
    value_written {m} {next} b e =
        let w = field_written tag h s at b e in
        let p = law.said w.0 in
        (p.0, p.1, subst (λ (y : List ℕ). Field s at y next) (law.written m) w.1)

    pub value_read_back : {a : A} → Ok a → BytesAt s at (bytes a) → read_field tag h s at ≡ found (with a) (at + length (bytes a))
    value_read_back {a} ok stands =
        field_read_back tag h s at (law.says a ok) (subst (BytesAt s at) (sym (its_bytes a)) stands)
        ∙ ap (λ (y : List ℕ). found (with a) (at + length y)) (its_bytes a)

pub no_more : {h last : Record} {before s : List ℕ} → RecordEncodes [] h before last s → (last ≡ h) × (s ≡ before)
no_more none = (refl, refl)
