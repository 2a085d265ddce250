-- Readers of fields: a field that was found, the code's answer, and fields in order.
-- `field_found`: the body of a field that was found and the record with it; its check passes.
-- `field_within`: a field that was found lies within the input.
-- `field_stops`, `body_inside`, `body_allowed`, `check_stops_field`, `field_passes`: a field as the code reads it.
-- `with_field_operation`: an operation that was read changes nothing else of the record.
-- `fields_stop`, `fields_go_on`, `fields_ended`: reading the fields from the i-th on.
-- `fields_append`: fields that follow others are read after them.
-- `record_stops`, `end_stops`, `record_ends`: a record as the code reads it; `read_refusal`: its refusal.
use Prim.Native.Nat.{ℕ, suc, ◌+◌, ◌-◌, ◌≤◌, ◌<◌}
use mathlib.Core.Path.{◌≡◌, refl, sym, ap, ◌∙◌}
use mathlib.Core.Bool.{true}
use mathlib.Core.List.{List, [], ◌∷◌, ◌++◌}
use native.Mathlib.Omega.{arith}
use lib.ListN.{length, get_or, take, drop, drop_of_length-le}
use lib.Seq.{drop-cons}
use Rattle.stored_form.specs.{Number.part, Reading.Reading, Reading.found, Reading.refused, Reading.checked, Reading.◌then◌, Reading.reading_refusal}
use Rattle.stored_form.specs.{Fields.end_refusal, Fields.ended, Record.empty_record, Record.with_operation, Tags.rules}
use Rattle.stored_form.specs.Reader.{read_head, read_body, read_field, read_fields, read_record, reading_of}
use Rattle.stored_form.specs.declared.{Record.Record, Read.Read}
use Rattle.std.specs.Prelude.{Result, Ok, Err}
use Rattle.refusals.specs.{Refusals.number, Refusals.refusal_of, declared.Refusal.Refusal}
use Rattle.stored_form.proofs.Readings.{check_stops, check_passes, stops, reads_on, then_found, then_refused, then_same, then_assoc, both_found, checked_found, same_found}
use Rattle.stored_form.proofs.{Heads.head_found, Parts.length_part}

-- ---- one field

module _ (tag : ℕ) (h : Record) (s : List ℕ) (at : ℕ) where
  pub field_refused : {k : ℕ} → read_head tag h s at ≡ refused k → read_field tag h s at ≡ refused k
  unfolding read_field read_body
  field_refused e = then_refused _ (then_refused _ e)

  -- a field that was found: its body, the record with it, and that its check passes
  pub record FieldFound (more : Record) (next : ℕ) : Type 0 where
    pub body : List ℕ
    pub body_read : read_body tag h s at ≡ found body next
    pub values : more ≡ (rules tag).with_field body h
    pub passes : (rules tag).check (length body) more ≡ 0

  pub field_found : {more : Record} {next : ℕ} → read_field tag h s at ≡ found more next → FieldFound more next
  unfolding read_field
  field_found {more} {next} e =
      let p = both_found _ (read_body tag h s at) e in
      let c = checked_found ((rules tag).check (length p.0) ((rules tag).with_field p.0 h)) _ p.3 in
      let same = same_found c.1 in
      record {
        body = p.0;
        body_read = p.2 ∙ ap (found p.0) same.1;
        values = sym same.0;
        passes = ap ((rules tag).check (length p.0)) (sym same.0) ∙ c.0;
      }

  pub field_within : {more : Record} {next : ℕ} → read_field tag h s at ≡ found more next → (at + 3 ≤ next) × (next ≤ length s)
  unfolding read_body
  field_within e =
      let q = both_found _ (read_head tag h s at) (field_found e).body_read in
      let w = head_found tag ((rules tag).allows h) s at q.2 in
      let m = (same_found q.3).1 in
      omega (arith, w.ends, w.fits, m)

  pub field_stops : {k : ℕ} → refused k ≡ read_head tag h s at → refused k ≡ read_field tag h s at
  field_stops e = sym (field_refused (sym e))

  module _ {n next : ℕ} (e : read_head tag h s at ≡ found n next) where
    pub field_asks : ((rules tag).allows h n ≡ true) × (at + 3 + n ≤ length s)
    field_asks = let w = head_found tag ((rules tag).allows h) s at e in (w.allows, omega arith)

    length_body : length (part s (at + 3) n) ≡ n
    length_body = length_part s (at + 3) n field_asks.1

    pub field_read : {more : Record} → more ≡ (rules tag).with_field (part s (at + 3) n) h → {k : ℕ} → k ≡ (rules tag).check n more → checked k (found more next) ≡ read_field tag h s at
    unfolding read_field read_body
    field_read {more} f g =
        ap (λ (j : ℕ). checked j (found more next)) (g ∙ ap (λ (l : ℕ). (rules tag).check l more) (sym length_body))
        ∙ ap (λ (m : Record). checked ((rules tag).check (length (part s (at + 3) n)) m) (found m next)) f
        ∙ sym (then_found _ (then_found _ e))

  -- the body as the code takes it: the last n bytes before the offset after it
  module _ {n next : ℕ} (e : found n next ≡ read_head tag h s at) where
    abbrev taken : List ℕ
    taken = take (next - (next - n)) (drop (next - n) s)

    pub body_inside : (n ≤ next) × (next ≤ length s)
    body_inside = let w = head_found tag ((rules tag).allows h) s at (sym e) in omega (arith, w.ends, w.fits)

    body_taken : taken ≡ part s (at + 3) n
    body_taken =
        let w = head_found tag ((rules tag).allows h) s at (sym e) in
        let first : next - n ≡ at + 3 = omega (arith, w.ends) in
        let long : next - (at + 3) ≡ n = omega (arith, w.ends) in
        rw (first, long)

    pub body_allowed : (rules tag).allows h (length taken) ≡ true
    body_allowed = ap (λ (b : List ℕ). (rules tag).allows h (length b)) body_taken ∙ ap ((rules tag).allows h) (length_body (sym e)) ∙ (field_asks (sym e)).0

    module _ {more : Record} (f : more ≡ (rules tag).with_field taken h) where
      pub check_stops_field : (r : Refusal) → number r ≡ (rules tag).check n more → refused (number r) ≡ read_field tag h s at
      check_stops_field r g = check_stops r (found more next) refl ∙ field_read (sym e) (f ∙ ap (λ (b : List ℕ). (rules tag).with_field b h) body_taken) g

      pub field_passes : 0 ≡ (rules tag).check n more → found more next ≡ read_field tag h s at
      field_passes g = check_passes refl refl ∙ field_read (sym e) (f ∙ ap (λ (b : List ℕ). (rules tag).with_field b h) body_taken) g

pub with_field_operation : (h : Record) (s : List ℕ) (at : ℕ) {more : Record} {next : ℕ} → read_field 0x44 h s at ≡ found more next → more ≡ with_operation more.operation h
unfolding rules
with_field_operation h s at e =
    let is = (field_found 0x44 h s at e).values in
    is ∙ ap (λ (m : Record). with_operation m.operation h) (sym is)

-- ---- fields in order, from the i-th on

module _ (tags s : List ℕ) (h : Record) (at i : ℕ) where
  next_field : i < length tags → read_fields (drop i tags) h s at ≡ (read_field (get_or tags i 0) h s at then λ more next. read_fields (drop (i + 1) tags) more s next)
  unfolding read_fields
  next_field lt =
      let e : suc i ≡ i + 1 = omega arith in
      ap (λ (l : List ℕ). read_fields l h s at) (drop-cons tags i 0 lt ∙ ap (λ (j : ℕ). get_or tags i 0 ∷ drop j tags) e)

  pub fields_stop : {k : ℕ} → i < length tags → refused k ≡ read_field (get_or tags i 0) h s at → refused k ≡ read_fields (drop i tags) h s at
  fields_stop lt e = sym (next_field lt ∙ then_refused _ (sym e))

  pub fields_go_on : {more : Record} {next : ℕ} → i < length tags → found more next ≡ read_field (get_or tags i 0) h s at →
      read_fields (drop i tags) h s at ≡ read_fields (drop (i + 1) tags) more s next
  fields_go_on lt e = next_field lt ∙ then_found _ (sym e)

  pub fields_ended : length tags ≤ i → read_fields (drop i tags) h s at ≡ found h at
  unfolding read_fields
  fields_ended le = ap (λ (l : List ℕ). read_fields l h s at) (drop_of_length-le tags le)

pub fields_append : (xs ys : List ℕ) (h : Record) (s : List ℕ) (at : ℕ) → read_fields (xs ++ ys) h s at ≡ (read_fields xs h s at then λ more next. read_fields ys more s next)
unfolding read_fields ◌then◌
fields_append [] ys h s at = refl
fields_append (tag ∷ xs) ys h s at =
    then_same _ (read_field tag h s at) (λ more next. fields_append xs ys more s next) ∙ sym (then_assoc (read_field tag h s at) _ _)

-- ---- a record

module _ (tags s : List ℕ) where
  pub record_stops : {k : ℕ} → refused k ≡ read_fields tags empty_record s 0 → refused k ≡ read_record tags s
  unfolding read_record
  record_stops e = stops _ e

  module _ {h : Record} {next : ℕ} (e : found h next ≡ read_fields tags empty_record s 0) where
    pub end_stops : (r : Refusal) → number r ≡ end_refusal s next → refused (number r) ≡ read_record tags s
    unfolding read_record ended
    end_stops r g = reads_on _ e (check_stops r _ g)

    pub record_ends : 0 ≡ end_refusal s next → found h next ≡ read_record tags s
    unfolding read_record ended
    record_ends g = reads_on _ e (check_passes g refl)

-- the refusal that the code answers is that of the reading
pub read_refusal : (r : Result Read Refusal) {x : Reading Record} → reading_of r ≡ x → refusal_of r ≡ reading_refusal x
read_refusal (Ok r) e = ap reading_refusal e
read_refusal (Err r) e = ap reading_refusal e
