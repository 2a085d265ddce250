-- Each refusal of a record's bytes, under its condition and in its order (docs/SPECIFICATION.md, 5 and 6).
-- `length_decides`: the lengths that a tag allows are those of the table, in numbers.
-- `head_reads`: a head is read by its checks.
-- `record_checked`: the refusal of a record is that of its fields' checks, field by field, then 112.
-- `record_found`: where every check holds, the record that is read is what its bytes say.
use Prim.Native.Nat.{ℕ, ◌+◌, ◌≤◌, ◌<◌, ◌/◌, ◌^◌}
use mathlib.Core.{Path.◌≡◌, Path.refl, Path.sym, Path.ap, Path.subst, Path.◌∙◌, Bool.Bool, Bool.true, Bool.false, Bool.cond, Bool.not, Bool.◌&&◌, Bool.true≢false, List.List, List.[], List.◌∷◌, Logic.◌↔◌, Logic.◌⊎◌, Logic.inl, Logic.inr}
use native.Mathlib.Omega.{arith}
use lib.{Dec.eqb, Dec.ltb, Dec.leb, Pow.pow_pos, ListN.length, ListN.get_or, ListN.take, ListN.drop, ListN.length-take, ListN.length-drop}
use borrow.Author.Tests.{ltb-true, ltb-false, le-ltb, leb-true, le-leb, eqb-true, eq-eqb, not-false}
use Rattle.lists.specs.Lists.{none, more}
use Rattle.binary_field.specs.Checks.{all_hold, first_fails}
use Rattle.binary_field.proofs.Checking.{degree_checked}
use Rattle.jacobian.specs.{Checks.Check, Checks.AllHold, Checks.RefusalOf, Checks.unless, Checks.◌or_else◌, Checks.blank, Checking.formed_checks, Checking.Padded}
use Rattle.jacobian.specs.{Curves.coefficients, Curves.curve_with, Curves.blank_curve, Curves.curve_refusal, Answer.refusal, Classes.class_refusal}
use Rattle.jacobian.proofs.Checking.{refusal_none, refusal_unless, refusal_held, held_refusal, curve_checked, class_checked}
use Rattle.jacobian.proofs.ByValue.Checks.{both, blank_past}
use Rattle.stored_form.specs.{Number.part, Reading.found, Reading.reading_refusal}
use Rattle.stored_form.specs.{Head.body_length, Head.class_length, Fields.printable, Fields.drawing_refusal, Fields.count_limit, Fields.count_refusal, Fields.released_refusal, Fields.end_refusal, Fields.ended, Passing.CurvePasses}
use Rattle.stored_form.specs.{Cuts.fields_end, Elements.decode_elements, Classes.decode_curve, Classes.decode_row, Classes.decode_class, Record.empty_record, Record.curve_of_degree, Tags.rules, Reader.read_head_by, Reader.read_head, Reader.read_body, Reader.read_field, Reader.read_fields, Reader.read_record, declared.Record.Record}
use Rattle.stored_form.proofs.{Parts.length_part, Lengths.by_tag, Lengths.by_class_length, Lengths.class_length_le, NumberLists.length_decode_numbers}
use Rattle.stored_form_theorems.specs.Checking.{ClassLength, LengthAllowed, Printable, value_checks, after_field, with_field_at, head_checks, field_checks, with_fields_at, fields_checks, end_check, record_checks, record_values}
use Rattle.stored_form_theorems.specs.Checking as table
use Rattle.stored_form_theorems.proofs.CheckedReadings.{Reads, found_reads, refuse_reads, checked_reads, then_reads}

-- what is left of the checks after a first one that holds
rest : {c : Check} {cs : List Check} {n : ℕ} → RefusalOf (c ∷ cs) n → c.Holds → RefusalOf cs n
rest (all_hold e h) p = all_hold e h.1
rest (first_fails z (inl k)) p = absurd (k.0 p)
rest (first_fails z (inr k)) p = first_fails z k.1

-- ---- the lengths

class_length_decides : (n : ℕ) → (class_length n ≡ true) ↔ ClassLength n
unfolding class_length
class_length_decides n = (by_class_length ClassLength (inl refl) (inr (inl refl)) (inr (inr (inl refl))) (inr (inr (inr refl))) n, back)
  where
    back : ClassLength n → class_length n ≡ true
    back (inl e) = rw e refl
    back (inr (inl e)) = rw e refl
    back (inr (inr (inl e))) = rw e refl
    back (inr (inr (inr e))) = rw e refl

pub length_decides : (tag n : ℕ) (h : Record) → ((rules tag).allows h n ≡ true) ↔ LengthAllowed tag n
unfolding rules
length_decides tag n h = (
  λ e. by_tag h (λ t. (rules t).allows h n ≡ true → LengthAllowed t n)
      (λ e. table.degree refl (eqb-true n 1 e)) (λ e. table.curve refl (eqb-true n 24 e)) (λ e. table.drawing refl (leb-true n 38 e)) (λ e. table.count refl (eqb-true n 2 e))
      (λ e. table.released refl (eqb-true n 2 e))
      (λ e. table.class refl ((class_length_decides n).0 e)) (λ e. table.operation refl ((class_length_decides n).0 e)) tag n e e,
  back,
)
  where
    back : LengthAllowed tag n → (rules tag).allows h n ≡ true
    back (table.degree e f) = rw (e, f) refl
    back (table.curve e f) = rw (e, f) refl
    back (table.drawing e f) = rw e (le-leb n 38 f)
    back (table.count e f) = rw (e, f) refl
    back (table.released e f) = rw (e, f) refl
    back (table.class e f) = rw e ((class_length_decides n).1 f)
    back (table.operation e f) = rw e ((class_length_decides n).1 f)

-- ---- what a field says

-- a row of the right form is decoded from up to three elements
row_padded : (es : List ℕ) → length es ≤ 3 → Padded (length es) (decode_row es)
unfolding decode_row blank
row_padded [] l = record { three = refl; zeros = blank_past 0 (decode_row []) refl }
row_padded (x ∷ []) l = record { three = refl; zeros = blank_past 1 (decode_row (x ∷ [])) refl }
row_padded (x ∷ y ∷ []) l = record { three = refl; zeros = blank_past 2 (decode_row (x ∷ y ∷ [])) refl }
row_padded (x ∷ y ∷ z ∷ []) l = record { three = refl; zeros = blank_past 3 (decode_row (x ∷ y ∷ z ∷ [])) refl }
row_padded (x ∷ y ∷ z ∷ w ∷ es) l = absurd (omega arith)

decoded_form : (body : List ℕ) → ClassLength (length body) → let a = decode_class body in (a.degree ≤ 3) × Padded a.degree a.u × Padded a.degree a.v
unfolding decode_class
decoded_form body l =
    let n = length body / 16 in
    let es = decode_elements (n + n) body in
    let low : n ≤ 3 = omega (arith, class_length_le (length body) ((class_length_decides (length body)).1 l)) in
    let all : length es ≡ n + n = length_decode_numbers 8 (n + n) body in
    let first : length (take n es) ≡ n = length-take n es ∙ omega arith in
    let second : length (drop n es) ≡ n = length-drop n es ∙ omega arith in
    (low, subst (λ (k : ℕ). Padded k (decode_row (take n es))) first (row_padded (take n es) (omega arith)), subst (λ (k : ℕ). Padded k (decode_row (drop n es))) second (row_padded (drop n es) (omega arith)))

printable_decides : (xs : List ℕ) → (printable xs ≡ true) ↔ Printable xs
unfolding printable
printable_decides xs = (go xs, back)
  where
    go : (xs : List ℕ) → printable xs ≡ true → Printable xs
    go [] e = none
    go (x ∷ xs) e =
        let p = both (leb 0x20 x && leb x 0x7E) (printable xs) e in
        let q = both (leb 0x20 x) (leb x 0x7E) p.0 in
        more (leb-true 0x20 x q.0, leb-true x 0x7E q.1) (go xs p.1)

    back : {xs : List ℕ} → Printable xs → printable xs ≡ true
    back none = refl
    back (more {a} h k) = rw (le-leb 0x20 a h.0, le-leb a 0x7E h.1) (back k)

-- no check refuses the curve of an accepted degree whose coefficients are 0
zero_curve : (d : ℕ) → (d ≡ 5) ⊎ (d ≡ 61) → CurvePasses (curve_of_degree d)
unfolding curve_of_degree curve_with coefficients
zero_curve d h = let z : 0 < 2 ^ d = pow_pos d in refusal_held (curve_checked (curve_of_degree d)) (h, (more z (more z (more z none)), tt))

module _ (h : Record) (ok : CurvePasses h.curve) (body : List ℕ) where
  decoded_checked : ClassLength (length body) → RefusalOf (formed_checks h.curve (decode_class body)) (refusal h.curve (decode_class body))
  unfolding refusal ◌or_else◌
  decoded_checked l =
      let c = h.curve in
      let a = decode_class body in
      subst (RefusalOf (formed_checks c a)) (ap (λ (n : ℕ). n or_else class_refusal c a) (sym ok)) (rest (class_checked c a ok) (decoded_form body l))

  -- the check of a field's value, where its length is allowed
  value_checked : (tag : ℕ) → LengthAllowed tag (length body) → let m = (rules tag).with_field body h in RefusalOf (value_checks tag m) ((rules tag).check (length body) m)
  unfolding rules drawing_refusal count_refusal count_limit released_refusal decode_curve curve_with curve_refusal ◌or_else◌
  value_checked tag l = by l
    where
      P : ℕ → Type 0
      P t = let m = (rules t).with_field body h in RefusalOf (value_checks t m) ((rules t).check (length body) m)

      by : LengthAllowed tag (length body) → P tag
      by (table.degree e l) = subst P (sym e) (degree_checked _)
      by (table.curve e l) = subst P (sym e) (rest (curve_checked _) (held_refusal (curve_checked h.curve) ok).0)
      by (table.drawing e l) = subst P (sym e) (refusal_unless _ 108 (λ z. omega arith) (printable_decides _))
      by (table.count e l) = subst P (sym e) (refusal_unless _ 109 (λ z. omega arith) (leb-true _ 1024, le-leb _ 1024))
      by (table.released e l) = subst P (sym e) (refusal_unless _ 120 (λ z. omega arith) (leb-true _ _, le-leb _ _))
      by (table.class e l) = subst P (sym e) (decoded_checked l)
      by (table.operation e l) = subst P (sym e) (decoded_checked l)

  -- the curve of the record with it is one that no check refuses
  value_kept : (tag : ℕ) → LengthAllowed tag (length body) → let m = (rules tag).with_field body h in AllHold (value_checks tag m) → CurvePasses m.curve
  unfolding rules decode_curve curve_with curve_of_degree
  value_kept tag l = by l
    where
      P : ℕ → Type 0
      P t = let m = (rules t).with_field body h in AllHold (value_checks t m) → CurvePasses m.curve

      by : LengthAllowed tag (length body) → P tag
      by (table.degree e l) = subst P (sym e) (λ held. zero_curve _ held.0)
      by (table.curve e l) = subst P (sym e) (λ held. refusal_held (curve_checked _) ((held_refusal (curve_checked h.curve) ok).0, held))
      by (table.drawing e l) = subst P (sym e) (λ held. ok)
      by (table.count e l) = subst P (sym e) (λ held. ok)
      by (table.released e l) = subst P (sym e) (λ held. ok)
      by (table.class e l) = subst P (sym e) (λ held. ok)
      by (table.operation e l) = subst P (sym e) (λ held. ok)

-- ---- the head

module _ (tag : ℕ) (allowed : ℕ → Bool) (Allowed : ℕ → Type 0) (decides : (n : ℕ) → (allowed n ≡ true) ↔ Allowed n) (s : List ℕ) (at : ℕ) where
  pub head_reads : Reads (head_checks tag Allowed s at) (body_length s at) (after_field s at) (read_head_by tag allowed s at)
  unfolding read_head_by
  head_reads =
      refuse_reads 102 (ltb (length s) (at + 3)) (λ e. omega arith) (within (at + 3))
      (λ _. refuse_reads 103 (not (eqb (get_or s at 0) tag)) (λ e. omega arith) (λ e. eqb-true _ _ (not-false _ e), λ p. rw (eq-eqb (get_or s at 0) tag p) refl)
      (λ _. refuse_reads 104 (not (allowed (body_length s at))) (λ e. omega arith) (λ e. (decides (body_length s at)).0 (not-false _ e), λ p. rw ((decides (body_length s at)).1 p) refl)
      (λ _. refuse_reads 105 (ltb (length s) (after_field s at)) (λ e. omega arith) (within (after_field s at))
      (λ _. found_reads refusal_none))))
    where
      within : (k : ℕ) → (ltb (length s) k ≡ false) ↔ (k ≤ length s)
      within k = (ltb-false (length s) k, le-ltb (length s) k)

-- ---- fields

module _ (tag : ℕ) (h : Record) (ok : CurvePasses h.curve) (s : List ℕ) (at : ℕ) where
  -- the length of a body that lies within the bytes
  length_allowed : after_field s at ≤ length s → LengthAllowed tag (body_length s at) → LengthAllowed tag (length (part s (at + 3) (body_length s at)))
  length_allowed within l = subst (LengthAllowed tag) (sym (length_part s (at + 3) (body_length s at) within)) l

  field_reads : Reads (field_checks tag h s at) (with_field_at tag h s at) (after_field s at) (read_field tag h s at)
  unfolding read_field read_body
  field_reads =
      then_reads _ (read_body tag h s at) (then_reads (λ n next. found (part s (at + 3) n) next) (read_head tag h s at) (head_reads tag ((rules tag).allows h) (LengthAllowed tag) (λ n. length_decides tag n h) s at) (λ _. found_reads refusal_none))
      (λ held. checked_reads _ (value_checked h ok (part s (at + 3) (body_length s at)) tag (length_allowed held.1.1.1.0 held.1.1.0)))

  -- after a field whose checks hold the curve is still one that no check refuses
  curve_kept : AllHold (field_checks tag h s at) → CurvePasses (with_field_at tag h s at).curve
  curve_kept held = value_kept h ok _ tag (length_allowed held.1.1.1.0 held.1.1.0) held.1.1.1.1

-- ---- a record

module _ (s : List ℕ) where
  pub fields_read : (tags : List ℕ) (h : Record) (at : ℕ) → CurvePasses h.curve → Reads (fields_checks tags h s at) (with_fields_at tags h s at) (fields_end (length tags) s at) (read_fields tags h s at)
  unfolding read_fields with_fields_at fields_end
  fields_read [] h at ok = found_reads refusal_none
  fields_read (tag ∷ tags) h at ok =
      then_reads (λ more next. read_fields tags more s next) (read_field tag h s at) (field_reads tag h ok s at)
      (λ held. fields_read tags (with_field_at tag h s at) (after_field s at) (curve_kept tag h ok s at held))

  pub end_reads : {A : Type 0} (a : A) (at : ℕ) → Reads (end_check s at ∷ []) a at (ended s a at)
  unfolding ended end_refusal unless
  end_reads a at = checked_reads _ (by (ltb at (length s)) refl)
    where
      by : (b : Bool) → ltb at (length s) ≡ b → RefusalOf (end_check s at ∷ []) (cond b 112 0)
      by true e = refusal_unless false 112 (λ z. omega arith) (λ z. absurd (true≢false (sym z)), λ l. absurd (omega (arith, ltb-true at (length s) e)))
      by false e = refusal_unless true 112 (λ z. omega arith) (λ z. ltb-false at (length s) e, λ l. refl)

  -- the fields of a record or of an archive, from the first byte on
  pub first_read : (tags : List ℕ) → Reads (fields_checks tags empty_record s 0) (record_values tags s) (fields_end (length tags) s 0) (read_fields tags empty_record s 0)
  unfolding empty_record blank_curve curve_of_degree
  first_read tags = fields_read tags empty_record 0 (zero_curve 5 (inl refl))

module _ (tags s : List ℕ) where
  record_reads : Reads (record_checks tags s) (record_values tags s) (fields_end (length tags) s 0) (read_record tags s)
  unfolding read_record
  record_reads = then_reads (ended s) (read_fields tags empty_record s 0) (first_read s tags) (λ held. end_reads s (record_values tags s) (fields_end (length tags) s 0))

  pub record_checked : RefusalOf (record_checks tags s) (reading_refusal (read_record tags s))
  record_checked = record_reads.refusal

  pub record_found : AllHold (record_checks tags s) → read_record tags s ≡ found (record_values tags s) (fields_end (length tags) s 0)
  record_found held = record_reads.value (refusal_held record_checked held)
