-- Every reading finds a value or refuses with a valid number (docs/SPECIFICATION.md, 6).
-- `drawing_refusal_valid` and its like: every check gives a valid refusal, which is 0 or a listed number.
-- `record_valid`, `fields_valid`, `operations_valid`, `pairs_valid`: every reading of a record, of fields, of
-- operations, of pairs is valid.
-- `reading_valid`: its number is then a valid refusal.
-- `reading_found`: where the number is 0, the reading finds a value.
use Prim.Native.Nat.{ℕ, zero, suc, ◌+◌}
use mathlib.Core.Path.{◌≡◌, refl}
use mathlib.Core.{Bool.Bool, Bool.true, Bool.false, Bool.cond, Bool.not, List.List, List.[], List.◌∷◌, Logic.inl, Logic.inr}
use native.Mathlib.Omega.{arith}
use lib.{Dec.eqb, Dec.leb, Dec.ltb, ListN.length, ListN.get_or}
use Rattle.jacobian.specs.{Refusals.refusals, Refusals.listed, Refusals.IsRefusal, Refusals.ValidRefusal, Curves.degree_refusal}
use Rattle.count_limit.proofs.Valid.{count_refusal_valid, released_refusal_valid}
use Rattle.jacobian.proofs.{Refusals.valid_unless, Refusals.above_100, Valid.curve_refusal_valid, Valid.refusal_valid}
use Rattle.stored_form.specs.{Reading.Reading, Reading.found, Reading.refused, Reading.refuse, Reading.checked, Reading.◌then◌, Reading.reading_refusal}
use Rattle.stored_form.specs.{Head.body_length, Fields.drawing_refusal, Fields.end_refusal, Fields.ended, Record.empty_record, Tags.Rules, Tags.rules}
use Rattle.stored_form.specs.Reader.{read_head_by, read_head, read_body, read_field, read_fields, read_record, read_operations}
use Rattle.stored_form.specs.Pairs.{pairs_length, pairs_refusal, read_pairs_field, read_pairs}
use Rattle.stored_form.specs.declared.Record.{Record}

-- ---- the checks

pub either : {A : Type 0} (P : A → Type 0) (b : Bool) {x y : A} → P x → P y → P (cond b x y)
either P true p q = p
either P false p q = q

degree_refusal_valid : (d : ℕ) → ValidRefusal (degree_refusal d)
unfolding degree_refusal IsRefusal refusals listed
degree_refusal_valid d = valid_unless _ 106 refl

pub drawing_refusal_valid : (xs : List ℕ) → ValidRefusal (drawing_refusal xs)
unfolding drawing_refusal IsRefusal refusals listed
drawing_refusal_valid xs = valid_unless _ 108 refl

pub end_refusal_valid : (s : List ℕ) (at : ℕ) → ValidRefusal (end_refusal s at)
unfolding end_refusal ValidRefusal IsRefusal refusals listed
end_refusal_valid s at = either ValidRefusal (ltb at (length s)) (inr refl) (inl refl)

field_refusal_valid : (tag n : ℕ) (h : Record) → ValidRefusal ((rules tag).check n h)
unfolding rules ValidRefusal
field_refusal_valid tag n h =
    let P : Rules → Type 0 = λ r. ValidRefusal (r.check n h) in
    either P (eqb tag 0x40) (degree_refusal_valid _)
    (either P (eqb tag 0x41) (curve_refusal_valid _)
    (either P (eqb tag 0x46) (drawing_refusal_valid _)
    (either P (eqb tag 0x42) (count_refusal_valid _)
    (either P (eqb tag 0x45) (released_refusal_valid _ _)
    (either P (eqb tag 0x43) (refusal_valid _ _)
    (either P (eqb tag 0x44) (refusal_valid _ _)
    (inl refl)))))))

-- ---- readings that refuse with a listed number

-- a reading that finds a value or refuses with a listed number
unfoldable pub ValidReading : {A : Type 0} → Reading A → Type 0
ValidReading (found a next) = Unit
ValidReading (refused n) = IsRefusal n

module _ {A : Type 0} where
  pub found_valid : (a : A) (next : ℕ) → ValidReading (found a next)
  unfolding ValidReading
  found_valid a next = tt

  refuse_valid : (n : ℕ) (b : Bool) (r : Reading A) → IsRefusal n → ValidReading r → ValidReading (refuse n b r)
  unfolding ValidReading
  refuse_valid n true r i t = i
  refuse_valid n false r i t = t

  pub checked_valid : (n : ℕ) (r : Reading A) → ValidRefusal n → ValidReading r → ValidReading (checked n r)
  unfolding ValidReading checked ValidRefusal
  checked_valid zero r t u = u
  checked_valid (suc n) r (inl e) u = absurd (omega arith)
  checked_valid (suc n) r (inr i) u = i

  pub then_valid : {B : Type 0} (x : Reading B) (f : B → ℕ → Reading A) → ValidReading x → ((b : B) (next : ℕ) → ValidReading (f b next)) → ValidReading (x then f)
  unfolding ValidReading ◌then◌
  then_valid (found b next) f t u = u b next
  then_valid (refused n) f t u = t

  -- its number is 0 exactly if a value is found
  pub reading_valid : (x : Reading A) → ValidReading x → ValidRefusal (reading_refusal x)
  unfolding ValidReading ValidRefusal
  reading_valid (found a next) t = inl refl
  reading_valid (refused n) t = inr t

  pub reading_found : (x : Reading A) → ValidReading x → reading_refusal x ≡ 0 → (a : A) × (next : ℕ) × (x ≡ found a next)
  unfolding ValidReading
  reading_found (found a next) t e = (a, next, refl)
  reading_found (refused n) t e = let l = above_100 n t in absurd (omega arith)

  pub end_tells : (s : List ℕ) (a : A) (at : ℕ) → ValidReading (ended s a at)
  unfolding ended
  end_tells s a at = checked_valid _ _ (end_refusal_valid s at) (found_valid a at)

head_valid : (tag : ℕ) (allows : ℕ → Bool) (s : List ℕ) (at : ℕ) → ValidReading (read_head_by tag allows s at)
unfolding read_head_by IsRefusal refusals listed
head_valid tag allows s at =
    let n = body_length s at in
    refuse_valid 102 (ltb (length s) (at + 3)) _ refl
    (refuse_valid 103 (not (eqb (get_or s at 0) tag)) _ refl
    (refuse_valid 104 (not (allows n)) _ refl
    (refuse_valid 105 (ltb (length s) (at + 3 + n)) _ refl
    (found_valid n (at + 3 + n)))))

body_valid : (tag : ℕ) (h : Record) (s : List ℕ) (at : ℕ) → ValidReading (read_body tag h s at)
unfolding read_body
body_valid tag h s at = then_valid (read_head tag h s at) _ (head_valid tag ((rules tag).allows h) s at) (λ n next. found_valid _ _)

field_valid : (tag : ℕ) (h : Record) (s : List ℕ) (at : ℕ) → ValidReading (read_field tag h s at)
unfolding read_field
field_valid tag h s at = then_valid (read_body tag h s at) _ (body_valid tag h s at) (λ body next. checked_valid _ _ (field_refusal_valid tag _ _) (found_valid _ _))

pub fields_valid : (tags : List ℕ) (h : Record) (s : List ℕ) (at : ℕ) → ValidReading (read_fields tags h s at)
unfolding read_fields
fields_valid [] h s at = found_valid h at
fields_valid (tag ∷ tags) h s at = then_valid (read_field tag h s at) _ (field_valid tag h s at) (λ more next. fields_valid tags more s next)

pub operations_valid : (n : ℕ) (h : Record) (s : List ℕ) (at : ℕ) → ValidReading (read_operations n h s at)
unfolding read_operations
operations_valid zero h s at = found_valid _ at
operations_valid (suc n) h s at =
    then_valid (read_field 0x44 h s at) _ (field_valid 0x44 h s at)
    (λ more next. then_valid (read_operations n more s next) _ (operations_valid n more s next) (λ older end. found_valid _ end))

pub pairs_valid : (n : ℕ) (s : List ℕ) (at : ℕ) → ValidReading (read_pairs n s at)
unfolding read_pairs read_pairs_field pairs_refusal IsRefusal refusals listed
pairs_valid n s at =
    either ValidReading (leb (length s) at) (found_valid [] at)
    (refuse_valid 112 (not (eqb (get_or s at 0) 0x48)) _ refl
    (then_valid (read_head_by 0x48 pairs_length s at) _ (head_valid 0x48 pairs_length s at)
    (λ len next. checked_valid _ _ (valid_unless _ 122 refl) (found_valid _ next))))

pub record_valid : (tags s : List ℕ) → ValidReading (read_record tags s)
unfolding read_record
record_valid tags s = then_valid (read_fields tags empty_record s 0) _ (fields_valid tags empty_record s 0) (λ h end. end_tells s h end)
