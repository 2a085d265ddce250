-- What the checks of a record's bytes require, in checking order (docs/SPECIFICATION.md, 5 and 6).
use Rattle.std.specs.Prelude.{ℕ, ◌+◌, ◌≤◌, ◌^◌}
use mathlib.Core.{Path.◌≡◌, Bool.cond, List.List, List.[], List.◌∷◌, List.◌++◌, Logic.◌⊎◌}
use lib.{Dec.eqb, ListN.length, ListN.get_or}
use Rattle.lists.specs.Lists.{All}
use Rattle.jacobian.specs.{Checks.Check, Checks.check, Checking.Below, Checking.degree_check, Checking.formed_checks, Curves.coefficients}
use Rattle.stored_form.specs.{Number.part, Head.body_length, Cuts.fields_end, Record.empty_record, Record.drawing_name, Tags.rules, declared.Record.Record}

-- ---- one field

-- n is the length of a class's body: 16 for each degree
abbrev pub ClassLength : ℕ → Type 0
ClassLength n = (n ≡ 0) ⊎ (n ≡ 16) ⊎ (n ≡ 32) ⊎ (n ≡ 48)

-- n is a length that is allowed for the body of a tag
pub data LengthAllowed (tag n : ℕ) : Type 0 where
  degree : tag ≡ 0x40 → n ≡ 1 → LengthAllowed tag n
  curve : tag ≡ 0x41 → n ≡ 24 → LengthAllowed tag n
  drawing : tag ≡ 0x46 → n ≤ 38 → LengthAllowed tag n
  count : tag ≡ 0x42 → n ≡ 2 → LengthAllowed tag n
  released : tag ≡ 0x45 → n ≡ 2 → LengthAllowed tag n
  class : tag ≡ 0x43 → ClassLength n → LengthAllowed tag n
  operation : tag ≡ 0x44 → ClassLength n → LengthAllowed tag n

-- every byte lies in 0x20 to 0x7E
abbrev pub Printable : List ℕ → Type 0
Printable name = All (λ b. (0x20 ≤ b) × (b ≤ 0x7E)) name

-- the checks of what the field with this tag says, in the record with it; the length of a class's body gives the class
-- the right form
abbrev pub value_checks : ℕ → Record → List Check
value_checks tag h =
    cond (eqb tag 0x40) (degree_check h.curve.degree ∷ [])
    (cond (eqb tag 0x41) (check 107 (Below (2 ^ h.curve.degree) (coefficients h.curve)) ∷ [])
    (cond (eqb tag 0x46) (check 108 (Printable (drawing_name h.drawing)) ∷ [])
    (cond (eqb tag 0x42) (check 109 (h.count ≤ 1024) ∷ [])
    (cond (eqb tag 0x45) (check 120 (h.released ≤ h.count) ∷ [])
    (cond (eqb tag 0x43) (formed_checks h.curve h.class)
    (cond (eqb tag 0x44) (formed_checks h.curve h.operation)
    []))))))

-- the offset after the field at an offset
abbrev pub after_field : List ℕ → ℕ → ℕ
after_field s at = at + 3 + body_length s at

-- the record h with what the field at an offset says, read with this tag
abbrev pub with_field_at : ℕ → Record → List ℕ → ℕ → Record
with_field_at tag h s at = (rules tag).with_field (part s (at + 3) (body_length s at)) h

-- the checks of the head at an offset, where this tag is expected with a length that is allowed
abbrev pub head_checks : ℕ → (ℕ → Type 0) → List ℕ → ℕ → List Check
head_checks tag Allowed s at =
    check 102 (at + 3 ≤ length s)
    ∷ check 103 (get_or s at 0 ≡ tag)
    ∷ check 104 (Allowed (body_length s at))
    ∷ check 105 (after_field s at ≤ length s)
    ∷ []

-- the checks of the field at an offset, where this tag is expected after the record h
abbrev pub field_checks : ℕ → Record → List ℕ → ℕ → List Check
field_checks tag h s at = head_checks tag (LengthAllowed tag) s at ++ value_checks tag (with_field_at tag h s at)

-- ---- fields with these tags, one after the other

-- the record h with what the fields from an offset on say
unfoldable pub with_fields_at : List ℕ → Record → List ℕ → ℕ → Record
with_fields_at [] h s at = h
with_fields_at (tag ∷ tags) h s at = with_fields_at tags (with_field_at tag h s at) s (after_field s at)

-- the checks of the fields from an offset on
abbrev pub fields_checks : List ℕ → Record → List ℕ → ℕ → List Check
fields_checks [] h s at = []
fields_checks (tag ∷ tags) h s at = field_checks tag h s at ++ fields_checks tags (with_field_at tag h s at) s (after_field s at)

-- the check of the end: no byte remains from an offset on
abbrev pub end_check : List ℕ → ℕ → Check
end_check s at = check 112 (length s ≤ at)

-- the checks of a record with these tags: its fields, then the end
abbrev pub record_checks : List ℕ → List ℕ → List Check
record_checks tags s = fields_checks tags empty_record s 0 ++ end_check s (fields_end (length tags) s 0) ∷ []

-- what a record with these tags says
abbrev pub record_values : List ℕ → List ℕ → Record
record_values tags s = with_fields_at tags empty_record s 0
