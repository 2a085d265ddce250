-- Fields and the records that they lead to (docs/SPECIFICATION.md, 5).
use Rattle.std.specs.Prelude.{ℕ, ◌+◌, ◌≡◌, true, List, length}
use Rattle.stored_form.specs.{Head.BytesAt, Tags.rules, Tags.field_bytes, declared.Record.Record}

-- the bytes stand in s at an offset, and the next offset is the one after them
pub record Field (s : List ℕ) (at : ℕ) (bytes : List ℕ) (next : ℕ) : Type 0 where
  pub stands : BytesAt s at bytes
  pub ends : next ≡ at + length bytes

-- Reading m's field with this tag into the record h gives m.
-- That is: m is h with its own body, its check does not refuse m, and the body's length is allowed.
pub record FieldEncodes (tag : ℕ) (h m : Record) : Type 0 where
  pub kept : m ≡ (rules tag).with_field ((rules tag).body m) h
  pub passes : (rules tag).check (length ((rules tag).body m)) m ≡ 0
  pub fits : (rules tag).allows h (length ((rules tag).body m)) ≡ true

-- the law of a tag after the record h: its fields and the values that satisfy Ok determine each other
pub record FieldLaw {A : Type 0} (tag : ℕ) (h : Record) (Ok : A → Type 0) (bytes : A → List ℕ) (with : A → Record) (value : Record → A) : Type 0 where
  -- the value of the record with a is a
  pub valued : (a : A) → value (with a) ≡ a
  -- the encoded field of each record is that of its value
  pub written : (m : Record) → field_bytes tag m ≡ bytes (value m)
  -- a value that satisfies Ok has a field that reads as it
  pub says : (a : A) → Ok a → FieldEncodes tag h (with a)
  -- a record that the field gives has a value that satisfies Ok, and is h with that value
  pub said : {m : Record} → FieldEncodes tag h m → Ok (value m) × (m ≡ with (value m))
