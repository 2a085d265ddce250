-- The calls as operations on records of classes (docs/SPECIFICATION.md, 11).
-- Each answers the record that is rebuilt from what the call writes into a lent output.
use Rattle.std.specs.Prelude.{ℕ, ◌≤◌, length}
use mathlib.Core.{Path.◌≡◌, List.List, List.◌++◌}
use Rattle.lists.specs.{Lists.All, Walk.foldl}
use Rattle.jacobian.specs.Answer.{neutral_class}
use Rattle.stored_form.specs.{Number.Bytes, Reading.found, Head.class_room, Classes.class_field, Reader.read_record, Reader.class_layout, declared.Record.Record}
use Rattle.seal.specs.{Rebuilt.first_fields, Rebuilt.last_field, Rebuilt.class_rebuilt, Calls.opposite_call, Calls.double_call, Calls.sum_call}

-- the bytes of a class's record that is accepted, with these fields of degree and curve
pub record ReadWith (fields s : List ℕ) : Type 0 where
  pub bytes : Bytes s
  pub begins : first_fields s ≡ fields
  pub values : Record
  pub end : ℕ
  pub read : read_record class_layout s ≡ found values end

-- the record of a sum: degree and curve, then the class fields of two records
abbrev pub sum_record_of : List ℕ → List ℕ → List ℕ
sum_record_of s t = first_fields s ++ last_field s ++ last_field t

-- the record of the sum of two records' classes, by the call `sum_call`
abbrev pub record_sum : List ℕ → List ℕ → List ℕ → List ℕ
record_sum out s t = class_rebuilt s (sum_call (sum_record_of s t) out)

-- the record of the opposite
abbrev pub record_opposite : List ℕ → List ℕ → List ℕ
record_opposite out s = class_rebuilt s (opposite_call s out)

-- the record of a - b, which is a plus the opposite of b; `mid` is lent to the opposite and `out` to the sum
abbrev pub record_difference : List ℕ → List ℕ → List ℕ → List ℕ → List ℕ
record_difference mid out s t = record_sum out s (record_opposite mid t)

-- the record of the double
abbrev pub record_double : List ℕ → List ℕ → List ℕ
record_double out s = class_rebuilt s (double_call s out)

-- every one of these outputs has room for a class's field
abbrev pub ClassRooms : List (List ℕ) → Type 0
ClassRooms outs = All (λ out. class_room ≤ length out) outs

-- the record after a doubling for each of these outputs, each of the record that the one before it gave
abbrev pub doubled_record : List (List ℕ) → List ℕ → List ℕ
doubled_record outs s = foldl (λ t out. record_double out t) s outs

-- the record of the neutral class
abbrev pub neutral_record : List ℕ → List ℕ
neutral_record fields = fields ++ class_field 0x43 neutral_class
