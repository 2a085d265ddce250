-- A record rebuilt from what a call wrote for it (docs/SPECIFICATION.md, 11).
use Rattle.std.specs.Prelude.{ℕ, List, ◌++◌}
use Rattle.stored_form.specs.{Cuts.take_fields, Cuts.drop_fields, Classes.curve_fields_bytes, Classes.class_field}
use Rattle.written_form.specs.{Effect.Effect, Wrote.wrote}
use Rattle.history.specs.declared.Register.{Register}
use Rattle.jacobian.specs.declared.Class.{Class}

-- the fields of degree and curve of a class's record
abbrev pub first_fields : List ℕ → List ℕ
first_fields s = take_fields 2 s

-- the class field of a class's record
abbrev pub last_field : List ℕ → List ℕ
last_field s = drop_fields 2 s

-- a class's record with what a call wrote in place of its class field
unfoldable pub class_rebuilt : List ℕ → Effect → List ℕ
class_rebuilt s e = first_fields s ++ wrote e

-- a step's record with the register's fields that a call wrote
unfoldable pub step_rebuilt : Register → Class → Effect → List ℕ
step_rebuilt g a e = curve_fields_bytes g.curve ++ wrote e ++ class_field 0x44 a
