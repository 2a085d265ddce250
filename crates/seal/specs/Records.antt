-- The records that the byte calls read: their values and their bytes (docs/SPECIFICATION.md, 5).
use Rattle.std.specs.Prelude.{ℕ, ◌≡◌, List, ◌++◌}
use Rattle.jacobian.specs.declared.{Curve.Curve, Class.Class}
use Rattle.history.specs.{Register.register_refusal, declared.Register.Register}
use Rattle.stored_form.specs.{Passing.ClassPasses, Fields.count_field, Fields.released_field, Classes.curve_fields_bytes, Classes.class_field}
use Rattle.stored_form.specs.Record.{empty_record, with_curve, with_count, with_released, with_class, with_operation}
use Rattle.stored_form.specs.declared.Record.{Record}

-- ---- the values of a record

-- the values of a class's record
abbrev pub class_values : Curve → Class → Record
class_values c a = with_class a (with_curve c empty_record)

-- the values of the record of a sum
abbrev pub sum_values : Curve → Class → Class → Record
sum_values c a b = with_class b (with_class a (with_curve c empty_record))

-- the values of a register's record, which is that of a release
abbrev pub register_values : Register → Record
register_values g = with_class g.seal (with_released g.released (with_count g.count (with_curve g.curve empty_record)))

-- the values of a step's record: a register with an operation
abbrev pub step_values : Register → Class → Record
step_values g a = with_operation a (register_values g)

-- ---- the records encoded

-- the fields of a register after those of its curve: 0x42, 0x45, then 0x43
abbrev pub register_fields : Register → List ℕ
register_fields g = count_field g.count ++ released_field g.released ++ class_field 0x43 g.seal

-- a class's record
unfoldable pub class_record_bytes : Curve → Class → List ℕ
class_record_bytes c a = curve_fields_bytes c ++ class_field 0x43 a

-- the record of a sum
unfoldable pub sum_record_bytes : Curve → Class → Class → List ℕ
sum_record_bytes c a b = curve_fields_bytes c ++ class_field 0x43 a ++ class_field 0x43 b

-- a register's record
unfoldable pub register_record_bytes : Register → List ℕ
register_record_bytes g = curve_fields_bytes g.curve ++ register_fields g

-- a step's record: a register with an operation
unfoldable pub step_record_bytes : Register → Class → List ℕ
step_record_bytes g a = register_record_bytes g ++ class_field 0x44 a

-- ---- bytes that encode values which no check refuses

-- s is a class's record, h has its values, and no check refuses them
pub record ClassStored (s : List ℕ) (h : Record) : Type 0 where
  pub curve : Curve
  pub class : Class
  pub values : h ≡ class_values curve class
  pub bytes : s ≡ class_record_bytes curve class
  pub passes : ClassPasses curve class

-- the same for the record of a sum
pub record SumStored (s : List ℕ) (h : Record) : Type 0 where
  pub curve : Curve
  pub first : Class
  pub second : Class
  pub values : h ≡ sum_values curve first second
  pub bytes : s ≡ sum_record_bytes curve first second
  pub first_passes : ClassPasses curve first
  pub second_passes : ClassPasses curve second

-- the same for a register's record
pub record RegisterStored (s : List ℕ) (h : Record) : Type 0 where
  pub register : Register
  pub values : h ≡ register_values register
  pub bytes : s ≡ register_record_bytes register
  pub passes : register_refusal register ≡ 0

-- the same for a step's record
pub record StepStored (s : List ℕ) (h : Record) : Type 0 where
  pub register : Register
  pub class : Class
  pub values : h ≡ step_values register class
  pub bytes : s ≡ step_record_bytes register class
  pub passes : register_refusal register ≡ 0
  pub class_passes : ClassPasses register.curve class
