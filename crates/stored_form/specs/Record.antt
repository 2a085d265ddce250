-- A record: what the fields that were read say (docs/SPECIFICATION.md, 5 and 6).
use Rattle.std.specs.Prelude.{ℕ, ◌-◌, List, [], ◌++◌, length, take, replicate}
use Rattle.jacobian.specs.{Curves.coefficient_count, Curves.curve_with, Curves.blank_curve, Answer.neutral_class}
use Rattle.jacobian.specs.declared.{Curve.Curve, Class.Class}
use Rattle.stored_form.specs.Head.{drawing_limit}
use Rattle.stored_form.specs.declared.{Drawing.Drawing, Record.Record}

-- the drawing number with these bytes, and 0 after them
unfoldable pub decode_drawing : List ℕ → Drawing
decode_drawing name = record { len = length name; bytes = name ++ replicate (drawing_limit - length name) 0 }

-- the bytes of a drawing number
unfoldable pub drawing_name : Drawing → List ℕ
drawing_name d = take d.len d.bytes

-- the curve over the field of degree d with all coefficients 0
unfoldable pub curve_of_degree : ℕ → Curve
curve_of_degree d = curve_with d (replicate coefficient_count 0)

-- the record before the first field
unfoldable pub empty_record : Record
empty_record = record {
  curve = blank_curve;
  drawing = decode_drawing [];
  count = 0;
  released = 0;
  previous = neutral_class;
  class = neutral_class;
  operation = neutral_class;
}

-- the record with this curve
abbrev pub with_curve : Curve → Record → Record
with_curve c h = record { curve = c; drawing = h.drawing; count = h.count; released = h.released; previous = h.previous; class = h.class; operation = h.operation }

-- the record with this drawing number
abbrev pub with_drawing : Drawing → Record → Record
with_drawing d h = record { curve = h.curve; drawing = d; count = h.count; released = h.released; previous = h.previous; class = h.class; operation = h.operation }

-- the record with this count
abbrev pub with_count : ℕ → Record → Record
with_count n h = record { curve = h.curve; drawing = h.drawing; count = n; released = h.released; previous = h.previous; class = h.class; operation = h.operation }

-- the record with this released step
abbrev pub with_released : ℕ → Record → Record
with_released n h = record { curve = h.curve; drawing = h.drawing; count = h.count; released = n; previous = h.previous; class = h.class; operation = h.operation }

-- the record with this class; the class before it becomes the previous one
abbrev pub with_class : Class → Record → Record
with_class a h = record { curve = h.curve; drawing = h.drawing; count = h.count; released = h.released; previous = h.class; class = a; operation = h.operation }

-- the record with this operation
abbrev pub with_operation : Class → Record → Record
with_operation a h = record { curve = h.curve; drawing = h.drawing; count = h.count; released = h.released; previous = h.previous; class = h.class; operation = a }
