-- The fields of a curve and of a class, decoded and encoded (docs/SPECIFICATION.md, 5 and 6).
use Rattle.std.specs.Prelude.{ℕ, ◌+◌, ◌/◌, List, [], ◌∷◌, ◌++◌, reverse, length, take, drop}
use Rattle.jacobian.specs.{Curves.coefficient_count, Curves.coefficients, Curves.curve_with}
use Rattle.jacobian.specs.declared.{Curve.Curve, Class.Class}
use Rattle.stored_form.specs.{Head.encode_field, Fields.degree_field, Elements.decode_elements, Elements.encode_elements}

-- ---- the curve: f3, f1, f0

-- the curve that a body decodes to, over the field of degree d
unfoldable pub decode_curve : ℕ → List ℕ → Curve
decode_curve d body = curve_with d (decode_elements coefficient_count body)

-- the field of a curve, 0x41
unfoldable pub curve_field : Curve → List ℕ
curve_field c = encode_field 0x41 (encode_elements (coefficients c))

-- the fields of degree and curve, with which every record begins
unfoldable pub curve_fields_bytes : Curve → List ℕ
curve_fields_bytes c = degree_field c.degree ++ curve_field c

-- ---- a class: u below its leading term, highest power first, then v likewise

-- a row of three coefficients, lowest power first, decoded from coefficients with the highest power first
unfoldable pub decode_row : List ℕ → List ℕ
decode_row es = take 3 (reverse es ++ 0 ∷ 0 ∷ 0 ∷ [])

-- the class that a body decodes to; its degree is the body's length / 16
unfoldable pub decode_class : List ℕ → Class
decode_class body =
    let n = length body / 16 in
    let es = decode_elements (n + n) body in
    record { degree = n; u = decode_row (take n es); v = decode_row (drop n es) }

-- the coefficients of a row below degree n, highest power first
unfoldable pub encode_row : ℕ → List ℕ → List ℕ
encode_row n r = reverse (take n r)

-- the body of a class, encoded
abbrev pub encode_class : Class → List ℕ
encode_class a = encode_elements (encode_row a.degree a.u) ++ encode_elements (encode_row a.degree a.v)

-- the field of a class with this tag, 0x43 or 0x44
unfoldable pub class_field : ℕ → Class → List ℕ
class_field tag a = encode_field tag (encode_class a)

-- the fields of operations, one 0x44 for each, newest first
unfoldable pub operation_fields : List Class → List ℕ
operation_fields [] = []
operation_fields (a ∷ older) = class_field 0x44 a ++ operation_fields older
