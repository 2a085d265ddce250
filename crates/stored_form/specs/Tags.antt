-- The rules of each tag: its lengths, how its body is decoded and encoded, its check (docs/SPECIFICATION.md, 5 and 6).
use Rattle.std.specs.Prelude.{ℕ, max, Bool, false, cond, List, [], eqb, leb}
use Rattle.jacobian.specs.{Curves.coefficients, Curves.degree_refusal, Curves.curve_refusal, Answer.refusal}
use Rattle.jacobian.specs.declared.Class.{Class}
use Rattle.stored_form.specs.{Number.decode_number, Number.encode_number, Elements.encode_elements, Fields.count_refusal, Fields.released_refusal, Fields.drawing_refusal}
use Rattle.stored_form.specs.Head.{degree_length, curve_length, count_length, drawing_limit, class_length, class_limit, pairs_limit, encode_field}
use Rattle.stored_form.specs.Classes.{decode_curve, decode_class, encode_class}
use Rattle.stored_form.specs.Record.{decode_drawing, drawing_name, curve_of_degree, with_curve, with_drawing, with_count, with_released, with_class, with_operation}
use Rattle.stored_form.specs.declared.Record.{Record}

-- the rules of a tag
pub record Rules : Type 0 where
  -- whether its body may have this length, after the record that was read
  pub allows : Record → ℕ → Bool
  -- the record with the value that the body decodes to
  pub with_field : List ℕ → Record → Record
  -- the body that encodes this tag's value of the record
  pub body : Record → List ℕ
  -- the refusal of the record once a body of this length was read, and 0 if there is none
  pub check : ℕ → Record → ℕ

-- the degree, 5 or 61; the curve has all coefficients 0 until 0x41 is read
abbrev pub degree_rules : Rules
degree_rules = record {
  allows = λ h n. eqb n degree_length;
  with_field = λ body h. with_curve (curve_of_degree (decode_number body)) h;
  body = λ h. encode_number degree_length h.curve.degree;
  check = λ n h. degree_refusal h.curve.degree;
}

-- the curve over the field whose degree was read
abbrev pub curve_rules : Rules
curve_rules = record {
  allows = λ h n. eqb n curve_length;
  with_field = λ body h. with_curve (decode_curve h.curve.degree body) h;
  body = λ h. encode_elements (coefficients h.curve);
  check = λ n h. curve_refusal h.curve;
}

-- the drawing number
abbrev pub drawing_rules : Rules
drawing_rules = record {
  allows = λ h n. leb n drawing_limit;
  with_field = λ body h. with_drawing (decode_drawing body) h;
  body = λ h. drawing_name h.drawing;
  check = λ n h. drawing_refusal (drawing_name h.drawing);
}

-- the count of operations
abbrev pub count_rules : Rules
count_rules = record {
  allows = λ h n. eqb n count_length;
  with_field = λ body h. with_count (decode_number body) h;
  body = λ h. encode_number count_length h.count;
  check = λ n h. count_refusal h.count;
}

-- the released step, which is checked against the count that was read
abbrev pub released_rules : Rules
released_rules = record {
  allows = λ h n. eqb n count_length;
  with_field = λ body h. with_released (decode_number body) h;
  body = λ h. encode_number count_length h.released;
  check = λ n h. released_refusal h.count h.released;
}

-- a class on the curve that was read, stored and found in the record by `with` and `value`
abbrev pub class_rules : (Class → Record → Record) → (Record → Class) → Rules
class_rules with value = record {
  allows = λ h n. class_length n;
  with_field = λ body h. with (decode_class body) h;
  body = λ h. encode_class (value h);
  check = λ n h. refusal h.curve (value h);
}

-- a byte that is no tag: no length is allowed
abbrev pub no_rules : Rules
no_rules = record { allows = λ h n. false; with_field = λ body h. h; body = λ h. []; check = λ n h. 0 }

-- the rules of a tag
unfoldable pub rules : ℕ → Rules
rules tag =
    cond (eqb tag 0x40) degree_rules
    (cond (eqb tag 0x41) curve_rules
    (cond (eqb tag 0x46) drawing_rules
    (cond (eqb tag 0x42) count_rules
    (cond (eqb tag 0x45) released_rules
    (cond (eqb tag 0x43) (class_rules with_class (λ h. h.class))
    (cond (eqb tag 0x44) (class_rules with_operation (λ h. h.operation))
    no_rules))))))

-- the length of the longest body that any tag allows, 0x48 included
abbrev pub longest_body : ℕ
longest_body = max (max drawing_limit class_limit) pairs_limit

-- the field with this tag that encodes its value of the record
unfoldable pub field_bytes : ℕ → Record → List ℕ
field_bytes tag h = encode_field tag ((rules tag).body h)
