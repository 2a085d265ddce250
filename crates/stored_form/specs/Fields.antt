-- The fields without a class, encoded; their checks; the end of a record (docs/SPECIFICATION.md, 5 and 6).
use Rattle.std.specs.Prelude.{ℕ, Bool, true, cond, ◌&&◌, List, [], ◌∷◌, length, leb, ltb}
use Rattle.jacobian.specs.Checks.{unless}
unfoldable pub use Rattle.count_limit.specs.Limit.{count_limit, count_refusal, released_refusal}
use Rattle.stored_form.specs.{Number.encode_number, Reading.Reading, Reading.found, Reading.checked}
use Rattle.stored_form.specs.Head.{degree_length, count_length, encode_field}

-- ---- the degree

-- the field of a degree, 0x40
unfoldable pub degree_field : ℕ → List ℕ
degree_field d = encode_field 0x40 (encode_number degree_length d)

-- ---- the count of operations and the released step

-- the field of a count, 0x42
unfoldable pub count_field : ℕ → List ℕ
count_field n = encode_field 0x42 (encode_number count_length n)

-- the field of a released step, 0x45
unfoldable pub released_field : ℕ → List ℕ
released_field n = encode_field 0x45 (encode_number count_length n)

-- ---- the drawing number

-- whether every byte lies in 0x20 to 0x7E
unfoldable pub printable : List ℕ → Bool
printable [] = true
printable (b ∷ bs) = leb 0x20 b && leb b 0x7E && printable bs

-- 108 if some byte is not printable, else 0
unfoldable pub drawing_refusal : List ℕ → ℕ
drawing_refusal bytes = unless (printable bytes) 108

-- the field of a drawing number, 0x46
unfoldable pub drawing_field : List ℕ → List ℕ
drawing_field bytes = encode_field 0x46 bytes

-- ---- the end

-- 112 if bytes remain after the last field, else 0
unfoldable pub end_refusal : List ℕ → ℕ → ℕ
end_refusal s at = cond (ltb at (length s)) 112 0

-- the value if nothing follows the last field, else refusal 112
unfoldable pub ended : {A : Type 0} → List ℕ → A → ℕ → Reading A
ended s a at = checked (end_refusal s at) (found a at)
