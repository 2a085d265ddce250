-- The lengths of bodies, and the head of a field (docs/SPECIFICATION.md, 5).
use Rattle.std.specs.Prelude.{ℕ, ◌+◌, ◌*◌, ◌≡◌, Bool, cond, ◌||◌, List, ◌∷◌, ◌++◌, length, eqb, ltb}
use Rattle.jacobian.specs.Curves.{coefficient_count}
use Rattle.stored_form.specs.{Number.decode_number, Number.encode_number, Number.part, Elements.element_length}

-- ---- lengths

-- the length of the body of 0x40
abbrev pub degree_length : ℕ
degree_length = 1

-- the length of the body of 0x41
abbrev pub curve_length : ℕ
curve_length = coefficient_count * element_length

-- the length of the bodies of 0x42 and 0x45
abbrev pub count_length : ℕ
count_length = 2

-- the length of the longest drawing number
abbrev pub drawing_limit : ℕ
drawing_limit = 38

-- whether n is the length of a class of degree 0 to 3
unfoldable pub class_length : ℕ → Bool
class_length n = eqb n 0 || eqb n 16 || eqb n 32 || eqb n 48

-- the length of the longest body of a class
abbrev pub class_limit : ℕ
class_limit = 48

-- the length of the longest field of a class
abbrev pub class_room : ℕ
class_room = 3 + class_limit

-- the length of the longest body of pairs, 0x48: 2,048 of them
abbrev pub pairs_limit : ℕ
pairs_limit = 8192

-- ---- the head

-- the body's length that the head at an offset gives
unfoldable pub body_length : List ℕ → ℕ → ℕ
body_length s at = decode_number (part s (at + 1) 2)

-- the same, and 0 if fewer than three bytes are left
unfoldable pub length_at : List ℕ → ℕ → ℕ
length_at s at = cond (ltb (length s) (at + 3)) 0 (body_length s at)

-- a head encoded: the tag, and the body's length in two bytes
unfoldable pub head_bytes : ℕ → ℕ → List ℕ
head_bytes tag n = tag ∷ encode_number 2 n

-- a field encoded: its head and its body
unfoldable pub encode_field : ℕ → List ℕ → List ℕ
encode_field tag body = head_bytes tag (length body) ++ body

-- the bytes xs stand in s at an offset
abbrev pub BytesAt : List ℕ → ℕ → List ℕ → Type 0
BytesAt s at xs = part s at (length xs) ≡ xs
