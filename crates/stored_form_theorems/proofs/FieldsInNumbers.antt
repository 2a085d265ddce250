-- Fields in numbers, as document 01's table has them: a tag, a length in two bytes, a body, high bytes first
-- (docs/SPECIFICATION.md, 5).
-- `degree_in_numbers`: the degree is one byte.
-- `count_in_numbers`, `released_in_numbers`: the count is two bytes, and the released step is two bytes.
-- `drawing_in_numbers`: the drawing number is its own bytes.
-- `curve_in_numbers`: the curve is f3, f1, f0, eight bytes each.
-- `class_in_numbers`: a class is u below its leading term, the highest power first, then v likewise, eight bytes each.
use mathlib.Core.Path.{◌≡◌, refl}
use mathlib.Core.List.{[], ◌∷◌, ◌++◌}
use lib.ListN.{replicate}
use Rattle.jacobian.specs.Curves.{coefficients}
use Rattle.stored_form.specs.{Number.encode_numbers, Number.encode_number, Head.head_bytes, Head.encode_field}
use Rattle.stored_form.specs.{Fields.degree_field, Fields.count_field, Fields.released_field, Fields.drawing_field, Classes.curve_field, Classes.encode_row, Classes.class_field}

pub degree_in_numbers : degree_field 61 ≡ 0x40 ∷ 0 ∷ 1 ∷ 61 ∷ []
unfolding degree_field encode_field head_bytes encode_number
degree_in_numbers = refl

pub count_in_numbers : count_field 1023 ≡ 0x42 ∷ 0 ∷ 2 ∷ 3 ∷ 255 ∷ []
unfolding count_field encode_field head_bytes encode_number
count_in_numbers = refl

pub released_in_numbers : released_field 1023 ≡ 0x45 ∷ 0 ∷ 2 ∷ 3 ∷ 255 ∷ []
unfolding released_field encode_field head_bytes encode_number
released_in_numbers = refl

pub drawing_in_numbers : drawing_field (0x41 ∷ 0x31 ∷ []) ≡ 0x46 ∷ 0 ∷ 2 ∷ 0x41 ∷ 0x31 ∷ []
unfolding drawing_field encode_field head_bytes encode_number
drawing_in_numbers = refl

pub curve_in_numbers : curve_field (record { degree = 61; f3 = 1; f1 = 2; f0 = 3 })
    ≡ 0x41 ∷ 0 ∷ 24 ∷ (replicate 7 0 ++ 1 ∷ (replicate 7 0 ++ 2 ∷ (replicate 7 0 ++ 3 ∷ [])))
unfolding curve_field encode_field head_bytes encode_number encode_numbers coefficients
curve_in_numbers = refl

pub class_in_numbers : class_field 0x43 (record { degree = 2; u = 1 ∷ 2 ∷ 0 ∷ []; v = 3 ∷ 4 ∷ 0 ∷ [] })
    ≡ 0x43 ∷ 0 ∷ 32 ∷ (replicate 7 0 ++ 2 ∷ (replicate 7 0 ++ 1 ∷ (replicate 7 0 ++ 4 ∷ (replicate 7 0 ++ 3 ∷ []))))
unfolding class_field encode_field head_bytes encode_number encode_numbers encode_row
class_in_numbers = refl
