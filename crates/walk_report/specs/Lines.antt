-- The lines of the walk report (docs/SPECIFICATION.md, 10).
use Rattle.std.specs.Prelude.{ℕ, List, [], ◌∷◌, ◌++◌}
use Rattle.jacobian.specs.declared.Class.{Class}
use Rattle.text.specs.Text.{decimal, class_text, refusal_text}

-- the line of a seal: the number of operations undone so far, a letter and the seal
unfoldable pub line : ℕ → ℕ → Class → List ℕ
line k mark seal = decimal k ++ 0x20 ∷ mark ∷ 0x20 ∷ class_text seal.degree seal.u seal.v seal.degree ++ 0x0A ∷ []

-- a blank and a part of the line; nothing if the part is empty
unfoldable pub part_text : List ℕ → List ℕ
part_text [] = []
part_text (b ∷ bs) = 0x20 ∷ b ∷ bs

-- the first line: walk, the count and the drawing number
unfoldable pub first_line : ℕ → List ℕ → List ℕ
first_line n drawing = 0x77 ∷ 0x61 ∷ 0x6C ∷ 0x6B ∷ 0x20 ∷ decimal n ++ part_text drawing ++ 0x0A ∷ []

-- the line of a refusal: refused and its number
unfoldable pub refusal_line : ℕ → List ℕ
refusal_line n = refusal_text n ++ 0x0A ∷ []
