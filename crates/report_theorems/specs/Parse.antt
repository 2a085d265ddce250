-- What the lines of the report say, parsed from their bytes (docs/SPECIFICATION.md, 10).
use Rattle.std.specs.Prelude.{ℕ, zero, suc, ◌≡◌, cond, List, [], ◌∷◌, ◌++◌, eqb, get_or, drop}
use Rattle.lists.specs.Lists.{All}
use Rattle.jacobian.specs.declared.Class.{Class}
use Rattle.stored_form.specs.Classes.{decode_row}
use Rattle.report_theorems.specs.Numerals.{parse_digits}

-- the bytes before the first b; all bytes if there is none
unfoldable pub before : ℕ → List ℕ → List ℕ
before b [] = []
before b (x ∷ l) = cond (eqb x b) [] (x ∷ before b l)

-- the bytes after the first b; none if there is none
unfoldable pub after : ℕ → List ℕ → List ℕ
after b [] = []
after b (x ∷ l) = cond (eqb x b) l (after b l)

-- n hexadecimal numbers with commas between
unfoldable pub parse_numbers : ℕ → List ℕ → List ℕ
parse_numbers zero l = []
parse_numbers (suc n) l = parse_digits 16 (before 0x2C l) ∷ parse_numbers n (after 0x2C l)

-- a class: its degree, and u and v in stored order, with colons between
unfoldable pub parse_class : List ℕ → Class
parse_class l =
    let n = parse_digits 10 (before 0x3A l) in
    let rows = after 0x3A l in
    record { degree = n; u = decode_row (parse_numbers n (before 0x3A rows)); v = decode_row (parse_numbers n (after 0x3A rows)) }

-- what the line of a seal says
pub record SealLine : Type 0 where
  pub undone : ℕ
  pub letter : ℕ
  pub seal : Class

-- the line of a seal: a number, a blank, a letter, a blank, a class and 0x0A
unfoldable pub parse_seal_line : List ℕ → SealLine
parse_seal_line l =
    let rest = after 0x20 l in
    record { undone = parse_digits 10 (before 0x20 l); letter = get_or rest 0 0; seal = parse_class (before 0x0A (drop 2 rest)) }

-- what the first line says
pub record FirstLine : Type 0 where
  pub count : ℕ
  pub drawing : List ℕ

-- the first line: five bytes, a number, then nothing or a blank and the drawing number, and 0x0A
unfoldable pub parse_first_line : List ℕ → FirstLine
parse_first_line l =
    let rest = before 0x0A (drop 5 l) in
    record { count = parse_digits 10 (before 0x20 rest); drawing = after 0x20 rest }

-- the line of a refusal: eight bytes, a number and 0x0A
unfoldable pub parse_refusal_line : List ℕ → ℕ
parse_refusal_line l = parse_digits 10 (before 0x0A (drop 8 l))

-- no byte of the text is b
abbrev pub Without : ℕ → List ℕ → Type 0
Without b l = All (λ x. ¬ (x ≡ b)) l

-- a line ends in 0x0A and has no other
pub record WholeLine (l : List ℕ) : Type 0 where
  pub text : List ℕ
  pub ends : l ≡ text ++ 0x0A ∷ []
  pub no_other : Without 0x0A text
