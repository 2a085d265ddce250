-- A line of text: a buffer of bytes with its length.
use Rattle.std.specs.Prelude.{ℕ, ◌+◌, ◌-◌, cond, List, [], ◌∷◌, ◌++◌, ltb, length, replicate, set}
use Rattle.text.specs.declared.Line.{Line}

-- the number of bytes that a line has room for
abbrev pub line_room : ℕ
line_room = 320

-- the line of these bytes, with 0 after them
unfoldable pub in_line : List ℕ → Line
in_line xs = record { len = length xs; bytes = xs ++ replicate (line_room - length xs) 0 }

-- a line with a byte appended; where it has no room, the line as it was
unfoldable pub with_byte : Line → ℕ → Line
with_byte l b = cond (ltb l.len (length l.bytes)) (record { len = l.len + 1; bytes = set l.bytes l.len b }) l

-- a line with these bytes appended, one after the other
unfoldable pub with_bytes : Line → List ℕ → Line
with_bytes l [] = l
with_bytes l (b ∷ bs) = with_bytes (with_byte l b) bs
