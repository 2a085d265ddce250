-- The largest length of a text, for the trials: each has room in a line.
-- `row_short`, `hexadecimal_short`: a row, and a number in hexadecimal, are no longer than a class.
-- `either_short`: a choice of two texts has room where both have.
use Rattle.std.proofs.Common.{ℕ, ◌≤◌, ◌<◌, List, [], ◌∷◌, ◌++◌, length, Bool, true, false, cond, arith, length-append}
use Rattle.text.specs.{Line.line_room, Text.decimal, Text.hexadecimal, Text.row_text, Text.class_text}
use Rattle.text.proofs.Lengths.{class_short}

pub row_short : (n : ℕ) (r : List ℕ) → length (row_text n r) ≤ 122
unfolding class_text
row_short n r =
    let left : List ℕ = 0x3A ∷ row_text n r in
    omega (arith, class_short 0 r [] n, length-append (decimal 0 ++ left) (0x3A ∷ row_text n []), length-append (decimal 0) left)

pub hexadecimal_short : (n : ℕ) → length (hexadecimal n) ≤ 122
unfolding row_text
hexadecimal_short n = row_short 1 (n ∷ [])

pub either_short : (b : Bool) (x y : List ℕ) → length x < line_room → length y < line_room → length (cond b x y) < line_room
either_short true x y h k = h
either_short false x y h k = k
