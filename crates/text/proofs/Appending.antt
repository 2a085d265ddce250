-- Laws of appending to a line.
-- `none`: appending nothing leaves the line.
-- `both`: appending one text after another appends both.
-- `laid`: a text appended to the empty line, where it has room, is the line of that text.
-- `line_bytes`: the bytes of the line of a text are the text.
use Prim.Native.Nat.{ℕ, suc, ◌+◌, ◌-◌, ◌≤◌, ◌<◌}
use mathlib.Core.Path.{◌≡◌, refl, sym, ap, ◌∙◌}
use mathlib.Core.List.{List, [], ◌∷◌, ◌++◌, append_assoc, append-nil}
use native.Mathlib.Omega.{arith}
use lib.ListN.{length, set, take, replicate, length-append, length-replicate}
use Rattle.std.proofs.lemmas.List.{take-append-le, take_all}
use borrow.Author.Tests.{lt-ltb}
use Rattle.text.specs.{Line.line_room, Line.in_line, Line.with_byte, Line.with_bytes, declared.Line.Line}

pub none : (l : Line) → with_bytes l [] ≡ l
unfolding with_bytes
none l = refl

pub both : (xs ys : List ℕ) (l : Line) → with_bytes (with_bytes l xs) ys ≡ with_bytes l (xs ++ ys)
unfolding with_bytes
both [] ys l = refl
both (x ∷ xs) ys l = both xs ys (with_byte l x)

-- ---- an empty line

set_behind : (ys : List ℕ) (k b : ℕ) → set (ys ++ replicate (suc k) 0) (length ys) b ≡ (ys ++ b ∷ []) ++ replicate k 0
set_behind [] k b = refl
set_behind (y ∷ ys) k b = ap (λ (l : List ℕ). y ∷ l) (set_behind ys k b)

one_laid : (ys : List ℕ) (b : ℕ) → length ys < line_room → with_byte (in_line ys) b ≡ in_line (ys ++ b ∷ [])
unfolding with_byte in_line
one_laid ys b h =
    let len : length (ys ++ b ∷ []) ≡ length ys + 1 = length-append ys (b ∷ []) in
    let left : line_room - length ys ≡ suc (line_room - (length ys + 1)) = omega arith in
    let room : length (ys ++ replicate (line_room - length ys) 0) ≡ line_room = omega (arith, length-append ys (replicate (line_room - length ys) 0), length-replicate {A = ℕ} (line_room - length ys) 0) in
    rw (room, lt-ltb (length ys) line_room h, len, left) (ap (λ (l : List ℕ). record { len = length ys + 1; bytes = l }) (set_behind ys (line_room - (length ys + 1)) b))

behind_laid : (ys xs : List ℕ) → length ys + length xs ≤ line_room → with_bytes (in_line ys) xs ≡ in_line (ys ++ xs)
unfolding with_bytes
behind_laid ys [] h = ap in_line (sym (append-nil ys))
behind_laid ys (b ∷ xs) h =
    ap (λ (l : Line). with_bytes l xs) (one_laid ys b (omega arith))
    ∙ behind_laid (ys ++ b ∷ []) xs (omega (arith, length-append ys (b ∷ [])))
    ∙ ap in_line (append_assoc ys (b ∷ []) xs)

pub laid : (xs : List ℕ) → length xs ≤ line_room → with_bytes (in_line []) xs ≡ in_line xs
laid xs h = behind_laid [] xs (omega arith)

pub line_bytes : (xs : List ℕ) → take (in_line xs).len (in_line xs).bytes ≡ xs
unfolding in_line
line_bytes xs = take-append-le (length xs) xs (replicate (line_room - length xs) 0) (omega arith) ∙ take_all (length xs) xs (omega arith)
