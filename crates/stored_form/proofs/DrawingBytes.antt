-- The bytes of a drawing number.
-- `name_decoded`: the name of a decoded drawing number is the bytes that it was decoded from.
-- `drawing_decoded`: the drawing number that the code makes of a body.
-- `printable_all`: bytes are printable where each of them is.
use Prim.Native.Nat.{ℕ}
use mathlib.Core.Path.{◌≡◌, refl, ap₂}
use mathlib.Core.Bool.{Bool, ◌&&◌}
use mathlib.Core.List.{List, ◌++◌}
use lib.Dec.{leb}
use lib.ListN.{length, drop, replicate}
use lib.Seq.{take-append_seam}
use Rattle.std.specs.List.{list_all}
use Rattle.std.proofs.lemmas.List.{drop-replicate}
use Rattle.std.proofs.lemmas.List.Recursion.{same_from_clauses}
use Rattle.stored_form.specs.{Head.drawing_limit, Fields.printable, Record.decode_drawing, Record.drawing_name}
use Rattle.stored_form.specs.declared.Drawing.{Drawing}

pub name_decoded : (xs : List ℕ) → drawing_name (decode_drawing xs) ≡ xs
unfolding drawing_name decode_drawing
name_decoded xs = take-append_seam xs _

-- the bytes of a body, put at the start of a row of zeros
pub drawing_decoded : (xs : List ℕ) {ys : List ℕ} → ys ≡ xs →
    ◌≡◌ {A = Drawing} (record { len = length xs; bytes = ys ++ drop (length xs) (replicate drawing_limit 0) }) (decode_drawing xs)
unfolding decode_drawing
drawing_decoded xs e = ap₂ (λ (l z : List ℕ). record { len = length xs; bytes = l ++ z }) e (drop-replicate (length xs) drawing_limit 0)

-- whether a byte lies in 0x20 to 0x7E
abbrev pub printable_byte : ℕ → Bool
printable_byte b = leb 0x20 b && leb b 0x7E

pub printable_all : (xs : List ℕ) → list_all printable_byte xs ≡ printable xs
unfolding printable
printable_all = same_from_clauses (list_all printable_byte) printable (λ b rest. printable_byte b && rest) refl (λ _ _. refl) (λ _ _. refl)
