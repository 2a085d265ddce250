-- The lines of the report: the part that may be empty, and the length of each line.
-- `seal_short`, `first_short`, `refusal_line_short`: each line fits the row of a line.
use Prim.Native.Nat.{ℕ, ◌+◌, ◌≤◌}
use mathlib.Core.Path.{◌≡◌, refl}
use mathlib.Core.List.{List, [], ◌∷◌, ◌++◌}
use native.Mathlib.Omega.{arith}
use lib.ListN.{length, length-append}
use Rattle.jacobian.specs.declared.Class.{Class}
use Rattle.stored_form.specs.Head.{drawing_limit}
use Rattle.text.specs.{Line.line_room, Text.decimal, Text.class_text, Text.refusal_text}
use Rattle.text.proofs.Lengths.{decimal_short, class_short, refusal_short}
use Rattle.walk_report.specs.Lines.{line, part_text, first_line, refusal_line}

pub part_none : (xs : List ℕ) → length xs ≡ 0 → part_text xs ≡ []
unfolding part_text
part_none [] e = refl
part_none (x ∷ xs) e = absurd (omega (arith, e))

pub part_some : (xs : List ℕ) → (length xs ≡ 0 → ⊥) → part_text xs ≡ 0x20 ∷ xs
unfolding part_text
part_some [] h = absurd (h refl)
part_some (x ∷ xs) h = refl

part_short : (xs : List ℕ) → length (part_text xs) ≤ 1 + length xs
unfolding part_text
part_short [] = omega arith
part_short (x ∷ xs) = omega arith

pub seal_short : (k mark : ℕ) (seal : Class) → length (line k mark seal) ≤ line_room
unfolding line
seal_short k mark seal =
    let class : List ℕ = class_text seal.degree seal.u seal.v seal.degree in
    let rest : List ℕ = 0x20 ∷ mark ∷ 0x20 ∷ class in
    omega (arith, length-append (decimal k ++ rest) (0x0A ∷ []), length-append (decimal k) rest, decimal_short k, class_short seal.degree seal.u seal.v seal.degree)

pub first_short : (n : ℕ) (name : List ℕ) → length name ≤ drawing_limit → length (first_line n name) ≤ line_room
unfolding first_line
first_short n name h = omega (arith, h, length-append (decimal n ++ part_text name) (0x0A ∷ []), length-append (decimal n) (part_text name), decimal_short n, part_short name)

pub refusal_line_short : (n : ℕ) → length (refusal_line n) ≤ line_room
unfolding refusal_line
refusal_line_short n = omega (arith, length-append (refusal_text n) (0x0A ∷ []), refusal_short n)
