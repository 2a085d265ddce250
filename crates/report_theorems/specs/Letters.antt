-- What the letter of an operation's line says (docs/SPECIFICATION.md, 10.3).
use Rattle.std.specs.Prelude.{ℕ, suc, ◌<◌, ◌≡◌, List, [], ◌∷◌, length, get_or}
use Rattle.binary_field_theory.specs.Carryless.{◌⊕◌}
use Rattle.jacobian.specs.{Answer.neutral_class, Group.opposite_of, declared.Curve.Curve, declared.Class.Class}
use Rattle.archive.specs.Archive.{Archive}
use Rattle.walk_report.specs.{Lines.line, Walk.seals}
use Rattle.report_theorems.specs.Parse.{parse_seal_line}

-- operation k of an archive; the newest is operation 0
abbrev pub operation : List Class → ℕ → Class
operation ops k = get_or ops k neutral_class

-- a row of three coefficients, the lowest first, plus 1
abbrev pub plus_one : List ℕ → List ℕ
plus_one r = (get_or r 0 0 ⊕ 1) ∷ get_or r 1 0 ∷ get_or r 2 0 ∷ []

-- the class [u, v + 1]
abbrev pub opposite_class : Class → Class
opposite_class a = record { degree = a.degree; u = a.u; v = plus_one a.v }

-- operation k is the opposite of the next older one, and there is one
pub record Reverses (c : Curve) (ops : List Class) (k : ℕ) : Type 0 where
  pub kept : suc k < length ops
  pub opposite : operation ops k ≡ opposite_of c (operation ops (suc k))

-- the letter of operation k: M where it is neutral, else R where it reverses the next older one, else -
pub data Letter (c : Curve) (ops : List Class) (k : ℕ) : ℕ → Type 0 where
  neutral : operation ops k ≡ neutral_class → Letter c ops k 0x4D
  reversal : ¬ (operation ops k ≡ neutral_class) → Reverses c ops k → Letter c ops k 0x52
  other : ¬ (operation ops k ≡ neutral_class) → ¬ Reverses c ops k → Letter c ops k 0x2D

-- the line after operation k was undone: k + 1 operations, the letter of operation k, and seal k + 1 of the walk;
-- these are its bytes, and this is what they say
pub record OperationLine (x : Archive) (k : ℕ) (text : List ℕ) : Type 0 where
  pub mark : ℕ
  pub is_letter : Letter x.curve x.operations k mark
  pub is_line : text ≡ line (suc k) mark (get_or (seals x.curve x.seal x.operations) (suc k) neutral_class)
  pub says : parse_seal_line text ≡ record { undone = suc k; letter = mark; seal = get_or (seals x.curve x.seal x.operations) (suc k) neutral_class }
