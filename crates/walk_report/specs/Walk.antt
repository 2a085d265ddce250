-- The walk of an archive: its seals and the letters of its lines (docs/SPECIFICATION.md, 10).
use Rattle.std.specs.Prelude.{ℕ, Bool, false, cond, List, [], ◌∷◌}
use Rattle.lists.specs.Walk.{walk}
use Rattle.jacobian.specs.{Classes.same_class, Answer.opposite_answer, declared.Curve.Curve, declared.Class.Class}
use Rattle.history.specs.Register.{undo_seal}
unfoldable pub use Rattle.archive.specs.Archive.{neutral}

-- the walk: the last seal, then the seal before each operation, newest first, by the rule of an undo
unfoldable pub seals : Curve → Class → List Class → List Class
seals c seal ops = walk (undo_seal c) seal ops

-- whether a class is the opposite of another
unfoldable pub opposed : Curve → Class → Class → Bool
opposed c a b = same_class a (opposite_answer c b).class

-- whether there is a next older operation and this holds of it
unfoldable pub next_older : (Class → Bool) → List Class → Bool
next_older holds [] = false
next_older holds (b ∷ older) = holds b

-- M for a neutral class, else R if it is the opposite of the next older one, else -
unfoldable pub mark : Bool → Class → ℕ
mark opposes a = cond (neutral a) 0x4D (cond opposes 0x52 0x2D)

-- the letter of an operation; the older ones are given newest first
unfoldable pub letter : Curve → Class → List Class → ℕ
letter c a older = mark (next_older (opposed c a) older) a

-- the letters of operations, newest first
unfoldable pub letters : Curve → List Class → List ℕ
letters c [] = []
letters c (a ∷ older) = letter c a older ∷ letters c older
