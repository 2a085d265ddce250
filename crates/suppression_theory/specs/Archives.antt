-- An archive with operation k suppressed, and whether operation k is held (docs/SPECIFICATION.md, 9).
use Rattle.std.specs.Prelude.{ℕ, ◌<◌, ◌≡◌, Bool, false, not, ◌&&◌, ◌||◌, List, [], ◌∷◌, eqb, length, get_or}
use Rattle.jacobian.specs.{Answer.neutral_class, declared.Class.Class}
use Rattle.stored_form.specs.Pairs.{later, earlier}
use Rattle.archive.specs.Archive.{Archive, neutral}
use Rattle.suppression_theory.specs.Suppression.{operation_of, suppressed_operations, suppressed_seal}

-- the archive with operation k neutral and the seal that follows from that; all else is as it was
unfoldable pub suppressed : ℕ → Archive → Archive
suppressed k a = record {
  curve = a.curve;
  drawing = a.drawing;
  seal = suppressed_seal a.curve k a.seal a.operations;
  operations = suppressed_operations k a.operations;
  pairs = a.pairs;
}

-- whether a pair holds operation k: its earlier operation is k, and its later one is not neutral
unfoldable pub holds : ℕ → List Class → ℕ → Bool
holds k ops p = eqb (earlier p) k && not (neutral (operation_of (later p) ops))

-- whether one of these pairs holds operation k
unfoldable pub held_by : ℕ → List Class → List ℕ → Bool
held_by k ops [] = false
held_by k ops (p ∷ ps) = holds k ops p || held_by k ops ps

-- operation k of an archive is held: it is the earlier of some pair whose later operation is not the neutral class
pub record Held (k : ℕ) (a : Archive) : Type 0 where
  pub place : ℕ
  pub inside : place < length a.pairs
  pub pairs_it : earlier (get_or a.pairs place 0) ≡ k
  pub not_neutral : ¬ (operation_of (later (get_or a.pairs place 0)) a.operations ≡ neutral_class)

-- whether operation k of an archive is held
unfoldable pub held : ℕ → Archive → Bool
held k a = held_by k a.operations a.pairs
