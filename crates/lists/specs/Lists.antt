-- A predicate of each element of a list, and two lists that differ at one position.
use Rattle.std.specs.Prelude.{ℕ, suc, ◌≡◌, List, [], ◌∷◌, ◌++◌, length}

-- every element of the list satisfies `Member`
pub data All {X : Type 0} (Member : X → Type 0) : List X → Type 0 where
  none : All Member []
  more : {a : X} {l : List X} → Member a → All Member l → All Member (a ∷ l)

-- l has d at position k, counted from 1; m has e there, and is the same as l at all other positions
pub record ChangedAt {X : Type 0} (k : ℕ) (d e : X) (l m : List X) : Type 0 where
  pub before : List X
  pub behind : List X
  pub place : k ≡ suc (length before)
  pub was : l ≡ before ++ (d ∷ behind)
  pub is : m ≡ before ++ (e ∷ behind)
