-- What the rules of pairs require, and the checks of their field in order (docs/SPECIFICATION.md, 5, 6 and 9).
use Rattle.std.specs.Prelude.{ℕ, suc, ◌+◌, ◌%◌, ◌≤◌, ◌<◌}
use mathlib.Core.{Path.◌≡◌, Bool.cond, List.List, List.[], List.◌∷◌, List.◌++◌, Logic.◌⊎◌}
use lib.{Dec.leb, ListN.length, ListN.get_or}
use Rattle.lists.specs.Lists.{All}
use Rattle.jacobian.specs.Checks.{Check, check}
use Rattle.stored_form.specs.{Number.part, Head.body_length, Pairs.later, Pairs.earlier, Pairs.decode_pairs}
use Rattle.stored_form_theorems.specs.Checking.{after_field, head_checks}

-- n is the length of 1 to 2,048 pairs
abbrev pub PairsLength : ℕ → Type 0
PairsLength n = (0 < n) × ((n ≤ 8192) × (n % 4 ≡ 0))

-- a pair that names two of n operations
pub record PairWithin (n p : ℕ) : Type 0 where
  pub earlier_some : 1 ≤ earlier p
  pub earlier_below : earlier p < later p
  pub later_within : later p ≤ n

-- a pair comes before another: by its later number, then by its earlier one
abbrev pub Before : ℕ → ℕ → Type 0
Before p q = (later p < later q) ⊎ ((later p ≡ later q) × (earlier p < earlier q))

-- pairs that break no rule in an archive with n operations: each is within n and comes before the next
pub record PairsAllowed (n : ℕ) (ps : List ℕ) : Type 0 where
  pub within : All (PairWithin n) ps
  pub ascending : (i : ℕ) → suc i < length ps → Before (get_or ps i 0) (get_or ps (suc i) 0)

-- ---- the checks of the pairs at an offset, of an archive with n operations

-- the pairs that stand there; none if no byte is left
abbrev pub pairs_said : List ℕ → ℕ → List ℕ
pairs_said s at = cond (leb (length s) at) [] (decode_pairs (part s (at + 3) (body_length s at)))

-- the offset after them
abbrev pub after_pairs : List ℕ → ℕ → ℕ
after_pairs s at = cond (leb (length s) at) at (after_field s at)

-- their checks: none if no byte is left, else that the field begins there, those of its head, and the rules of pairs
abbrev pub pairs_checks : ℕ → List ℕ → ℕ → List Check
pairs_checks n s at =
    cond (leb (length s) at) []
    (check 112 (get_or s at 0 ≡ 0x48) ∷ (head_checks 0x48 PairsLength s at ++ check 122 (PairsAllowed n (pairs_said s at)) ∷ []))
