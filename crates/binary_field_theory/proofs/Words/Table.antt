-- Constant tables: the rule of a table is proved for all entries by one computed test.
-- `each_entry`: if the test passes, every entry is the value of f at its index.
-- `by_test`: the table of spread bytes.
use mathlib.Core.{Path.◌≡◌, Path.ap, Path.sym, Path.◌∙◌, List.List, List.[], List.◌∷◌}
use Prim.Native.Nat.{ℕ, zero, suc, ◌+◌, ◌<◌}
use native.Mathlib.Nat.{add-zero, zero-add, add-suc, suc-add, le_of_suc-le-suc, not-suc-le-zero}
use lib.{Dec.T, Dec.eqb, Dec.eqb→eq, ListN.length, ListN.get_or}
use Rattle.binary_field_theory.specs.{Carryless.spread, Spreading.every, Spreading.Spreads}
use Rattle.binary_field_theory.proofs.Linear.{both}

from : (f : ℕ → ℕ) (xs : List ℕ) (i : ℕ) → T (every f i xs) → (k : ℕ) → k < length xs → get_or xs k 0 ≡ f (i + k)
unfolding every
from f [] i t k h = absurd (not-suc-le-zero h)
from f (x ∷ xs) i t zero h = eqb→eq x (f i) (both (eqb x (f i)) (every f (suc i) xs) t).0 ∙ ap f (sym (add-zero i))
from f (x ∷ xs) i t (suc k) h =
    from f xs (suc i) (both (eqb x (f i)) (every f (suc i) xs) t).1 k (le_of_suc-le-suc h) ∙ ap f (suc-add i k ∙ sym (add-suc i k))

pub each_entry : (f : ℕ → ℕ) (xs : List ℕ) (n : ℕ) → length xs ≡ n → T (every f 0 xs) → (i : ℕ) → i < n → get_or xs i 0 ≡ f i
each_entry f xs n e t i h = from f xs 0 t i (rw e h) ∙ ap f (zero-add i)

pub by_test : (xs : List ℕ) → length xs ≡ 256 → T (every spread 0 xs) → Spreads xs
by_test xs e t = record { entry = each_entry spread xs 256 e t }
