-- What holds of every list of three numbers.
use Prim.Native.Nat.{ℕ}
use mathlib.Core.Path.{◌≡◌}
use mathlib.Core.List.{List, [], ◌∷◌}
use native.Mathlib.Omega.{arith}
use lib.ListN.{length}

-- what holds of three numbers in a row holds of every list of length three
pub by_three : (P : List ℕ → Type 0) → ((x y z : ℕ) → P (x ∷ y ∷ z ∷ [])) → (r : List ℕ) → length r ≡ 3 → P r
by_three P h [] e = absurd (omega arith)
by_three P h (x ∷ []) e = absurd (omega arith)
by_three P h (x ∷ y ∷ []) e = absurd (omega arith)
by_three P h (x ∷ y ∷ z ∷ []) e = h x y z
by_three P h (x ∷ y ∷ z ∷ w ∷ r) e = absurd (omega arith)
