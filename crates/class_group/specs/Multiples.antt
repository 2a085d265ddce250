-- n-fold sums, repeated doublings and halvings, and the walk by double and add.
use Rattle.std.specs.Prelude.{ℕ, zero, suc, List, [], ◌∷◌, length}
use Rattle.lists.specs.Walk.{foldl}

-- a function applied k times, as k doublings or k halvings
unfoldable pub repeat : {X : Type 0} → (X → X) → ℕ → X → X
repeat step zero a = a
repeat step (suc k) a = step (repeat step k a)

module _ {X : Type 0} (◌⊞◌ : X → X → X) (neutral : X) where
  infixl 60 ◌⊞◌
  -- n a, the sum of n terms a
  unfoldable pub multiple : ℕ → X → X
  multiple zero a = neutral
  multiple (suc n) a = a ⊞ multiple n a

module _ {X : Type 0} (◌⊞◌ : X → X → X) (neutral : X) (double : X → X) where
  infixl 60 ◌⊞◌
  -- 2^(n-1) D1 + 2^(n-2) D2 + .. + Dn, for the list D1, .., Dn
  unfoldable pub weighted_sum : List X → X
  weighted_sum [] = neutral
  weighted_sum (d ∷ l) = repeat double (length l) d ⊞ weighted_sum l

module _ {X : Type 0} (◌⊞◌ : X → X → X) (double : X → X) where
  infixl 60 ◌⊞◌
  -- the end of the walk from s by double and add
  abbrev pub forward : X → List X → X
  forward s l = foldl (λ s d. double s ⊞ d) s l
