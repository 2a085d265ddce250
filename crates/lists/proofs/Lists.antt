-- Lists whose elements all satisfy a predicate, and two lists that differ at one position.
-- `every`: a predicate of all elements of a type holds of every list.
-- `all_map`: a predicate of all values of f holds of every list that f is mapped over.
-- `all_of`: a predicate that holds at every index holds of the list.
-- `all_reverse`: a reversed list keeps the predicate.
-- `all_append`: two lists with the predicate, one after the other, have it.
-- `all_take`: the first k elements keep it.
-- `all_drop`: so do the elements after the first k.
-- `all_head`: the first element and the rest have it.
-- `all_split`: both parts of a joined list have it.
-- `all_at`: the element at an index below the length has it.
-- `changed_members`: both elements at the position where two lists differ have it.
use Prim.Native.Nat.{ℕ, zero, suc, ◌<◌}
use mathlib.Core.Path.{subst}
use mathlib.Core.List.{List, [], ◌∷◌, ◌++◌, map, reverse, reverse_aux}
use lib.ListN.{length, take, drop, get_or}
use native.Mathlib.Omega.{arith}
use Rattle.lists.specs.Lists.{All, none, more, ChangedAt}

pub every : {X : Type 0} {P : X → Type 0} → ((x : X) → P x) → (l : List X) → All P l
every h [] = none
every h (x ∷ l) = more (h x) (every h l)

pub all_map : {X Y : Type 0} {P : Y → Type 0} (f : X → Y) → ((x : X) → P (f x)) → (l : List X) → All P (map f l)
all_map f h [] = none
all_map f h (x ∷ l) = more (h x) (all_map f h l)

pub all_of : {X : Type 0} {P : X → Type 0} (l : List X) (x : X) → ((i : ℕ) → P (get_or l i x)) → All P l
all_of [] x h = none
all_of (a ∷ l) x h = more (h 0) (all_of l x (λ i. h (suc i)))

module _ {X : Type 0} {Member : X → Type 0} where
  all_onto : {l m : List X} → All Member l → All Member m → All Member (reverse_aux l m)
  all_onto none k = k
  all_onto (more h r) k = all_onto r (more h k)

  pub all_reverse : {l : List X} → All Member l → All Member (reverse l)
  all_reverse h = all_onto h none

  pub all_append : {l m : List X} → All Member l → All Member m → All Member (l ++ m)
  all_append none k = k
  all_append (more h r) k = more h (all_append r k)

  pub all_take : (k : ℕ) {l : List X} → All Member l → All Member (take k l)
  all_take zero h = none
  all_take (suc k) none = none
  all_take (suc k) (more h r) = more h (all_take k r)

  pub all_drop : (k : ℕ) {l : List X} → All Member l → All Member (drop k l)
  all_drop zero h = h
  all_drop (suc k) none = none
  all_drop (suc k) (more h r) = all_drop k r

  pub all_head : {a : X} {l : List X} → All Member (a ∷ l) → Member a × All Member l
  all_head (more h r) = (h, r)

  pub all_split : (l : List X) {m : List X} → All Member (l ++ m) → All Member l × All Member m
  all_split [] h = (none, h)
  all_split (a ∷ l) (more h r) = let p = all_split l r in (more h p.0, p.1)

  pub all_at : (k : ℕ) {l : List X} (x : X) → k < length l → All Member l → Member (get_or l k x)
  all_at k x l none = absurd (omega arith)
  all_at zero x l (more h r) = h
  all_at (suc k) x l (more h r) = all_at k x (omega arith) r

  pub changed_members : {k : ℕ} {d e : X} {l m : List X} → ChangedAt k d e l m → All Member l → All Member m → Member d × Member e
  changed_members at h r =
      ((all_head (all_split at.before (subst (All Member) at.was h)).1).0, (all_head (all_split at.before (subst (All Member) at.is r)).1).0)
