-- Lists with an element set, reversed lists, and a walk from a place on.
-- `all_set`: a list keeps a predicate if an element that has it is set.
-- `get_d_reverse`: the element at place p stands in the reversed list of n elements at place n - p - 1.
-- `set_reverse`: the same of an element that is set at place p.
-- `changed_set`: if of n elements only the k-th from the end changes, from d to e, e is set at place n - k.
-- `changed_was`: d stands there before.
-- `walk_drop`: the states of a walk from place n on are those of a walk from the end of the first n steps.
use Prim.Native.Nat.{ℕ, zero, suc, ◌-◌, ◌≤◌, ◌<◌}
use mathlib.Core.Path.{◌≡◌, refl, sym, ◌∙◌, ap}
use mathlib.Core.List.{List, [], ◌∷◌, ◌++◌, reverse, reverse_aux-append, reverse_aux-eq, reverse-reverse}
use native.Mathlib.Omega.{arith}
use lib.ListN.{length, take, drop, get_or, set, length-append, length-drop, length-reverse}
use lib.Seq.{split_at, set_split, set_at, get_or_at}
use Rattle.lists.specs.{Lists.All, Lists.none, Lists.more, Lists.ChangedAt, Walk.foldl, Walk.walk}

pub all_set : {X : Type 0} {Member : X → Type 0} {l : List X} (p : ℕ) (a : X) → Member a → All Member l → All Member (set l p a)
all_set p a m none = none
all_set zero a m (more h r) = more m r
all_set (suc p) a m (more h r) = more h (all_set p a m r)

reverse_around : {X : Type 0} (l m : List X) (a : X) → reverse (l ++ (a ∷ m)) ≡ reverse m ++ (a ∷ reverse l)
reverse_around l m a = reverse_aux-append l (a ∷ m) [] ∙ reverse_aux-eq m (a ∷ reverse l)

-- ---- a place of a reversed list
module _ {X : Type 0} (l : List X) (p : ℕ) (h : p < length l) where
  reversed : (x : X) → reverse l ≡ reverse (drop (suc p) l) ++ (get_or l p x ∷ reverse (take p l))
  reversed x = ap reverse (split_at l p x h) ∙ reverse_around (take p l) (drop (suc p) l) (get_or l p x)

  before_place : length (reverse (drop (suc p) l)) ≡ length l - suc p
  before_place = length-reverse (drop (suc p) l) ∙ length-drop (suc p) l

  pub get_d_reverse : (x : X) → get_or (reverse l) (length l - suc p) x ≡ get_or l p x
  get_d_reverse x =
      ap (λ m. get_or m (length l - suc p) x) (reversed x)
      ∙ get_or_at (reverse (drop (suc p) l)) (get_or l p x) (reverse (take p l)) x (length l - suc p) before_place

  pub set_reverse : (a : X) → reverse (set l p a) ≡ set (reverse l) (length l - suc p) a
  set_reverse a =
      ap reverse (set_split l p a h)
      ∙ reverse_around (take p l) (drop (suc p) l) a
      ∙ sym
      (ap (λ m. set m (length l - suc p) a) (reversed a)
      ∙ set_at (reverse (drop (suc p) l)) (get_or l p a) (reverse (take p l)) a (length l - suc p) before_place)

-- ---- one changed element, counted from the end
module _ {X : Type 0} {k : ℕ} {d e : X} (l m : List X) (at : ChangedAt k d e (reverse l) (reverse m)) where
  stored : (x : X) (y : List X) → reverse y ≡ at.before ++ (x ∷ at.behind) → y ≡ reverse at.behind ++ (x ∷ reverse at.before)
  stored x y same = sym (reverse-reverse y) ∙ ap reverse same ∙ reverse_around at.before at.behind x

  after_place : length (reverse at.behind) ≡ length l - k
  after_place =
      let n : length (reverse l) ≡ length (at.before ++ (d ∷ at.behind)) = ap length at.was in
      omega (arith, n, length-append at.before (d ∷ at.behind), at.place, length-reverse l, length-reverse at.behind)

  pub changed_set : m ≡ set l (length l - k) e
  changed_set =
      stored e m at.is
      ∙ sym (ap (λ y. set y (length l - k) e) (stored d l at.was) ∙ set_at (reverse at.behind) d (reverse at.before) e (length l - k) after_place)

  pub changed_was : (x : X) → get_or l (length l - k) x ≡ d
  changed_was x =
      ap (λ y. get_or y (length l - k) x) (stored d l at.was) ∙ get_or_at (reverse at.behind) d (reverse at.before) x (length l - k) after_place

-- ---- walks
pub walk_drop : {X Y : Type 0} (rule : X → Y → X) (s : X) (l : List Y) (n : ℕ) → n ≤ length l
    → drop n (walk rule s l) ≡ walk rule (foldl rule s (take n l)) (drop n l)
unfolding foldl walk
walk_drop rule s l zero h = refl
walk_drop rule s [] (suc n) h = absurd (omega arith)
walk_drop rule s (c ∷ l) (suc n) h = walk_drop rule (rule s c) l n (omega arith)
