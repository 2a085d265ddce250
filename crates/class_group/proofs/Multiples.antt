-- n-fold sums in a commutative group.
-- `multiple_zero`: 0 times an element is the neutral element.
-- `multiple_one`: once an element is the element.
-- `multiple_member`: n times a member is a member.
-- `multiple_add`: (m + n) times an element is m times plus n times it.
-- `multiple_mul`: m n times an element is m times n times it.
-- `multiple_sum`: n times a sum is the sum of n times each term.
-- `multiple_neutral`: n times the neutral element is the neutral element.
-- `multiple_opposite`: n times the opposite is the opposite of n times the element.
-- `map_multiple`: a map that keeps sums takes n times an element to n times its image.
use Prim.Native.Nat.{ℕ, zero, suc, ◌+◌, ◌*◌}
use mathlib.Core.Path.{◌≡◌, refl, sym, ◌∙◌, ap}
use native.Mathlib.Nat.{zero-add, suc-add, zero-mul, suc-mul}
use Rattle.class_group.specs.Group.{CommutativeGroup}
use Rattle.class_group.specs.Multiples.{multiple}
use Rattle.class_group.proofs.GroupLaws.{neutral_sum, interchange, opposite_sum, opposite_neutral, GroupMap, map_neutral}

module _ {X : Type 0} {Member : X → Type 0} {◌⊞◌ : X → X → X} {neutral : X} {minus : X → X} (G : CommutativeGroup Member ◌⊞◌ neutral minus) where
  infixl 60 ◌⊞◌
  abbrev times : ℕ → X → X
  times n a = multiple ◌⊞◌ neutral n a

  pub multiple_zero : (a : X) → times 0 a ≡ neutral
  unfolding multiple
  multiple_zero a = refl

  pub multiple_one : {a : X} → Member a → times 1 a ≡ a
  unfolding multiple
  multiple_one h = G.sum_neutral h

  pub multiple_member : (n : ℕ) {a : X} → Member a → Member (times n a)
  unfolding multiple
  multiple_member zero h = G.neutral_closed
  multiple_member (suc n) h = G.sum_closed h (multiple_member n h)

  pub multiple_add : (m n : ℕ) {a : X} → Member a → times (m + n) a ≡ times m a ⊞ times n a
  unfolding multiple
  multiple_add zero n {a} h = ap (λ k. times k a) (zero-add n) ∙ sym (neutral_sum G (multiple_member n h))
  multiple_add (suc m) n {a} h =
      ap (λ k. times k a) (suc-add m n)
      ∙ ap (λ z. a ⊞ z) (multiple_add m n h)
      ∙ sym (G.assoc h (multiple_member m h) (multiple_member n h))

  pub multiple_mul : (m n : ℕ) {a : X} → Member a → times (m * n) a ≡ times m (times n a)
  unfolding multiple
  multiple_mul zero n {a} h = ap (λ k. times k a) (zero-mul n)
  multiple_mul (suc m) n {a} h =
      let k = multiple_member n h in
      ap (λ k. times k a) (suc-mul m n)
      ∙ multiple_add (m * n) n h
      ∙ ap (λ z. z ⊞ times n a) (multiple_mul m n h)
      ∙ G.comm (multiple_member m k) k

  pub multiple_sum : (n : ℕ) {a b : X} → Member a → Member b → times n (a ⊞ b) ≡ times n a ⊞ times n b
  unfolding multiple
  multiple_sum zero h k = sym (G.sum_neutral G.neutral_closed)
  multiple_sum (suc n) {a} {b} h k =
      ap (λ z. a ⊞ b ⊞ z) (multiple_sum n h k) ∙ interchange G h k (multiple_member n h) (multiple_member n k)

  pub multiple_neutral : (n : ℕ) → times n neutral ≡ neutral
  unfolding multiple
  multiple_neutral zero = refl
  multiple_neutral (suc n) = ap (λ z. neutral ⊞ z) (multiple_neutral n) ∙ G.sum_neutral G.neutral_closed

  pub multiple_opposite : (n : ℕ) {a : X} → Member a → times n (minus a) ≡ minus (times n a)
  unfolding multiple
  multiple_opposite zero h = sym (opposite_neutral G)
  multiple_opposite (suc n) {a} h = ap (λ z. minus a ⊞ z) (multiple_opposite n h) ∙ sym (opposite_sum G h (multiple_member n h))

module _ {X Y : Type 0} {Member : X → Type 0} {◌⊞◌ : X → X → X} {neutral : X} {minus : X → X} (G : CommutativeGroup Member ◌⊞◌ neutral minus)
    {Member' : Y → Type 0} {◌⊞'◌ : Y → Y → Y} {neutral' : Y} {minus' : Y → Y} (H : CommutativeGroup Member' ◌⊞'◌ neutral' minus')
    {h : X → Y} (m : GroupMap Member ◌⊞◌ Member' ◌⊞'◌ h)
  where
    infixl 60 ◌⊞'◌
    pub map_multiple : (n : ℕ) {a : X} → Member a → h (multiple ◌⊞◌ neutral n a) ≡ multiple ◌⊞'◌ neutral' n (h a)
    unfolding multiple
    map_multiple zero k = map_neutral G H m
    map_multiple (suc n) {a} k = m.map_sum k (multiple_member G n k) ∙ ap (λ z. h a ⊞' z) (map_multiple n k)
