-- Consequences of the laws of a commutative group. `simp (sums, G)` sorts sums of members.
-- `add_subtract`, `subtract_add`: adding and subtracting undo each other.
-- `cancel_right`, `cancel_left`: one summand and the sum determine the other summand.
-- `eq_of_difference`: elements whose difference is neutral are equal.
-- `opposite_unique`: the opposite is unique. `opposite_neutral`, `opposite_sum`: that of the neutral element, of a sum.
-- `interchange`: the middle terms of a sum of two sums may be exchanged.
-- `doubling_injective`: doubling is injective where only the neutral element doubles to the neutral one.
-- `map_neutral`, `map_opposite`: a map that keeps sums keeps the neutral element and opposites.
use mathlib.Core.Path.{◌≡◌, sym, ◌∙◌, ap, ap₂}
use Rattle.class_group.specs.Group.{CommutativeGroup}

module _ {X : Type 0} {Member : X → Type 0} {◌⊞◌ : X → X → X} {neutral : X} {minus : X → X} (G : CommutativeGroup Member ◌⊞◌ neutral minus) where
  infixl 60 ◌⊞◌
  pub ⊞_member : {a b : X} → Member a → Member b → Member (a ⊞ b)
  ⊞_member h k = G.sum_closed h k

  pub ⊞_assoc : {a b c : X} → Member a → Member b → Member c → a ⊞ b ⊞ c ≡ a ⊞ (b ⊞ c)
  ⊞_assoc h k l = G.assoc h k l

  pub ⊞_comm : {a b : X} → Member a → Member b → a ⊞ b ≡ b ⊞ a
  ⊞_comm h k = G.comm h k

  pub ⊞_left_comm : {a b c : X} → Member a → Member b → Member c → a ⊞ (b ⊞ c) ≡ b ⊞ (a ⊞ c)
  ⊞_left_comm {a} {b} {c} h k l = sym (G.assoc h k l) ∙ ap (λ z. z ⊞ c) (G.comm h k) ∙ G.assoc k h l

pub ruleset sums = (⊞_member, ⊞_assoc, ⊞_comm, ⊞_left_comm)

module _ {X : Type 0} {Member : X → Type 0} {◌⊞◌ : X → X → X} {neutral : X} {minus : X → X} (G : CommutativeGroup Member ◌⊞◌ neutral minus) where
  infixl 60 ◌⊞◌
  pub add_subtract : {a b : X} → Member a → Member b → a ⊞ b ⊞ minus b ≡ a
  add_subtract {a} {b} h k = G.assoc h k (G.opposite_closed k) ∙ ap (λ z. a ⊞ z) (G.sum_opposite k) ∙ G.sum_neutral h

  pub subtract_add : {a b : X} → Member a → Member b → a ⊞ minus b ⊞ b ≡ a
  subtract_add {a} {b} h k = let m = G.opposite_closed k in G.assoc h m k ∙ ap (λ z. a ⊞ z) (G.comm m k ∙ G.sum_opposite k) ∙ G.sum_neutral h

  pub neutral_sum : {a : X} → Member a → neutral ⊞ a ≡ a
  neutral_sum h = G.comm G.neutral_closed h ∙ G.sum_neutral h

  pub cancel_right : {a b c : X} → Member a → Member b → Member c → a ⊞ c ≡ b ⊞ c → a ≡ b
  cancel_right {c = c} h k l e = sym (add_subtract h l) ∙ ap (λ z. z ⊞ minus c) e ∙ add_subtract k l

  pub cancel_left : {a b c : X} → Member a → Member b → Member c → c ⊞ a ≡ c ⊞ b → a ≡ b
  cancel_left h k l e = cancel_right h k l (G.comm h l ∙ e ∙ G.comm l k)

  pub eq_of_difference : {a b : X} → Member a → Member b → a ⊞ minus b ≡ neutral → a ≡ b
  eq_of_difference h k e = cancel_right h k (G.opposite_closed k) (e ∙ sym (G.sum_opposite k))

  pub opposite_unique : {a b : X} → Member a → Member b → a ⊞ b ≡ neutral → a ≡ minus b
  opposite_unique {a} {b} h k e = cancel_right h (G.opposite_closed k) k (e ∙ sym (G.sum_opposite k) ∙ G.comm k (G.opposite_closed k))

  pub opposite_neutral : minus neutral ≡ neutral
  opposite_neutral = sym (opposite_unique G.neutral_closed G.neutral_closed (G.sum_neutral G.neutral_closed))

  pub interchange : {a b c d : X} → Member a → Member b → Member c → Member d → a ⊞ b ⊞ (c ⊞ d) ≡ a ⊞ c ⊞ (b ⊞ d)
  interchange h k l m = simp (sums, G)

  pub opposite_sum : {a b : X} → Member a → Member b → minus (a ⊞ b) ≡ minus a ⊞ minus b
  opposite_sum {a} {b} h k =
      let m = G.opposite_closed h in
      let n = G.opposite_closed k in
      sym
      (opposite_unique (G.sum_closed m n) (G.sum_closed h k)
      (G.comm (G.sum_closed m n) (G.sum_closed h k)
      ∙ interchange h k m n
      ∙ ap₂ ◌⊞◌ (G.sum_opposite h) (G.sum_opposite k)
      ∙ G.sum_neutral G.neutral_closed))

  pub doubling_injective : ((a : X) → Member a → a ⊞ a ≡ neutral → a ≡ neutral) → {a b : X} → Member a → Member b → a ⊞ a ≡ b ⊞ b → a ≡ b
  doubling_injective torsion {a} {b} h k e =
      let m = G.opposite_closed k in
      eq_of_difference h k
      (torsion (a ⊞ minus b) (G.sum_closed h m)
      (interchange h m h m ∙ ap₂ ◌⊞◌ e (sym (opposite_sum k k)) ∙ G.sum_opposite (G.sum_closed k k)))

module _ {X Y : Type 0} (Member : X → Type 0) (◌⊞◌ : X → X → X) (Member' : Y → Type 0) (◌⊞'◌ : Y → Y → Y) where
  infixl 60 ◌⊞◌
  infixl 60 ◌⊞'◌
  -- h takes members to members and sums to sums
  pub record GroupMap (h : X → Y) : Type 0 where
    pub map_closed : {a : X} → Member a → Member' (h a)
    pub map_sum : {a b : X} → Member a → Member b → h (a ⊞ b) ≡ h a ⊞' h b

module _ {X Y : Type 0} {Member : X → Type 0} {◌⊞◌ : X → X → X} {neutral : X} {minus : X → X} (G : CommutativeGroup Member ◌⊞◌ neutral minus)
    {Member' : Y → Type 0} {◌⊞'◌ : Y → Y → Y} {neutral' : Y} {minus' : Y → Y} (H : CommutativeGroup Member' ◌⊞'◌ neutral' minus')
    {h : X → Y} (m : GroupMap Member ◌⊞◌ Member' ◌⊞'◌ h)
  where
    pub map_neutral : h neutral ≡ neutral'
    map_neutral =
        let n = G.neutral_closed in
        let k = m.map_closed n in
        cancel_right H k H.neutral_closed k (sym (m.map_sum n n) ∙ ap h (G.sum_neutral n) ∙ sym (neutral_sum H k))

    pub map_opposite : {a : X} → Member a → h (minus a) ≡ minus' (h a)
    map_opposite {a} k =
        let l = G.opposite_closed k in
        opposite_unique H (m.map_closed l) (m.map_closed k) (sym (m.map_sum l k) ∙ ap h (G.comm l k ∙ G.sum_opposite k) ∙ map_neutral)
