-- k doublings and k halvings in a commutative group.
-- `double_multiple`: the double of an n-fold sum is the 2n-fold sum.
-- `doublings_multiple`: k doublings are the 2^k-fold sum.
-- `doublings_sum`: k doublings of a sum are the sum of k doublings of each term.
-- `doublings_opposite`: k doublings of the opposite are the opposite of k doublings.
-- `doublings_neutral`: k doublings of the neutral element are the neutral element.
-- `doublings_injective`: k doublings are injective.
-- `half_double`: halving undoes doubling.
-- `halvings_doublings`: k halvings undo k doublings.
-- `doublings_halvings`: k doublings undo k halvings.
-- `repeat_inner`: a function applied once and then k times is the same as k times and then once.
-- `repeat_member`: a function that maps members to members does so if it is applied k times.
-- `repeat_map`: a map that commutes with a step commutes with k applications of it.
-- `repeat_back`: a function that undoes another at each step undoes k applications of it in k applications.
-- `map_double`, `map_half`: a map that keeps sums keeps doubles and halves.
use Prim.Native.Nat.{ℕ, zero, suc, ◌+◌, ◌*◌, ◌^◌}
use mathlib.Core.Path.{◌≡◌, refl, sym, ◌∙◌, ap, ap₂}
use native.Mathlib.{Omega.arith, Nat.pow-suc}
use Rattle.class_group.specs.Group.{CommutativeGroup, Doubling, Halving}
use Rattle.class_group.specs.Multiples.{repeat, multiple}
use Rattle.class_group.proofs.GroupLaws.{GroupMap}
use Rattle.class_group.proofs.Multiples.{multiple_member, multiple_one, multiple_add, multiple_sum, multiple_opposite, multiple_neutral}

pub repeat_inner : {X : Type 0} (step : X → X) (k : ℕ) (a : X) → repeat step k (step a) ≡ step (repeat step k a)
unfolding repeat
repeat_inner step zero a = refl
repeat_inner step (suc k) a = ap step (repeat_inner step k a)

module _ {X : Type 0} (step : X → X) {Member : X → Type 0} (closed : (a : X) → Member a → Member (step a)) where
  pub repeat_member : (k : ℕ) {a : X} → Member a → Member (repeat step k a)
  unfolding repeat
  repeat_member zero h = h
  repeat_member (suc k) {a} h = closed (repeat step k a) (repeat_member k h)

  pub repeat_map : {Y : Type 0} (step' : Y → Y) (h : X → Y) → ((a : X) → Member a → h (step a) ≡ step' (h a)) → (k : ℕ) {a : X} → Member a → h (repeat step k a) ≡ repeat step' k (h a)
  unfolding repeat
  repeat_map step' h commutes zero m = refl
  repeat_map step' h commutes (suc k) {a} m = commutes (repeat step k a) (repeat_member k m) ∙ ap step' (repeat_map step' h commutes k m)

  pub repeat_back : (back : X → X) → ((a : X) → Member a → back (step a) ≡ a) → (k : ℕ) {a : X} → Member a → repeat back k (repeat step k a) ≡ a
  unfolding repeat
  repeat_back back undo zero h = refl
  repeat_back back undo (suc k) {a} h =
      sym (repeat_inner back k (step (repeat step k a))) ∙ ap (repeat back k) (undo (repeat step k a) (repeat_member k h)) ∙ repeat_back back undo k h

module _ {X : Type 0} {Member : X → Type 0} {◌⊞◌ : X → X → X} {neutral : X} {minus double : X → X} (D : Doubling Member ◌⊞◌ neutral minus double) where
  infixl 60 ◌⊞◌
  abbrev G : CommutativeGroup Member ◌⊞◌ neutral minus
  G = D.group

  abbrev times : ℕ → X → X
  times n a = multiple ◌⊞◌ neutral n a

  pub double_member : {a : X} → Member a → Member (double a)
  double_member h = rw (D.double_sum h) (G.sum_closed h h)

  pub double_multiple : (n : ℕ) {a : X} → Member a → double (times n a) ≡ times (n + n) a
  double_multiple n h = D.double_sum (multiple_member G n h) ∙ sym (multiple_add G n n h)

  pub doublings_member : (k : ℕ) {a : X} → Member a → Member (repeat double k a)
  doublings_member = repeat_member double (λ a h. double_member h)

  pub doublings_multiple : (k : ℕ) {a : X} → Member a → repeat double k a ≡ times (2 ^ k) a
  unfolding repeat
  doublings_multiple zero h = sym (multiple_one G h)
  doublings_multiple (suc k) {a} h =
      ap double (doublings_multiple k h)
      ∙ double_multiple (2 ^ k) h
      ∙ ap (λ n. times n a) (let e : 2 ^ suc k ≡ 2 ^ k * 2 = pow-suc 2 k in let f : 2 ^ k + 2 ^ k ≡ 2 ^ suc k = omega arith in f)

  pub doublings_sum : (k : ℕ) {a b : X} → Member a → Member b → repeat double k (a ⊞ b) ≡ repeat double k a ⊞ repeat double k b
  doublings_sum k h m =
      doublings_multiple k (G.sum_closed h m) ∙ multiple_sum G (2 ^ k) h m ∙ ap₂ ◌⊞◌ (sym (doublings_multiple k h)) (sym (doublings_multiple k m))

  pub doublings_opposite : (k : ℕ) {a : X} → Member a → repeat double k (minus a) ≡ minus (repeat double k a)
  doublings_opposite k h =
      doublings_multiple k (G.opposite_closed h) ∙ multiple_opposite G (2 ^ k) h ∙ ap minus (sym (doublings_multiple k h))

  pub doublings_neutral : (k : ℕ) → repeat double k neutral ≡ neutral
  doublings_neutral k = doublings_multiple k G.neutral_closed ∙ multiple_neutral G (2 ^ k)

  pub doublings_injective : (k : ℕ) {a b : X} → Member a → Member b → repeat double k a ≡ repeat double k b → a ≡ b
  unfolding repeat
  doublings_injective zero h m e = e
  doublings_injective (suc k) h m e = doublings_injective k h m (D.double_injective (doublings_member k h) (doublings_member k m) e)

module _ {X : Type 0} {Member : X → Type 0} {◌⊞◌ : X → X → X} {neutral : X} {minus double half : X → X} (H : Halving Member ◌⊞◌ neutral minus double half) where
  pub half_double : {a : X} → Member a → half (double a) ≡ a
  half_double h =
      let d = double_member H.doubling h in
      H.doubling.double_injective (H.half_closed d) h (H.double_half d)

  pub halvings_member : (k : ℕ) {a : X} → Member a → Member (repeat half k a)
  halvings_member = repeat_member half (λ a h. H.half_closed h)

  pub halvings_doublings : (k : ℕ) {a : X} → Member a → repeat half k (repeat double k a) ≡ a
  halvings_doublings = repeat_back double (λ a h. double_member H.doubling h) half (λ a h. half_double h)

  pub doublings_halvings : (k : ℕ) {a : X} → Member a → repeat double k (repeat half k a) ≡ a
  doublings_halvings = repeat_back half (λ a h. H.half_closed h) double (λ a h. H.double_half h)

module _ {X Y : Type 0} {Member : X → Type 0} {◌⊞◌ : X → X → X} {neutral : X} {minus double half : X → X} (G : Halving Member ◌⊞◌ neutral minus double half)
    {Member' : Y → Type 0} {◌⊞'◌ : Y → Y → Y} {neutral' : Y} {minus' double' half' : Y → Y} (H : Halving Member' ◌⊞'◌ neutral' minus' double' half')
    {h : X → Y} (m : GroupMap Member ◌⊞◌ Member' ◌⊞'◌ h)
  where
    pub map_double : {a : X} → Member a → h (double a) ≡ double' (h a)
    map_double k = ap h (G.doubling.double_sum k) ∙ m.map_sum k k ∙ sym (H.doubling.double_sum (m.map_closed k))

    pub map_half : {a : X} → Member a → h (half a) ≡ half' (h a)
    map_half k =
        let l = G.half_closed k in
        let n = m.map_closed k in
        H.doubling.double_injective (m.map_closed l) (H.half_closed n) (sym (map_double l) ∙ ap h (G.double_half k) ∙ sym (H.double_half n))
