-- Walks in a commutative group by double and add, s ↦ 2 s + d, and back by subtract and halve, s ↦ half of (s - d).
-- `forward_member`: a walk from a member over members ends in a member.
-- `start_displacement`: a start moved by t moves the end of a walk over n elements by 2^n t.
-- `forward_injective`: different starts have different ends.
-- `forward_end`: the walk over d1, .., dn from s ends in 2^n s + 2^(n-1) d1 + .. + dn.
-- `displacement`: if of n elements only the k-th changes, from d to e, the end moves by n - k doublings of e - d.
-- `changed_end`: if d and e differ, so do the ends.
-- `one_doubling_more`: if d and e differ, the end does not move by n - k + 1 doublings of e - d.
-- `turned_difference`: if d and e differ, the end does not move by n - k doublings of d - e.
-- `displacement_at`: `displacement` for a list in which the element at an index, counted from 0, is set to e.
-- `suppression`: the same for an element that is set to the neutral one.
-- `reversible`: the two rules undo each other, so that the theorems of lists/proofs/Walk.antt hold of them.
use Prim.Native.Nat.{ℕ, suc, ◌-◌, ◌<◌}
use mathlib.Core.Path.{◌≡◌, refl, sym, ◌∙◌, ap, ap₂, subst}
use mathlib.Core.List.{List, ◌∷◌, ◌++◌}
use native.Mathlib.Omega.{arith}
use lib.{ListN.length, ListN.get_or, ListN.set, ListN.length-append, ListN.length-drop, Seq.set_split, Seq.split_at}
use Rattle.class_group.specs.Group.{CommutativeGroup, Doubling, Halving}
use Rattle.lists.specs.{Lists.All, Lists.none, Lists.more, Lists.ChangedAt, Walk.foldl, Walk.Reversible}
use Rattle.class_group.specs.Multiples.{repeat, weighted_sum, forward}
use Rattle.class_group.proofs.GroupLaws.{sums, add_subtract, subtract_add, neutral_sum, cancel_left, cancel_right, eq_of_difference, interchange}
use Rattle.class_group.proofs.Doublings.{double_member, half_double, repeat_inner, doublings_member, doublings_sum, doublings_opposite, doublings_neutral, doublings_injective}
use Rattle.lists.proofs.Lists.{all_take, all_drop, all_head, all_split, all_at, changed_members}
use Rattle.lists.proofs.Walk.{foldl_append, foldl_member, foldl_injective}

module _ {X : Type 0} {Member : X → Type 0} {◌⊞◌ : X → X → X} {neutral : X} {minus double : X → X} (D : Doubling Member ◌⊞◌ neutral minus double) where
  infixl 60 ◌⊞◌
  abbrev G : CommutativeGroup Member ◌⊞◌ neutral minus
  G = D.group

  abbrev walked : X → List X → X
  walked s l = forward ◌⊞◌ double s l

  forward_closed : (s d : X) → Member s → Member d → Member (double s ⊞ d)
  forward_closed s d h k = G.sum_closed (double_member D h) k

  pub forward_member : {s : X} {l : List X} → Member s → All Member l → Member (walked s l)
  forward_member = foldl_member (λ s d. double s ⊞ d) forward_closed

  moved : {s t d : X} → Member s → Member t → Member d → double (s ⊞ t) ⊞ d ≡ double s ⊞ d ⊞ double t
  moved {s} {t} {d} h k m = rw (D.double_sum (G.sum_closed h k), D.double_sum h, D.double_sum k) (simp (sums, G))

  pub start_displacement : {s t : X} {l : List X} → Member s → Member t → All Member l
      → walked (s ⊞ t) l ≡ walked s l ⊞ repeat double (length l) t
  unfolding foldl repeat
  start_displacement h k none = refl
  start_displacement {s} {t} h k (more {a = d} {l = l} m r) =
      ap (λ z. walked z l) (moved h k m)
      ∙ start_displacement {s = double s ⊞ d} {t = double t} (forward_closed s d h m) (double_member D k) r
      ∙ ap (λ z. walked (double s ⊞ d) l ⊞ z) (repeat_inner double (length l) t)

  pub forward_injective : {s t : X} {l : List X} → Member s → Member t → All Member l → walked s l ≡ walked t l → s ≡ t
  forward_injective =
      foldl_injective (λ s d. double s ⊞ d) forward_closed
      (λ s t d h k m e. D.double_injective h k (cancel_right G (double_member D h) (double_member D k) m e))

  weighted_member : {l : List X} → All Member l → Member (weighted_sum ◌⊞◌ neutral double l)
  unfolding weighted_sum
  weighted_member none = G.neutral_closed
  weighted_member (more {l = l} h r) = G.sum_closed (doublings_member D (length l) h) (weighted_member r)

  pub forward_end : {s : X} {l : List X} → Member s → All Member l → walked s l ≡ repeat double (length l) s ⊞ weighted_sum ◌⊞◌ neutral double l
  unfolding foldl repeat weighted_sum
  forward_end h none = sym (G.sum_neutral h)
  forward_end {s} h (more {a = d} {l = l} k r) =
      let n = length l in
      let w = weighted_sum ◌⊞◌ neutral double l in
      forward_end {s = double s ⊞ d} (forward_closed s d h k) r
      ∙ ap (λ z. z ⊞ w) (doublings_sum D n (double_member D h) k ∙ ap (λ z. z ⊞ repeat double n d) (repeat_inner double n s))
      ∙ G.assoc (double_member D (doublings_member D n h)) (doublings_member D n k) (weighted_member r)

  difference : {d e : X} → Member d → Member e → Member (e ⊞ minus d)
  difference hd he = G.sum_closed he (G.opposite_closed hd)

  -- d or e between l and m
  module _ {s d e : X} {l m : List X} (hs : Member s) (hl : All Member l) (hd : Member d) (he : Member e) (hm : All Member m) where
    before : Member (double (walked s l))
    before = double_member D (forward_member hs hl)

    split : (c : X) → walked s (l ++ (c ∷ m)) ≡ walked (double (walked s l) ⊞ c) m
    unfolding foldl
    split c = foldl_append (λ s d. double s ⊞ d) s l (c ∷ m)

    replaced : double (walked s l) ⊞ e ≡ double (walked s l) ⊞ d ⊞ (e ⊞ minus d)
    replaced =
        sym
        (interchange G before hd he (G.opposite_closed hd)
        ∙ ap (λ z. double (walked s l) ⊞ e ⊞ z) (G.sum_opposite hd)
        ∙ G.sum_neutral (G.sum_closed before he))

    displaced : walked s (l ++ (e ∷ m)) ≡ walked s (l ++ (d ∷ m)) ⊞ repeat double (length m) (e ⊞ minus d)
    displaced =
        split e
        ∙ ap (λ z. walked z m) replaced
        ∙ start_displacement (G.sum_closed before hd) (difference hd he) hm
        ∙ ap (λ z. z ⊞ repeat double (length m) (e ⊞ minus d)) (sym (split d))

    same_end : walked s (l ++ (d ∷ m)) ≡ walked s (l ++ (e ∷ m)) → d ≡ e
    same_end h =
        cancel_left G hd he before
        (forward_injective (G.sum_closed before hd) (G.sum_closed before he) hm (sym (split d) ∙ h ∙ split e))

  -- n doublings of e - d equal n + 1 doublings of it, or n doublings of d - e, only where d = e
  module _ {d e : X} (hd : Member d) (he : Member e) (n : ℕ) where
    doubled_again : repeat double n (e ⊞ minus d) ≡ repeat double (suc n) (e ⊞ minus d) → d ≡ e
    unfolding repeat
    doubled_again h =
        let x = doublings_member D n (difference hd he) in
        let none : neutral ≡ repeat double n (e ⊞ minus d) = cancel_left G G.neutral_closed x x (G.sum_neutral x ∙ h ∙ D.double_sum x) in
        sym (eq_of_difference G he hd (doublings_injective D n (difference hd he) G.neutral_closed (sym none ∙ sym (doublings_neutral D n))))

    turned : repeat double n (e ⊞ minus d) ≡ repeat double n (d ⊞ minus e) → d ≡ e
    turned h =
        let back = difference he hd in
        let same : e ⊞ minus d ≡ d ⊞ minus e = doublings_injective D n (difference hd he) back h in
        let twice : e ⊞ e ≡ d ⊞ d =
        ap (λ z. z ⊞ e) (sym (subtract_add G he hd) ∙ ap (λ z. z ⊞ d) same)
        ∙ swapped back hd he
        ∙ ap (λ z. z ⊞ d) (subtract_add G hd he) in
        D.double_injective hd he (D.double_sum hd ∙ sym twice ∙ sym (D.double_sum he))
      where
        swapped : {a b c : X} → Member a → Member b → Member c → a ⊞ b ⊞ c ≡ a ⊞ c ⊞ b
        swapped h k m = simp (sums, G)

  -- one of n elements changes, the k-th from d to e
  module _ {k : ℕ} {d e s : X} {l m : List X} (at : ChangedAt k d e l m) (hs : Member s) (hl : All Member l) (hm : All Member m) where
    member_d : Member d
    member_d = (changed_members at hl hm).0

    member_e : Member e
    member_e = (changed_members at hl hm).1

    around : All Member at.before × All Member (d ∷ at.behind)
    around = all_split at.before (subst (All Member) at.was hl)

    behind_is : length at.behind ≡ length l - k
    behind_is =
        let n : length l ≡ length (at.before ++ (d ∷ at.behind)) = ap length at.was in
        omega (arith, n, length-append at.before (d ∷ at.behind), at.place)

    pub displacement : forward ◌⊞◌ double s m ≡ forward ◌⊞◌ double s l ⊞ repeat double (length l - k) (e ⊞ minus d)
    displacement =
        ap (walked s) at.is
        ∙ displaced hs around.0 member_d member_e (all_head around.1).1
        ∙ ap₂ (λ x n. walked s x ⊞ repeat double n (e ⊞ minus d)) (sym at.was) behind_is

    pub changed_end : ¬ (d ≡ e) → ¬ (forward ◌⊞◌ double s l ≡ forward ◌⊞◌ double s m)
    changed_end n h =
        n (same_end hs around.0 member_d member_e (all_head around.1).1 (sym (ap (walked s) at.was) ∙ h ∙ ap (walked s) at.is))

    -- the end moves by no other element
    moved_by : (x : X) → Member x → walked s m ≡ walked s l ⊞ x → repeat double (length l - k) (e ⊞ minus d) ≡ x
    moved_by x h same =
        cancel_left G (doublings_member D (length l - k) (difference member_d member_e)) h (forward_member hs hl) (sym displacement ∙ same)

    pub one_doubling_more : ¬ (d ≡ e) → ¬ (forward ◌⊞◌ double s m ≡ forward ◌⊞◌ double s l ⊞ repeat double (suc (length l - k)) (e ⊞ minus d))
    one_doubling_more n h =
        n (doubled_again member_d member_e (length l - k)
        (moved_by _ (doublings_member D (suc (length l - k)) (difference member_d member_e)) h))

    pub turned_difference : ¬ (d ≡ e) → ¬ (forward ◌⊞◌ double s m ≡ forward ◌⊞◌ double s l ⊞ repeat double (length l - k) (d ⊞ minus e))
    turned_difference n h =
        n (turned member_d member_e (length l - k)
        (moved_by _ (doublings_member D (length l - k) (difference member_e member_d)) h))

  -- e at index k, counted from 0: as many doublings as there are elements after it
  pub displacement_at : {s e : X} {l : List X} (k : ℕ) → k < length l → Member s → Member e → All Member l
      → walked s (set l k e) ≡ walked s l ⊞ repeat double (length l - suc k) (e ⊞ minus (get_or l k neutral))
  displacement_at {s} {e} {l} k b hs he hl =
      let d = get_or l k neutral in
      ap (walked s) (set_split l k e b)
      ∙ displaced hs (all_take k hl) (all_at k neutral b hl) he (all_drop (suc k) hl)
      ∙ ap₂ (λ m n. walked s m ⊞ repeat double n (e ⊞ minus d)) (sym (split_at l k neutral b)) (length-drop (suc k) l)

  pub suppression : {s : X} {l : List X} (k : ℕ) → k < length l → Member s → All Member l
      → walked s (set l k neutral) ≡ walked s l ⊞ minus (repeat double (length l - suc k) (get_or l k neutral))
  suppression {s} {l} k b hs hl =
      let n = length l - suc k in
      let d = all_at k neutral b hl in
      displacement_at k b hs G.neutral_closed hl
      ∙ ap (λ z. walked s l ⊞ z) (ap (repeat double n) (neutral_sum G (G.opposite_closed d)) ∙ doublings_opposite D n d)

module _ {X : Type 0} {Member : X → Type 0} {◌⊞◌ : X → X → X} {neutral : X} {minus double half : X → X} (H : Halving Member ◌⊞◌ neutral minus double half) where
  infixl 60 ◌⊞◌
  pub reversible : Reversible Member Member (λ s d. double s ⊞ d) (λ s d. half (s ⊞ minus d))
  reversible =
      let D = H.doubling in
      let G = D.group in
      record {
        rule_closed = λ h k. G.sum_closed (double_member D h) k;
        back_closed = λ h k. H.half_closed (G.sum_closed h (G.opposite_closed k));
        back_rule = λ h k. ap half (add_subtract G (double_member D h) k) ∙ half_double H h;
        rule_back = λ {s} {c} h k. ap (λ z. z ⊞ c) (H.double_half (G.sum_closed h (G.opposite_closed k))) ∙ subtract_add G h k;
      }
