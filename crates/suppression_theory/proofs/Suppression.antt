-- Suppressing operation k of n accepted operations that lead to an accepted last seal.
-- `suppressed_count`: there are as many suppressed operations as operations.
-- `suppressed_neutral`: operation k of them is neutral. `suppressed_others`: each other operation is as it was.
-- `suppressed_accept`, `suppressed_seal_accepts`: the suppressed operations and the suppressed seal are accepted.
-- `suppressed_times`: the suppressed seal is the last seal minus 2^(n - k) times operation k, a sum of so many terms.
-- `suppressed_forward`: a walk forward over the suppressed operations leads from the earliest to the suppressed seal.
-- `suppressed_earliest`: a walk back over them leads from the suppressed seal to the same earliest seal.
-- `suppressed_only`: it does so from no other accepted seal.
-- `neutral_unchanged_operations`, `neutral_unchanged_seal`: suppressing a neutral operation changes nothing.
-- `suppressed_twice_operations`, `suppressed_twice_seal`: nor does suppressing an operation again.
-- `either_order_operations`, `either_order_seal`: two operations may be suppressed in either order.
-- `in_group`: a walk forward is a walk by double and add in the group.
-- `place_earliest`: `suppressed_earliest` for an operation by its place in the stored list.
use Prim.Native.Nat.{ℕ, suc, ◌-◌, ◌^◌, ◌≤◌, ◌<◌}
use mathlib.Core.Path.{◌≡◌, sym, ◌∙◌, ap, ap₂}
use mathlib.Core.List.{List, reverse}
use native.Mathlib.{Decide.ℕ_discrete, Omega.arith}
use lib.{ListN.length, ListN.get_or, ListN.set, ListN.length-set, ListN.length-reverse, Seq.get_or-set_same, Seq.get_or-set_other, Seq.set-get_or, Seq.set-set, Seq.set_comm}
use Rattle.lists.specs.Lists.{All}
use Rattle.lists.proofs.{Lists.all_at, Lists.all_reverse, Walk.foldl_agrees}
use Rattle.class_group.specs.Multiples.{multiple, forward}
use Rattle.class_group.proofs.{GroupLaws.opposite_neutral, Doublings.doublings_neutral, Displacement.suppression}
use Rattle.jacobian.specs.{Answer.Accepts, Answer.neutral_class, Group.sum_of, Group.double_of, Group.difference, Group.doublings}
use Rattle.jacobian.specs.declared.{Curve.Curve, Class.Class}
use Rattle.jacobian.proofs.{Representation.accepts_curve, Calls.neutral_accepts, Group.doubling, Group.difference_accepts, Group.doublings_accept, Group.doublings_sum}
use Rattle.history.specs.{Register.commit_seal, Calls.walk_forward, Calls.walk_back}
use Rattle.history.proofs.Seals.{commit_sound, commit_sum, walk_is_only}
use Rattle.suppression_theory.specs.Suppression.{operation_of, suppressed_operations, suppressed_seal}
use Rattle.suppression_theory.proofs.Lists.{all_set, get_d_reverse, set_reverse}

-- ---- the operations
pub suppressed_count : (k : ℕ) (ops : List Class) → length (suppressed_operations k ops) ≡ length ops
unfolding suppressed_operations
suppressed_count k ops = length-set ops (length ops - k) neutral_class

pub suppressed_neutral : (k : ℕ) (ops : List Class) → 1 ≤ k → k ≤ length ops → operation_of k (suppressed_operations k ops) ≡ neutral_class
unfolding operation_of suppressed_operations
suppressed_neutral k ops low high =
    ap (λ n. get_or (suppressed_operations k ops) (n - k) neutral_class) (suppressed_count k ops)
    ∙ get_or-set_same ops (length ops - k) neutral_class neutral_class (omega arith)

pub suppressed_others : (j k : ℕ) (ops : List Class) → j ≤ length ops → k ≤ length ops → ¬ (j ≡ k) → operation_of j (suppressed_operations k ops) ≡ operation_of j ops
unfolding operation_of suppressed_operations
suppressed_others j k ops hj hk other =
    ap (λ n. get_or (suppressed_operations k ops) (n - j) neutral_class) (suppressed_count k ops)
    ∙ get_or-set_other ops (length ops - k) (length ops - j) neutral_class neutral_class (omega arith)

pub neutral_unchanged_operations : (k : ℕ) (ops : List Class) → operation_of k ops ≡ neutral_class → suppressed_operations k ops ≡ ops
unfolding operation_of suppressed_operations
neutral_unchanged_operations k ops e = ap (set ops (length ops - k)) (sym e) ∙ set-get_or ops (length ops - k) neutral_class

pub suppressed_twice_operations : (k : ℕ) (ops : List Class) → suppressed_operations k (suppressed_operations k ops) ≡ suppressed_operations k ops
unfolding suppressed_operations
suppressed_twice_operations k ops =
    ap (λ n. set (suppressed_operations k ops) (n - k) neutral_class) (suppressed_count k ops)
    ∙ set-set ops (length ops - k) neutral_class neutral_class

pub either_order_operations : (j k : ℕ) (ops : List Class)
    → suppressed_operations j (suppressed_operations k ops) ≡ suppressed_operations k (suppressed_operations j ops)
unfolding suppressed_operations
either_order_operations j k ops =
    ap (λ n. set (suppressed_operations k ops) (n - j) neutral_class) (suppressed_count k ops)
    ∙ go (ℕ_discrete (length ops - k) (length ops - j))
    ∙ sym (ap (λ n. set (suppressed_operations j ops) (n - k) neutral_class) (suppressed_count j ops))
  where
    go : Dec (length ops - k ≡ length ops - j)
        → set (set ops (length ops - k) neutral_class) (length ops - j) neutral_class ≡ set (set ops (length ops - j) neutral_class) (length ops - k) neutral_class
    go (yes e) = ap₂ (λ p q. set (set ops p neutral_class) q neutral_class) e (sym e)
    go (no n) = set_comm ops (length ops - k) (length ops - j) neutral_class neutral_class n

-- ---- an operation by its place in the stored list
neutral_at : {c : Curve} {s : Class} {l : List Class} → Accepts c s → All (Accepts c) l → (p : ℕ) → All (Accepts c) (set l p neutral_class)
neutral_at {c} hs hl p = all_set p neutral_class (neutral_accepts c (accepts_curve hs)) hl

module _ {c : Curve} {s : Class} {l : List Class} (hs : Accepts c s) (hl : All (Accepts c) l) where
  -- the commit's rule is double and add in the group
  pub in_group : walk_forward c s l ≡ forward (sum_of c) (double_of c) s l
  in_group = foldl_agrees (commit_seal c) (λ a b ha hb. commit_sound ha hb) (λ a b. sum_of c (double_of c a) b) (λ a b ha hb. commit_sum ha hb) hs hl

module _ {c : Curve} {seal : Class} {ops : List Class} (hs : Accepts c seal) (ho : All (Accepts c) ops) (p : ℕ) (h : p < length ops) where
  place_forward : walk_forward c (walk_back c seal ops) (reverse (set ops p neutral_class)) ≡ difference c seal (doublings c p (get_or ops p neutral_class))
  place_forward =
      let q = length ops - suc p in
      let earliest = walk_is_only hs ho in
      let start = earliest.accepts in
      let oldest = all_reverse ho in
      let behind : length (reverse ops) - suc q ≡ p = omega (arith, length-reverse ops) in
      ap (walk_forward c (walk_back c seal ops)) (set_reverse ops p h neutral_class)
      ∙ in_group start (neutral_at hs oldest q)
      ∙ suppression (doubling c (accepts_curve hs)) q (omega (arith, length-reverse ops)) start oldest
      ∙ ap (λ z. difference c z (doublings c (length (reverse ops) - suc q) (get_or (reverse ops) q neutral_class))) (sym (in_group start oldest) ∙ earliest.holds)
      ∙ ap₂ (λ n a. difference c seal (doublings c n a)) behind (get_d_reverse ops p h neutral_class)

  place_accepts : Accepts c (difference c seal (doublings c p (get_or ops p neutral_class)))
  place_accepts = difference_accepts c hs (doublings_accept c (all_at p neutral_class h ho) p)

  pub place_earliest : walk_back c (difference c seal (doublings c p (get_or ops p neutral_class))) (set ops p neutral_class) ≡ walk_back c seal ops
  place_earliest = sym ((walk_is_only place_accepts (neutral_at hs ho p)).only (walk_back c seal ops) (walk_is_only hs ho).accepts place_forward)

-- ---- an operation by its number
pub suppressed_accept : {c : Curve} {seal : Class} {ops : List Class} → Accepts c seal → All (Accepts c) ops → (k : ℕ) → All (Accepts c) (suppressed_operations k ops)
unfolding suppressed_operations
suppressed_accept {ops = ops} hs ho k = neutral_at hs ho (length ops - k)

pub neutral_unchanged_seal : {c : Curve} {seal : Class} → Accepts c seal → (k : ℕ) (ops : List Class) → operation_of k ops ≡ neutral_class → suppressed_seal c k seal ops ≡ seal
unfolding suppressed_seal
neutral_unchanged_seal {c} {seal} hs k ops e =
    let G = doubling c (accepts_curve hs) in
    ap (λ a. difference c seal (doublings c (length ops - k) a)) e
    ∙ ap (difference c seal) (doublings_neutral G (length ops - k))
    ∙ ap (sum_of c seal) (opposite_neutral G.group)
    ∙ G.group.sum_neutral hs

module _ {c : Curve} {seal : Class} {ops : List Class} (hs : Accepts c seal) (ho : All (Accepts c) ops) (k : ℕ) (low : 1 ≤ k) (high : k ≤ length ops) where
  place : length ops - k < length ops
  place = omega arith

  pub suppressed_seal_accepts : Accepts c (suppressed_seal c k seal ops)
  unfolding suppressed_seal operation_of
  suppressed_seal_accepts = place_accepts hs ho (length ops - k) place

  pub suppressed_times : suppressed_seal c k seal ops ≡ difference c seal (multiple (sum_of c) neutral_class (2 ^ (length ops - k)) (operation_of k ops))
  unfolding suppressed_seal operation_of
  suppressed_times = ap (difference c seal) (doublings_sum c (all_at (length ops - k) neutral_class place ho) (length ops - k))

  pub suppressed_forward : walk_forward c (walk_back c seal ops) (reverse (suppressed_operations k ops)) ≡ suppressed_seal c k seal ops
  unfolding suppressed_operations suppressed_seal operation_of
  suppressed_forward = place_forward hs ho (length ops - k) place

  pub suppressed_earliest : walk_back c (suppressed_seal c k seal ops) (suppressed_operations k ops) ≡ walk_back c seal ops
  unfolding suppressed_operations suppressed_seal operation_of
  suppressed_earliest = place_earliest hs ho (length ops - k) place

  pub suppressed_only : (t : Class) → Accepts c t → walk_back c t (suppressed_operations k ops) ≡ walk_back c seal ops → t ≡ suppressed_seal c k seal ops
  suppressed_only t ht e =
      sym (walk_is_only ht (suppressed_accept hs ho k)).holds ∙ ap (λ z. walk_forward c z (reverse (suppressed_operations k ops))) e ∙ suppressed_forward

  pub suppressed_twice_seal : suppressed_seal c k (suppressed_seal c k seal ops) (suppressed_operations k ops) ≡ suppressed_seal c k seal ops
  suppressed_twice_seal = neutral_unchanged_seal suppressed_seal_accepts k (suppressed_operations k ops) (suppressed_neutral k ops low high)

-- ---- two operations
module _ {c : Curve} {seal : Class} {ops : List Class} (hs : Accepts c seal) (ho : All (Accepts c) ops) where
  -- the walk forward from the one earliest seal ends in the seal without k and then without j
  both_forward : (j k : ℕ) → 1 ≤ j → j ≤ length ops → 1 ≤ k → k ≤ length ops
      → walk_forward c (walk_back c seal ops) (reverse (suppressed_operations j (suppressed_operations k ops)))
      ≡ suppressed_seal c j (suppressed_seal c k seal ops) (suppressed_operations k ops)
  both_forward j k lowj highj lowk highk =
      ap (λ s. walk_forward c s (reverse (suppressed_operations j (suppressed_operations k ops)))) (sym (suppressed_earliest hs ho k lowk highk))
      ∙ suppressed_forward (suppressed_seal_accepts hs ho k lowk highk) (suppressed_accept hs ho k) j lowj (omega (arith, suppressed_count k ops))

  pub either_order_seal : (j k : ℕ) → 1 ≤ j → j ≤ length ops → 1 ≤ k → k ≤ length ops
      → suppressed_seal c j (suppressed_seal c k seal ops) (suppressed_operations k ops) ≡ suppressed_seal c k (suppressed_seal c j seal ops) (suppressed_operations j ops)
  either_order_seal j k lowj highj lowk highk =
      sym (both_forward j k lowj highj lowk highk)
      ∙ ap (λ l. walk_forward c (walk_back c seal ops) (reverse l)) (either_order_operations j k ops)
      ∙ both_forward k j lowk highk lowj highj
