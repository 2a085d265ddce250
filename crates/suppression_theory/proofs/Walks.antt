-- The seals of two walks back over n accepted operations, as they are and with operation k suppressed.
-- `older_part`, `older_seals`: after more than n - k undone operations both walks meet the same seals.
-- `newer_seals`: after i, at most n - k, the suppressed walk meets the other's seal minus n - k - i doublings of
-- operation k.
use Prim.Native.Nat.{ℕ, zero, suc, ◌-◌, ◌+◌, ◌≤◌, ◌<◌}
use mathlib.Core.Path.{◌≡◌, sym, ◌∙◌, ap, ap₂}
use mathlib.Core.List.{List, reverse}
use native.Mathlib.{Omega.arith, Nat.zero-add, Nat.suc-add}
use lib.{ListN.length, ListN.take, ListN.drop, ListN.get_or, ListN.length-set, ListN.length-reverse}
use lib.Seq.{length-take-le, get_or-take, get_or-drop, take-set-le, take-set-lt, drop-set-lt}
use Rattle.lists.specs.{Lists.All, Walk.walk}
use Rattle.lists.proofs.Lists.{all_at, all_take, all_reverse}
use Rattle.class_group.specs.Multiples.{repeat}
use Rattle.class_group.proofs.{Doublings.doublings_opposite, Displacement.start_displacement}
use Rattle.jacobian.specs.{Answer.Accepts, Answer.neutral_class, Group.sum_of, Group.opposite_of, Group.double_of, Group.difference, Group.doublings}
use Rattle.jacobian.specs.declared.{Curve.Curve, Class.Class}
use Rattle.jacobian.proofs.{Representation.accepts_curve, Group.doubling, Group.difference_accepts, Group.doublings_accept}
use Rattle.history.specs.{Register.undo_seal, Calls.walk_back}
use Rattle.history.proofs.{Seals.walk_is_only, Steps.walk_at}
use Rattle.suppression_theory.specs.Suppression.{operation_of, suppressed_operations, suppressed_seal}
use Rattle.suppression_theory.proofs.{Lists.walk_drop, Suppression.in_group, Suppression.place_earliest}

repeat_add : {X : Type 0} (step : X → X) (m n : ℕ) (a : X) → repeat step (m + n) a ≡ repeat step m (repeat step n a)
unfolding repeat
repeat_add step zero n a = ap (λ i. repeat step i a) (zero-add n)
repeat_add step (suc m) n a = ap (λ i. repeat step i a) (suc-add m n) ∙ ap step (repeat_add step m n a)

module _ {c : Curve} {s t : Class} {l : List Class} (hs : Accepts c s) (ht : Accepts c t) (hl : All (Accepts c) l) where
  -- n steps back from a seal minus n doublings of t is n steps back from that seal, minus t
  back_displaced : walk_back c (difference c s (doublings c (length l) t)) l ≡ difference c (walk_back c s l) t
  back_displaced =
      let G = doubling c (accepts_curve hs) in
      let start = walk_is_only hs hl in
      let oldest = all_reverse hl in
      sym
      ((walk_is_only (difference_accepts c hs (doublings_accept c ht (length l))) hl).only (difference c (walk_back c s l) t) (difference_accepts c start.accepts ht)
      (in_group (difference_accepts c start.accepts ht) oldest
      ∙ start_displacement G start.accepts (G.group.opposite_closed ht) oldest
      ∙ ap₂ (sum_of c) (sym (in_group start.accepts oldest) ∙ start.holds)
      (doublings_opposite G (length (reverse l)) ht ∙ ap (λ n. opposite_of c (doublings c n t)) (length-reverse l))))

module _ {c : Curve} {seal : Class} {ops : List Class} (hs : Accepts c seal) (ho : All (Accepts c) ops) (k : ℕ) (low : 1 ≤ k) (high : k ≤ length ops) where
  pub older_part : drop (suc (length ops - k)) (walk (undo_seal c) (suppressed_seal c k seal ops) (suppressed_operations k ops))
      ≡ drop (suc (length ops - k)) (walk (undo_seal c) seal ops)
  unfolding suppressed_operations suppressed_seal operation_of walk_back
  older_part =
      let p = length ops - k in
      let h : p < length ops = omega arith in
      let e : get_or (take (suc p) ops) p neutral_class ≡ get_or ops p neutral_class = get_or-take (suc p) ops p neutral_class (omega arith) in
      walk_drop (undo_seal c) (suppressed_seal c k seal ops) (suppressed_operations k ops) (suc p) (omega (arith, length-set ops p neutral_class))
      ∙ ap₂ (walk (undo_seal c))
      (ap₂ (λ a l. walk_back c (difference c seal (doublings c p a)) l) (sym e) (take-set-lt (suc p) ops p neutral_class (omega arith))
      ∙ place_earliest hs (all_take (suc p) ho) p (omega (arith, length-take-le (suc p) ops h)))
      (drop-set-lt (suc p) ops p neutral_class (omega arith))
      ∙ sym (walk_drop (undo_seal c) seal ops (suc p) h)

  pub older_seals : (i : ℕ) (x : Class) → length ops - k < i
      → get_or (walk (undo_seal c) (suppressed_seal c k seal ops) (suppressed_operations k ops)) i x ≡ get_or (walk (undo_seal c) seal ops) i x
  older_seals i x h =
      from_part (walk (undo_seal c) (suppressed_seal c k seal ops) (suppressed_operations k ops))
      ∙ ap (λ l. get_or l (i - suc (length ops - k)) x) older_part
      ∙ sym (from_part (walk (undo_seal c) seal ops))
    where
      from_part : (l : List Class) → get_or l i x ≡ get_or (drop (suc (length ops - k)) l) (i - suc (length ops - k)) x
      from_part l =
          let e : i ≡ suc (length ops - k) + (i - suc (length ops - k)) = omega arith in
          ap (λ n. get_or l n x) e ∙ sym (get_or-drop (suc (length ops - k)) l (i - suc (length ops - k)) x)

  pub newer_seals : (i : ℕ) (x : Class) → i ≤ length ops - k
      → get_or (walk (undo_seal c) (suppressed_seal c k seal ops) (suppressed_operations k ops)) i x
      ≡ difference c (get_or (walk (undo_seal c) seal ops) i x) (doublings c (length ops - k - i) (operation_of k ops))
  unfolding suppressed_operations suppressed_seal operation_of walk_back
  newer_seals i x h =
      let p = length ops - k in
      let a = get_or ops p neutral_class in
      let moved = doublings c (p - i) a in
      let few : length (take i ops) ≡ i = length-take-le i ops (omega arith) in
      let e : p ≡ length (take i ops) + (p - i) = omega arith in
      sym (walk_at (undo_seal c) (suppressed_seal c k seal ops) (suppressed_operations k ops) i x (omega (arith, length-set ops p neutral_class)))
      ∙ ap₂ (λ n l. walk_back c (difference c seal n) l) (ap (λ n. doublings c n a) e ∙ repeat_add (double_of c) (length (take i ops)) (p - i) a) (take-set-le i ops p neutral_class h)
      ∙ back_displaced hs (doublings_accept c (all_at p neutral_class (omega arith) ho) (p - i)) (all_take i ho)
      ∙ ap (λ z. difference c z moved) (walk_at (undo_seal c) seal ops i x (omega arith))
