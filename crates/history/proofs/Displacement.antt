-- How far one changed operation moves a seal (docs/SPECIFICATION.md, 11), by the laws of groups in class_group.
-- The commit rule over two lists of n accepted classes, of which only the k-th changes, from d to e:
-- `seals_displaced`: the seal plus n - k doublings of e - d is the changed seal; the sum is not refused.
-- `seals_move`: the seal changes where d and e differ.
-- `seals_not_one_more`: where they differ, n - k + 1 doublings of e - d do not lead to the changed seal.
-- `seals_not_turned`: where they differ, n - k doublings of d - e do not lead to the changed seal.
-- Two lists of calls from one first seal on one curve, refused calls included, whose accepted calls are n commits of
-- which only the k-th changes, from d to e:
-- `both_accept`: d and e are accepted.
-- `displacement`: the last seal plus n - k doublings of e - d is the changed last seal; the sum is not refused.
-- `displacement_times`: it is also the last seal plus 2^(n - k) times e - d, as a sum of so many terms.
-- `moves`: the last seal changes where d and e differ.
-- `not_one_more`: where they differ, n - k + 1 doublings of e - d do not lead to the changed last seal.
-- `not_turned`: where they differ, n - k doublings of d - e do not lead to the changed last seal.
-- Two walks back that end in one earliest seal, over classes of which only operation k of n changes, from d to e:
-- `walk_displacement`: the second walk starts from the first one's seal plus n - k doublings of e - d.
-- `walk_moves`: the two walks start from different seals where d and e differ.
use Prim.Native.Nat.{ℕ, suc, ◌-◌, ◌^◌, ◌<◌}
use mathlib.Core.Path.{◌≡◌, sym, ◌∙◌, ap, ap₂, subst}
use mathlib.Core.List.{List, ◌∷◌, ◌++◌, reverse}
use native.Mathlib.Omega.{arith}
use lib.ListN.{length, length-append, length-reverse}
use Rattle.lists.specs.{Lists.All, Lists.ChangedAt, Walk.foldl}
use Rattle.class_group.specs.{Group.Doubling, Multiples.multiple, Multiples.forward}
use Rattle.lists.proofs.{Lists.all_reverse, Lists.changed_members, Walk.foldl_agrees, Walk.foldl_state}
use Rattle.class_group.proofs.Displacement as group
use Rattle.jacobian.specs.{Answer.Accepts, Answer.result, Answer.gives, Answer.neutral_class, Answer.sum_answer}
use Rattle.jacobian.specs.Group.{sum_of, opposite_of, double_of, difference, doublings}
use Rattle.jacobian.specs.declared.{Curve.Curve, Class.Class}
use Rattle.jacobian.proofs.{Representation.accepts_curve, Representation.accepts_both, Group.class_is, Group.doubling, Group.sum_given, Group.difference_accepts, Group.doublings_accept, Group.doublings_sum}
use Rattle.history.specs.Register.{commit_seal}
use Rattle.history.specs.Calls.{Call, last, newest, classes, OnlyCommits, walk_back, operations, Variants, displaced}
use Rattle.history.specs.declared.Register.{Register}
use Rattle.history.proofs.{Seals.commit_sound, Seals.commit_sum, Seals.reversible, Seals.walk_is_only, Preserved.operations_accept, Preserved.first_passes}
use Rattle.history.proofs.{Classes.steps_all, Classes.classes_count, Classes.classes_reverse, Classes.commits_are_steps, Classes.commits_no_undos, WalkingBack.commits_end}

-- ---- the commit's rule over lists of classes
module _ {c : Curve} {k : ℕ} {d e s : Class} {l m : List Class} (at : ChangedAt k d e l m) (hs : Accepts c s) (hl : All (Accepts c) l) (hm : All (Accepts c) m) where
  abbrev end : List Class → Class
  end x = foldl (commit_seal c) s x

  G : Doubling (Accepts c) (sum_of c) neutral_class (opposite_of c) (double_of c)
  G = doubling c (accepts_curve hs)

  -- the rule is double and add in the group
  in_group : {x : List Class} → All (Accepts c) x → end x ≡ forward (sum_of c) (double_of c) s x
  in_group h = foldl_agrees (commit_seal c) (λ a b ha hb. commit_sound ha hb) (λ a b. sum_of c (double_of c a) b) (λ a b ha hb. commit_sum ha hb) hs h

  end_accepts : Accepts c (end l)
  end_accepts = foldl_state (reversible c) hs hl

  difference_accepted : Accepts c (difference c e d)
  difference_accepted = difference_accepts c (changed_members at hl hm).1 (changed_members at hl hm).0

  -- the end of the changed list, by the sum of the group
  reached : sum_of c (end l) (doublings c (length l - k) (difference c e d)) ≡ end m
  reached = ap (λ z. sum_of c z (doublings c (length l - k) (difference c e d))) (in_group hl) ∙ sym (in_group hm ∙ group.displacement G at hs hl hm)

  pub seals_displaced : displaced c (length l - k) d e (foldl (commit_seal c) s l) ≡ gives (foldl (commit_seal c) s m)
  seals_displaced = sum_given c end_accepts (doublings_accept c difference_accepted (length l - k)) ∙ ap gives reached

  pub seals_move : ¬ (d ≡ e) → ¬ (foldl (commit_seal c) s l ≡ foldl (commit_seal c) s m)
  seals_move n h = group.changed_end G at hs hl hm n (sym (in_group hl) ∙ h ∙ in_group hm)

  -- a sum with the end of the first list, by the calls, as the same sum in the group
  other_sum : {x : Class} → Accepts c x → result (sum_answer c (end l) x) ≡ gives (end m)
      → forward (sum_of c) (double_of c) s m ≡ sum_of c (forward (sum_of c) (double_of c) s l) x
  other_sum {x} h same =
      sym (in_group hm)
      ∙ sym (class_is (sym (sum_given c end_accepts h) ∙ same))
      ∙ ap (λ z. sum_of c z x) (in_group hl)

  pub seals_not_one_more : ¬ (d ≡ e) → ¬ (displaced c (suc (length l - k)) d e (foldl (commit_seal c) s l) ≡ gives (foldl (commit_seal c) s m))
  seals_not_one_more n h = group.one_doubling_more G at hs hl hm n (other_sum (doublings_accept c difference_accepted (suc (length l - k))) h)

  pub seals_not_turned : ¬ (d ≡ e) → ¬ (displaced c (length l - k) e d (foldl (commit_seal c) s l) ≡ gives (foldl (commit_seal c) s m))
  seals_not_turned n h =
      group.turned_difference G at hs hl hm n
      (other_sum (doublings_accept c (difference_accepts c (changed_members at hl hm).0 (changed_members at hl hm).1) (length l - k)) h)

-- ---- a list of calls on a register
module _ (r : Register) (cs : List Call) where
  module _ (only : OnlyCommits (newest r cs)) where
    commits_lead : (last r cs).seal ≡ foldl (commit_seal r.curve) r.seal (operations (newest r cs))
    commits_lead = commits_end r cs (commits_no_undos only)

    operation_count : length (operations (newest r cs)) ≡ length (newest r cs)
    operation_count =
        ap length (classes_reverse (newest r cs))
        ∙ length-reverse (classes (newest r cs))
        ∙ classes_count (newest r cs)
        ∙ ap length (steps_all (commits_are_steps only))

  -- where a call is accepted, the first seal and the classes are accepted
  module _ (some : 0 < length (newest r cs)) where
    first_accepts : Accepts r.curve r.seal
    first_accepts = let p = first_passes r cs some in accepts_both r.curve r.seal p.curve_passes p.seal_passes

    all_accept : All (Accepts r.curve) (operations (newest r cs))
    all_accept = operations_accept r cs (first_passes r cs some)

-- a list with a changed element is not empty, nor is the changed list
changed_some : {X : Type 0} {k : ℕ} {d e : X} {l m : List X} → ChangedAt k d e l m → (0 < length l) × (0 < length m)
changed_some {d = d} {e = e} {l = l} {m = m} at =
    let was : length l ≡ length (at.before ++ (d ∷ at.behind)) = ap length at.was in
    let is : length m ≡ length (at.before ++ (e ∷ at.behind)) = ap length at.is in
    (omega (arith, was, length-append at.before (d ∷ at.behind)), omega (arith, is, length-append at.before (e ∷ at.behind)))

module _ (r t : Register) (cs ds : List Call) {k : ℕ} {d e : Class} (v : Variants k d e r t (newest r cs) (newest t ds)) where
  some : (0 < length (newest r cs)) × (0 < length (newest t ds))
  some = let p = changed_some v.changed in (rw (operation_count r cs v.commits) at p.0, rw (operation_count t ds v.changed_commits) at p.1)

  changed_accept : All (Accepts r.curve) (operations (newest t ds))
  changed_accept = subst (λ x. All (Accepts x) (operations (newest t ds))) v.same_curve (all_accept t ds some.1)

  changed_lead : (last t ds).seal ≡ foldl (commit_seal r.curve) r.seal (operations (newest t ds))
  changed_lead =
      commits_lead t ds v.changed_commits
      ∙ ap₂ (λ x s. foldl (commit_seal x) s (operations (newest t ds))) v.same_curve v.same_seal

  -- so the opposite, the difference and the doublings of them are not refused (Group of jacobian)
  pub both_accept : Accepts r.curve d × Accepts r.curve e
  both_accept = changed_members v.changed (all_accept r cs some.0) changed_accept

  pub displacement : displaced r.curve (length (newest r cs) - k) d e (last r cs).seal ≡ gives (last t ds).seal
  displacement =
      ap₂ (λ n s. displaced r.curve (n - k) d e s) (sym (operation_count r cs v.commits)) (commits_lead r cs v.commits)
      ∙ seals_displaced v.changed (first_accepts r cs some.0) (all_accept r cs some.0) changed_accept
      ∙ ap gives (sym changed_lead)

  pub displacement_times :
      result (sum_answer r.curve (last r cs).seal (multiple (sum_of r.curve) neutral_class (2 ^ (length (newest r cs) - k)) (difference r.curve e d)))
      ≡ gives (last t ds).seal
  displacement_times =
      let apart = difference_accepts r.curve both_accept.1 both_accept.0 in
      ap (λ x. result (sum_answer r.curve (last r cs).seal x)) (sym (doublings_sum r.curve apart (length (newest r cs) - k))) ∙ displacement

  pub moves : ¬ (d ≡ e) → ¬ ((last r cs).seal ≡ (last t ds).seal)
  moves n h =
      seals_move v.changed (first_accepts r cs some.0) (all_accept r cs some.0) changed_accept n
      (sym (commits_lead r cs v.commits) ∙ h ∙ changed_lead)

  -- an equation on the last seals as one on the ends of the commit rule
  by_rule : (a b : Class) (f : ℕ → ℕ) → displaced r.curve (f (length (newest r cs) - k)) a b (last r cs).seal ≡ gives (last t ds).seal
      → displaced r.curve (f (length (operations (newest r cs)) - k)) a b (foldl (commit_seal r.curve) r.seal (operations (newest r cs)))
      ≡ gives (foldl (commit_seal r.curve) r.seal (operations (newest t ds)))
  by_rule a b f h =
      ap₂ (λ n s. displaced r.curve (f (n - k)) a b s) (operation_count r cs v.commits) (sym (commits_lead r cs v.commits)) ∙ h ∙ ap gives changed_lead

  pub not_one_more : ¬ (d ≡ e) → ¬ (displaced r.curve (suc (length (newest r cs) - k)) d e (last r cs).seal ≡ gives (last t ds).seal)
  not_one_more n h =
      seals_not_one_more v.changed (first_accepts r cs some.0) (all_accept r cs some.0) changed_accept n (by_rule d e (λ j. suc j) h)

  pub not_turned : ¬ (d ≡ e) → ¬ (displaced r.curve (length (newest r cs) - k) e d (last r cs).seal ≡ gives (last t ds).seal)
  not_turned n h =
      seals_not_turned v.changed (first_accepts r cs some.0) (all_accept r cs some.0) changed_accept n (by_rule e d (λ j. j) h)

-- ---- walks back, newest first, that end in one earliest seal
module _ {c : Curve} {s t : Class} {xs ys : List Class} (hs : Accepts c s) (hx : All (Accepts c) xs) (ht : Accepts c t) (hy : All (Accepts c) ys)
    (same : walk_back c s xs ≡ walk_back c t ys) {k : ℕ} {d e : Class} (at : ChangedAt k d e (reverse xs) (reverse ys)) where
  earliest : Accepts c (walk_back c s xs)
  earliest = (walk_is_only hs hx).accepts

  -- commits of the same classes, oldest first, lead from the end of the walk to its first seal
  leads : {a : Class} {l : List Class} → Accepts c a → All (Accepts c) l → foldl (commit_seal c) (walk_back c a l) (reverse l) ≡ a
  leads h k = (walk_is_only h k).holds

  leads_changed : foldl (commit_seal c) (walk_back c s xs) (reverse ys) ≡ t
  leads_changed = ap (λ z. foldl (commit_seal c) z (reverse ys)) same ∙ leads ht hy

  pub walk_displacement : displaced c (length xs - k) d e s ≡ gives t
  walk_displacement =
      ap₂ (λ n a. displaced c (n - k) d e a) (sym (length-reverse xs)) (sym (leads hs hx))
      ∙ seals_displaced at earliest (all_reverse hx) (all_reverse hy)
      ∙ ap gives leads_changed

  pub walk_moves : ¬ (d ≡ e) → ¬ (s ≡ t)
  walk_moves n h = seals_move at earliest (all_reverse hx) (all_reverse hy) n (leads hs hx ∙ h ∙ sym leads_changed)
