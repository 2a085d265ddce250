-- Two lists of calls from one first seal on one curve, refused calls included, whose accepted calls are commits that
-- differ in operation k alone, neutral in the second list: the second one leaves what suppressing k makes of the first.
-- `neutral_commit_operations`: its operations are the suppressed ones.
-- `neutral_commit_seal`: its last seal is the suppressed one.
use Prim.Native.Nat.{ℕ, ◌-◌}
use mathlib.Core.Path.{◌≡◌, sym, ◌∙◌, ap, ap₂}
use mathlib.Core.List.{List, reverse}
use lib.ListN.{length}
use Rattle.lists.specs.Lists.{ChangedAt}
use Rattle.class_group.proofs.{GroupLaws.neutral_sum, Doublings.doublings_opposite}
use Rattle.jacobian.specs.{Answer.neutral_class, Group.sum_of, Group.difference, Group.doublings, declared.Class.Class}
use Rattle.jacobian.proofs.{Representation.accepts_curve, Group.class_is, Group.doubling}
use Rattle.history.specs.Calls.{Call, last, newest, classes, Variants}
use Rattle.history.specs.declared.Register.{Register}
use Rattle.history.proofs.{Classes.steps_all, Classes.classes_count, Classes.classes_reverse, Classes.commits_are_steps, Displacement.both_accept, Displacement.displacement}
use Rattle.suppression_theory.specs.Suppression.{operation_of, suppressed_operations, suppressed_seal}
use Rattle.suppression_theory.proofs.Lists.{changed_set, changed_was}

module _ (r t : Register) (cs ds : List Call) {k : ℕ} {d : Class} (v : Variants k d neutral_class r t (newest r cs) (newest t ds)) where
  -- both lists as they are stored
  changed : ChangedAt k d neutral_class (reverse (classes (newest r cs))) (reverse (classes (newest t ds)))
  changed = rw (classes_reverse (newest r cs), classes_reverse (newest t ds)) at v.changed

  pub neutral_commit_operations : classes (newest t ds) ≡ suppressed_operations k (classes (newest r cs))
  unfolding suppressed_operations
  neutral_commit_operations = changed_set (classes (newest r cs)) (classes (newest t ds)) changed

  pub neutral_commit_seal : (last t ds).seal ≡ suppressed_seal r.curve k (last r cs).seal (classes (newest r cs))
  unfolding suppressed_seal operation_of
  neutral_commit_seal =
      let c = r.curve in
      let seal = (last r cs).seal in
      let n = length (newest r cs) - k in
      let accepts = (both_accept r t cs ds v).0 in
      let D = doubling c (accepts_curve accepts) in
      sym (class_is (displacement r t cs ds v))
      ∙ ap (sum_of c seal) (ap (doublings c n) (neutral_sum D.group (D.group.opposite_closed accepts)) ∙ doublings_opposite D n accepts)
      ∙ ap₂ (λ m a. difference c seal (doublings c (m - k) a))
      (sym (classes_count (newest r cs) ∙ ap length (steps_all (commits_are_steps v.commits))))
      (sym (changed_was (classes (newest r cs)) (classes (newest t ds)) changed neutral_class))
