-- Each refusal of the lent calls under its condition and in its order (docs/SPECIFICATION.md, 6 and 8).
-- `number_is`, `row_number`: the number of the code's answer is the refusal of the call's definition.
-- `lent_checked`: the number of a commit, an undo or a release in place is the refusal of the call's checks, and a
-- refused call leaves the register as it was.
-- `lent_listed`: such a refusal is one of the call's own numbers.
-- `row_checked`: the refusal of a walk over a lent row is that of the curve, then 109 for more classes than the limit,
-- then that of the last seal, then that of the classes, newest first.
-- `row_walk_checked`: the number of the code's walk is that refusal, and a refused walk answers the neutral class.
-- `row_listed`: a walk refuses with one of its own numbers.
-- `row_numbers_checked`: each of these numbers is that of a check of the walk.
use Prim.Native.Nat.{ℕ}
use mathlib.Core.{Path.◌≡◌, Path.refl, Path.sym, Path.◌∙◌, Path.ap, Path.subst, Bool.true, List.List, List.[], List.◌∷◌, List.◌++◌}
use lib.ListN.{length}
use Rattle.jacobian.specs.{Checks.RefusalOf, Refusals.listed, Curves.curve_refusal, Classes.class_refusal, Checking.curve_checks, Checking.class_checks, Answer.neutral_class, Answer.Result, declared.Curve.Curve, declared.Class.Class}
use Rattle.jacobian.proofs.Checking.{curve_checked, class_checked, refusal_none, refusal_or_else, refusal_held, among, refusal_listed}
use Rattle.count_limit.specs.{Limit.count_refusal, Checking.count_check}
use Rattle.count_limit.proofs.Checking.{count_checked}
use Rattle.history.specs.{Register.RegisterReply, Calls.Call, Calls.answer, Calls.call_refusal, Calls.next_register, Calls.walk_back, Checking.call_checks, Checking.check_numbers, Checking.call_numbers, Checking.CheckedAnswer, declared.Register.Register}
use Rattle.history.proofs.{Registers.follows_outcome, Registers.follows_refused, Answers.sealed_outcome, Checking.answer_follows, Checking.call_checked, Checking.call_listed, Checking.all_listed, Checking.listed_within}
use Rattle.seal_register.specs.{InPlace.in_place, RowWalk.classes_refusal, RowWalk.row_refusal, RowWalk.reached, RowWalk.row_walk_answer, Checking.classes_checks, Checking.row_checks, Checking.row_numbers, declared.walk.RowWalk.RowWalk}
use Rattle.seal_register.proofs.{Answer.verdict_number, RowSteps.refused_is}

-- ---- a call in place
module _ (r : Register) (c : Call) (n : ℕ) (left : Register) (e : in_place n left ≡ answer r c) where
  pub number_is : n ≡ call_refusal r c
  unfolding in_place
  number_is = verdict_number n _ (ap (λ (x : RegisterReply). x.outcome) (e ∙ answer_follows r c) ∙ follows_outcome (call_refusal r c) r (next_register r c))

  pub lent_checked : CheckedAnswer (call_checks r c) n r left
  unfolding in_place
  lent_checked = record {
    refusal = subst (RefusalOf (call_checks r c)) (sym number_is) (call_checked r c);
    kept = λ h. ap (λ (x : RegisterReply). x.register) (e ∙ answer_follows r c ∙ follows_refused _ r (next_register r c) (λ z. h (number_is ∙ z)));
  }

  pub lent_listed : ¬ (n ≡ 0) → listed n (call_numbers c) ≡ true
  lent_listed h = subst (λ m. listed m (call_numbers c) ≡ true) (sym number_is) (call_listed r c (λ z. h (number_is ∙ z)))

-- ---- the walk over a lent row
module _ (c : Curve) where
  classes_checked : curve_refusal c ≡ 0 → (ops : List Class) → RefusalOf (classes_checks c ops) (classes_refusal c ops)
  unfolding classes_refusal
  classes_checked ok [] = refusal_none
  classes_checked ok (a ∷ ops) = refusal_or_else (class_checks c a) (classes_checks c ops) (class_refusal c a) _ (class_checked c a ok) (λ h. classes_checked ok ops)

  classes_numbered : (ops : List Class) → among (classes_checks c ops) row_numbers ≡ true
  unfolding all_listed check_numbers row_numbers listed
  classes_numbered [] = refl
  classes_numbered (a ∷ ops) = classes_numbered ops

  module _ (last : Class) (ops : List Class) where
    pub row_checked : RefusalOf (row_checks c last ops) (row_refusal c last ops)
    unfolding row_refusal
    row_checked =
        refusal_or_else (curve_checks c) (count_check (length ops) ∷ (class_checks c last ++ classes_checks c ops)) (curve_refusal c) _ (curve_checked c)
        (λ h. let ok = refusal_held (curve_checked c) h in
        refusal_or_else (count_check (length ops) ∷ []) (class_checks c last ++ classes_checks c ops) (count_refusal (length ops)) _ (count_checked (length ops))
        (λ k. refusal_or_else (class_checks c last) (classes_checks c ops) (class_refusal c last) _ (class_checked c last ok) (λ l. classes_checked ok ops)))

    pub row_listed : ¬ (row_refusal c last ops ≡ 0) → listed (row_refusal c last ops) row_numbers ≡ true
    unfolding all_listed check_numbers row_numbers listed
    row_listed = refusal_listed row_numbers (classes_numbered ops) row_checked

    pub row_numbers_checked : (n : ℕ) → listed n row_numbers ≡ true → listed n (check_numbers (row_checks c last ops)) ≡ true
    unfolding all_listed check_numbers row_numbers listed
    row_numbers_checked n = listed_within row_numbers (check_numbers (row_checks c last ops)) n refl

    module _ (w : RowWalk) (e : reached w ≡ row_walk_answer c last ops) where
      pub row_number : w.refusal ≡ row_refusal c last ops
      unfolding row_walk_answer
      row_number = verdict_number w.refusal _ (ap (λ (x : Result). x.outcome) e ∙ sealed_outcome (row_refusal c last ops) (walk_back c last ops))

      pub row_walk_checked : CheckedAnswer (row_checks c last ops) w.refusal neutral_class w.seal
      unfolding row_walk_answer
      row_walk_checked = record {
        refusal = subst (RefusalOf (row_checks c last ops)) (sym row_number) row_checked;
        kept = λ h. ap (λ (x : Result). x.class) (e ∙ sym (refused_is (row_refusal c last ops) (walk_back c last ops) (λ z. h (row_number ∙ z))));
      }
