-- Each refusal of a register and of a call, under its condition and in its order (docs/SPECIFICATION.md, 4 and 6).
-- `register_checked`: the refusal of a register is that of the curve, then 109 of the count, then 120 of the released
-- step, then that of the seal.
-- `edge_checked`: that of a step at its edges is 114 of a commit, 113 and then 121 of an undo.
-- `step_checked`: that of a step is the register's, then that of the class, then 114 of a commit, 113 and 121 of an
-- undo.
-- `answer_follows`: a call answers its next register, or its refusal with the register given.
-- `call_checked`: that of a call is a step's, or for a release the register's.
-- `answer_checked`: the number of the code's answer is that refusal, and a refused call returns the register given.
-- `listed_within`: a number of one list is in another that has all of them.
-- `call_listed`: a call refuses with one of its own numbers.
-- `call_numbers_checked`: each of these numbers is that of a check of the call.
use Prim.Native.Nat.{ℕ, zero, suc}
use mathlib.Core.{Path.◌≡◌, Path.refl, Path.sym, Path.◌∙◌, Path.ap, Path.subst, Bool.Bool, Bool.true, Bool.false, Bool.true≢false, Bool.◌&&◌, Bool.◌||◌, Bool.cond, List.List, List.[], List.◌∷◌, List.◌++◌, Logic.◌↔◌, Logic.inl}
use native.Mathlib.Omega.{arith}
use lib.Dec.{eqb}
use borrow.Author.Tests.{eq-eqb, eqb-true}
use Rattle.jacobian.specs.{Checks.check, Checks.◌or_else◌, Checks.RefusalOf, Refusals.listed, Curves.curve_refusal, Classes.class_refusal, Checking.curve_checks, Checking.class_checks, declared.Class.Class}
use Rattle.refusals.specs.Refusals.{refusal_of}
use Rattle.jacobian.specs.Checks as checks
use Rattle.jacobian.proofs.{ByValue.Checks.then_zero, ByValue.Checks.both, ByValue.Answers.refusal_of_is, Checking.curve_checked, Checking.class_checked, Checking.refusal_or_else, Checking.refusal_held, Checking.among, Checking.refusal_listed}
use Rattle.count_limit.specs.{Limit.count_limit, Limit.count_refusal, Limit.released_refusal, Checking.count_check, Checking.released_check}
use Rattle.count_limit.proofs.Checking.{count_checked, released_checked}
use Rattle.history.specs.Register.{RegisterReply, register_reply, register_refusal, edge_refusal, step_refusal, follows, step_answer, release_answer}
use Rattle.history.specs.Calls.{Call, step, release, answer, call_refusal, next_register}
use Rattle.history.specs.Checking.{register_checks, edge_checks, call_checks, check_numbers, call_numbers, CheckedAnswer}
use Rattle.history.specs.declared.{Register.Register, RegisterAnswer.RegisterAnswer, Step.Step, Step.TheVariants.Commit, Step.TheVariants.Undo}
use Rattle.history.proofs.Registers.{follows_outcome, follows_refused}

-- ---- the checks
pub register_checked : (r : Register) → RefusalOf (register_checks r) (register_refusal r)
unfolding register_refusal
register_checked r =
    let c = r.curve in
    let last = class_checks c r.seal in
    refusal_or_else (curve_checks c) (count_check r.count ∷ released_check r.count r.released ∷ last) (curve_refusal c) _ (curve_checked c)
    (λ h. refusal_or_else (count_check r.count ∷ []) (released_check r.count r.released ∷ last) (count_refusal r.count) _ (count_checked r.count)
    (λ k. refusal_or_else (released_check r.count r.released ∷ []) last (released_refusal r.count r.released) _ (released_checked r.count r.released)
    (λ m. class_checked c r.seal (refusal_held (curve_checked c) h))))

-- a check that two numbers differ
refusal_at : (m n number : ℕ) → ¬ (number ≡ 0) → RefusalOf (check number (¬ (m ≡ n)) ∷ []) (cond (eqb m n) number 0)
refusal_at m n number h = go (eqb m n) (eqb-true m n, eq-eqb m n)
  where
    go : (b : Bool) → ((b ≡ true) ↔ (m ≡ n)) → RefusalOf (check number (¬ (m ≡ n)) ∷ []) (cond b number 0)
    go true i = checks.RefusalOf.first_fails h (inl (λ no. no (i.0 refl), refl))
    go false i = checks.RefusalOf.all_hold refl (λ p. true≢false (sym (i.1 p)), tt)

-- a refusal where a test is true, else another one
either_or : (b : Bool) (n m : ℕ) → ¬ (n ≡ 0) → cond b n 0 or_else m ≡ cond b n m
unfolding ◌or_else◌
either_or true zero m h = absurd (h refl)
either_or true (suc n) m h = refl
either_or false n m h = refl

pub edge_checked : (k : Step) (n released : ℕ) → RefusalOf (edge_checks k n released) (edge_refusal k n released)
unfolding edge_refusal
edge_checked Commit n released = refusal_at n count_limit 114 (λ e. omega arith)
edge_checked Undo n released =
    subst (RefusalOf (edge_checks Undo n released)) (either_or (eqb n 0) 113 (cond (eqb n released) 121 0) (λ e. omega arith))
    (refusal_or_else (check 113 (¬ (n ≡ 0)) ∷ []) (check 121 (¬ (n ≡ released)) ∷ []) (cond (eqb n 0) 113 0) _ (refusal_at n 0 113 (λ e. omega arith))
    (λ h. refusal_at n released 121 (λ e. omega arith)))

pub step_checked : (k : Step) (r : Register) (a : Class) → RefusalOf (call_checks r (step k a)) (step_refusal k r a)
unfolding step_refusal register_refusal
step_checked k r a =
    let c = r.curve in
    let last = edge_checks k r.count r.released in
    refusal_or_else (register_checks r) (class_checks c a ++ last) (register_refusal r) _ (register_checked r)
    (λ h. refusal_or_else (class_checks c a) last (class_refusal c a) _ (class_checked c a (then_zero _ _ (refusal_held (register_checked r) h)).0) (λ m. edge_checked k r.count r.released))

pub answer_follows : (r : Register) (c : Call) → answer r c ≡ follows (call_refusal r c) r (next_register r c)
unfolding answer step_answer release_answer call_refusal next_register
answer_follows r (step k a) = refl
answer_follows r release = refl

pub call_checked : (r : Register) (c : Call) → RefusalOf (call_checks r c) (call_refusal r c)
unfolding call_refusal
call_checked r (step k a) = step_checked k r a
call_checked r release = register_checked r

pub answer_checked : (r : Register) (c : Call) (x : RegisterAnswer) → register_reply x ≡ answer r c → CheckedAnswer (call_checks r c) (refusal_of x.outcome) r x.register
answer_checked r c x e =
    let n = call_refusal r c in
    let f = e ∙ answer_follows r c in
    let is : refusal_of x.outcome ≡ n = refusal_of_is x.outcome n (ap (λ (y : RegisterReply). y.outcome) f ∙ follows_outcome n r (next_register r c)) in
    record {
      refusal = subst (RefusalOf (call_checks r c)) (sym is) (call_checked r c);
      kept = λ h. ap (λ (y : RegisterReply). y.register) (f ∙ follows_refused n r (next_register r c) (λ z. h (is ∙ z)));
    }

-- ---- the numbers
-- every number of the first list is in the second
unfoldable pub all_listed : List ℕ → List ℕ → Bool
all_listed [] ns = true
all_listed (m ∷ ms) ns = listed m ns && all_listed ms ns

pub listed_within : (ms ns : List ℕ) (n : ℕ) → all_listed ms ns ≡ true → listed n ms ≡ true → listed n ns ≡ true
unfolding all_listed listed
listed_within [] ns n h e = absurd (true≢false (sym e))
listed_within (m ∷ ms) ns n h e =
    let p = both (listed m ns) (all_listed ms ns) h in
    go (eqb n m) refl e (listed_within ms ns n p.1)
  where
    go : (x : Bool) → eqb n m ≡ x → (x || listed n ms) ≡ true → (listed n ms ≡ true → listed n ns ≡ true) → listed n ns ≡ true
    go true is e rest = subst (λ (i : ℕ). listed i ns ≡ true) (sym (eqb-true n m is)) (both (listed m ns) (all_listed ms ns) h).0
    go false is e rest = rest e

numbered : (r : Register) (c : Call) → (among (call_checks r c) (call_numbers c) && all_listed (call_numbers c) (check_numbers (call_checks r c))) ≡ true
unfolding call_numbers check_numbers all_listed listed
numbered r (step Commit a) = refl
numbered r (step Undo a) = refl
numbered r release = refl

module _ (r : Register) (c : Call) where
  same_numbers : (among (call_checks r c) (call_numbers c) ≡ true) × (all_listed (call_numbers c) (check_numbers (call_checks r c)) ≡ true)
  same_numbers = both (among (call_checks r c) (call_numbers c)) (all_listed (call_numbers c) (check_numbers (call_checks r c))) (numbered r c)

  pub call_listed : ¬ (call_refusal r c ≡ 0) → listed (call_refusal r c) (call_numbers c) ≡ true
  call_listed = refusal_listed (call_numbers c) same_numbers.0 (call_checked r c)

  pub call_numbers_checked : (n : ℕ) → listed n (call_numbers c) ≡ true → listed n (check_numbers (call_checks r c)) ≡ true
  call_numbers_checked n = listed_within (call_numbers c) (check_numbers (call_checks r c)) n same_numbers.1
