-- Each refusal of the two calls by value, under its condition and in its order (docs/SPECIFICATION.md, 3 and 6).
-- `multiple_checked`: the refusal of n times a class is that of the curve, then that of the class, then 118 of n.
-- `halvings_checked`: that of k halvings is that of the curve, then that of the class, then 119 of k.
-- `multiple_result`: n times answers the class where every check holds, else that refusal with the neutral class.
-- `halvings_result`: k halvings answer the class where every check holds, else that refusal with the neutral class.
-- `multiple_numbers_are`, `halvings_numbers_are`: the checks' numbers are the six that are listed, in this order.
-- `multiple_valid`: every answer of n times is a class or a refusal with one of its six numbers.
-- `halvings_valid`: every answer of k halvings is a class or a refusal with one of its six numbers.
-- `multiple_never_117`, `halvings_never_117`: no answer refuses with 117.
use Prim.Native.Nat.{ℕ, zero, suc}
use mathlib.Core.{Path.◌≡◌, Path.refl, Path.sym, Path.ap, Path.◌∙◌, Bool.true, Bool.false, Bool.true≢false, List.List, List.[], List.◌∷◌, List.map, Logic.◌⊎◌, Logic.inl, Logic.inr}
use native.Mathlib.Omega.{arith}
use lib.Dec.{ltb, leb}
use borrow.Author.Tests.{ltb-true, lt-ltb, leb-true, le-leb}
use Rattle.jacobian.specs.Checks as checks
use Rattle.jacobian.specs.{Checks.unless, Checks.Check, Checks.check, Checks.RefusalOf, Checking.checks_of_one, Refusals.listed, Answer.Verdict, Answer.accepted, Answer.refused, Answer.Result, Answer.refusal, declared.Curve.Curve, declared.Class.Class}
use Rattle.jacobian.proofs.Checking.{refusal_unless, refusal_or_else, refusal_among, one_checked}
use Rattle.seal_licence.specs.Multiples.{multiple_limit, halvings_limit, given, multiple_class, halved_class, multiple_refusal, halvings_refusal, multiple_answer, halvings_answer}
use Rattle.seal_licence.specs.{Checking.multiple_checks, Checking.halvings_checks, Checking.ResultOf, Checking.multiple_numbers, Checking.halvings_numbers, Valid.ValidResult}
use Rattle.seal_licence.specs.Checking as checking
use Rattle.seal_licence.specs.Valid as valid

-- ---- the checks in order

given_result : (cs : List Check) (m : ℕ) (x : Class) → RefusalOf cs m → ResultOf cs x (given m x)
unfolding given
given_result cs zero x (checks.RefusalOf.all_hold e h) = checking.ResultOf.all_hold h refl
given_result cs (suc m) x (checks.RefusalOf.all_hold e h) = absurd (omega arith)
given_result cs zero x (checks.RefusalOf.first_fails z h) = absurd (z refl)
given_result cs (suc m) x (checks.RefusalOf.first_fails z h) = checking.ResultOf.first_fails (suc m) h refl

module _ (c : Curve) (a : Class) (n : ℕ) where
  pub multiple_checked : RefusalOf (multiple_checks c a n) (multiple_refusal c a n)
  unfolding multiple_refusal
  multiple_checked =
      refusal_or_else (checks_of_one c a) (check 118 _ ∷ []) (refusal c a) (unless (ltb n multiple_limit) 118) (one_checked c a)
      (λ h. refusal_unless (ltb n multiple_limit) 118 (λ e. omega arith) (ltb-true n multiple_limit, lt-ltb n multiple_limit))

  pub halvings_checked : RefusalOf (halvings_checks c a n) (halvings_refusal c a n)
  unfolding halvings_refusal
  halvings_checked =
      refusal_or_else (checks_of_one c a) (check 119 _ ∷ []) (refusal c a) (unless (leb n halvings_limit) 119) (one_checked c a)
      (λ h. refusal_unless (leb n halvings_limit) 119 (λ e. omega arith) (leb-true n halvings_limit, le-leb n halvings_limit))

  pub multiple_result : ResultOf (multiple_checks c a n) (multiple_class c a n) (multiple_answer c a n)
  unfolding multiple_answer
  multiple_result = given_result (multiple_checks c a n) _ _ multiple_checked

  pub halvings_result : ResultOf (halvings_checks c a n) (halved_class c a n) (halvings_answer c a n)
  unfolding halvings_answer
  halvings_result = given_result (halvings_checks c a n) _ _ halvings_checked

-- ---- the numbers

given_valid : (ns : List ℕ) (m : ℕ) (x : Class) → (m ≡ 0) ⊎ (listed m ns ≡ true) → ValidResult ns (given m x)
unfolding given
given_valid ns zero x t = valid.ValidResult.acceptance x
given_valid ns (suc m) x (inl e) = absurd (omega arith)
given_valid ns (suc m) x (inr i) = valid.ValidResult.refusal (suc m) i

module _ (c : Curve) (a : Class) (n : ℕ) where
  pub multiple_numbers_are : map (λ (x : Check). x.number) (multiple_checks c a n) ≡ multiple_numbers
  unfolding multiple_numbers
  multiple_numbers_are = refl

  pub halvings_numbers_are : map (λ (x : Check). x.number) (halvings_checks c a n) ≡ halvings_numbers
  unfolding halvings_numbers
  halvings_numbers_are = refl

  pub multiple_valid : ValidResult multiple_numbers (multiple_answer c a n)
  unfolding multiple_answer multiple_numbers listed
  multiple_valid = given_valid multiple_numbers _ _ (refusal_among multiple_numbers refl (multiple_checked c a n))

  pub halvings_valid : ValidResult halvings_numbers (halvings_answer c a n)
  unfolding halvings_answer halvings_numbers listed
  halvings_valid = given_valid halvings_numbers _ _ (refusal_among halvings_numbers refl (halvings_checked c a n))

number : Verdict → ℕ
number accepted = 0
number (refused n) = n

-- a number that is not in the list is none of a valid answer
never : (ns : List ℕ) (n : ℕ) → ¬ (n ≡ 0) → listed n ns ≡ false → {r : Result} → ValidResult ns r → ¬ (r.outcome ≡ refused n)
unfolding number
never ns n some out (valid.ValidResult.acceptance a) e = some (sym (ap number e))
never ns n some out (valid.ValidResult.refusal m i) e = true≢false (sym i ∙ ap (λ k. listed k ns) (ap number e) ∙ out)

module _ (c : Curve) (a : Class) (n : ℕ) where
  pub multiple_never_117 : ¬ ((multiple_answer c a n).outcome ≡ refused 117)
  unfolding multiple_numbers listed
  multiple_never_117 = never multiple_numbers 117 (λ e. omega arith) refl (multiple_valid c a n)

  pub halvings_never_117 : ¬ ((halvings_answer c a n).outcome ≡ refused 117)
  unfolding halvings_numbers listed
  halvings_never_117 = never halvings_numbers 117 (λ e. omega arith) refl (halvings_valid c a n)
