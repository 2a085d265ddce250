-- The calls by value as a group (docs/SPECIFICATION.md, 11). Calls.antt has the laws one by one, between answers.
-- `group`: the accepted classes of an accepted curve are a commutative group under what the calls answer.
-- `doubling`: doubling in it is one to one, so that class_group's laws of such groups hold of the calls.
-- `sum_given`, `opposite_given`: these calls on accepted classes are not refused.
-- `difference_accepts`: a difference of accepted classes is accepted.
-- `doublings_give`, `doublings_accept`: none of k doublings is refused, and their class is accepted.
-- `doublings_sum`: k doublings are the 2^k-fold sum.
-- `double_and_add_is`: double and add is the sum with the double.
use Prim.Native.Nat.{ℕ, suc, ◌^◌}
use mathlib.Core.Path.{◌≡◌, sym, ◌∙◌, ap}
use Rattle.class_group.specs.{Group.CommutativeGroup, Group.Doubling, Multiples.repeat, Multiples.multiple, Operations.sum, Moves.double_and_add}
use Rattle.class_group.proofs.{Closed.double_reduced, Group.double_sum, Doublings.doublings_member, Doublings.doublings_multiple}
use Rattle.jacobian.specs.{Curves.curve_refusal, Curves.curve, Classes.pair, Classes.class_of}
use Rattle.jacobian.specs.Answer.{Accepts, Result, result, gives, neutral_class, opposite_answer, double_answer, half_answer, sum_answer, double_and_add_answer}
use Rattle.jacobian.specs.Group.{sum_of, opposite_of, double_of, difference, doublings}
use Rattle.jacobian.specs.declared.{Curve.Curve, Class.Class}
use Rattle.jacobian.proofs.Representation.{accepts_curve}
use Rattle.jacobian.proofs.Calls.{reduced, class_pair, opposite_gives, double_gives, sum_gives, opposite_accepts, double_accepts, sum_accepts, neutral_accepts, half_of_double, sum_answer_comm, sum_answer_assoc, sum_answer_neutral, sum_answer_opposite}
use Rattle.jacobian.proofs.Moves.{double_and_add_gives}

-- the class of an answer that gives one
pub class_is : {r : Result} {x : Class} → r ≡ gives x → r.class ≡ x
class_is e = ap (λ (r : Result). r.class) e

-- such an answer gives its own class
pub gives_own : {r : Result} {x : Class} → r ≡ gives x → r ≡ gives r.class
gives_own e = e ∙ sym (ap gives (class_is e))

module _ (c : Curve) where
  -- ---- the group
  pub group : curve_refusal c ≡ 0 → CommutativeGroup (Accepts c) (sum_of c) neutral_class (opposite_of c)
  group ok = record {
    sum_closed = λ h k. sum_accepts c h k;
    neutral_closed = neutral_accepts c ok;
    opposite_closed = λ h. opposite_accepts c h;
    comm = λ h k. ap (λ (r : Result). r.class) (sum_answer_comm c h k);
    assoc = λ h k l. ap (λ (r : Result). r.class) (sum_answer_assoc c h k l);
    sum_neutral = λ h. class_is (sum_answer_neutral c h);
    sum_opposite = λ h. class_is (sum_answer_opposite c h);
  }

  -- the double of an accepted class is its sum with itself
  double_is : {a : Class} → Accepts c a → double_of c a ≡ sum_of c a a
  double_is h =
      class_is (double_gives c h) ∙ ap (class_of c.degree) (double_sum (curve c) (reduced c h)) ∙ sym (class_is (sum_gives c h h))

  pub doubling : curve_refusal c ≡ 0 → Doubling (Accepts c) (sum_of c) neutral_class (opposite_of c) (double_of c)
  doubling ok = record {
    group = group ok;
    double_sum = λ h. double_is h;
    double_injective = λ h k e.
        sym (class_is (half_of_double c h)) ∙ ap (λ (a : Class). (half_answer c a).class) e ∙ class_is (half_of_double c k);
  }

  -- ---- no call on accepted classes is refused
  pub opposite_given : {a : Class} → Accepts c a → result (opposite_answer c a) ≡ gives (opposite_of c a)
  opposite_given h = gives_own (opposite_gives c h)

  pub sum_given : {a b : Class} → Accepts c a → Accepts c b → result (sum_answer c a b) ≡ gives (sum_of c a b)
  sum_given h k = gives_own (sum_gives c h k)

  pub difference_accepts : {a b : Class} → Accepts c a → Accepts c b → Accepts c (difference c a b)
  difference_accepts h k = sum_accepts c h (opposite_accepts c k)

  -- ---- k doublings
  pub doublings_accept : {a : Class} → Accepts c a → (k : ℕ) → Accepts c (doublings c k a)
  doublings_accept h k = doublings_member (doubling (accepts_curve h)) k h

  pub doublings_give : {a : Class} → Accepts c a → (k : ℕ) → result (double_answer c (doublings c k a)) ≡ gives (doublings c (suc k) a)
  unfolding repeat
  doublings_give h k = gives_own (double_gives c (doublings_accept h k))

  pub doublings_sum : {a : Class} → Accepts c a → (k : ℕ) → doublings c k a ≡ multiple (sum_of c) neutral_class (2 ^ k) a
  doublings_sum h k = doublings_multiple (doubling (accepts_curve h)) k h

  -- ---- double and add
  pub double_and_add_is : {a b : Class} → Accepts c a → Accepts c b → (double_and_add_answer c a b).class ≡ sum_of c (double_of c a) b
  unfolding double_and_add
  double_and_add_is {a} {b} h k =
      class_is (double_and_add_gives h k)
      ∙ ap (λ D. class_of c.degree (sum (curve c) D (pair c.degree b))) (sym (class_pair c _ (double_reduced (curve c) (reduced c h)) (double_gives c h)))
      ∙ sym (class_is (sum_gives c (double_accepts c h) k))
