-- What n times a class and a class halved k times answer (docs/SPECIFICATION.md, 2.11 and 6).
-- For an accepted class, with n and k within their limits:
-- `multiple_gives`: the call for n times is not refused and gives n times the class.
-- `halvings_give`: the call for k halvings is not refused and gives the class halved k times.
-- `multiple_of_sum`: (m + n) times is the sum of m times and n times.
-- `multiple_of_zero`: 0 times is the neutral class.
-- `multiple_of_one`: once is the class.
-- `multiple_of_product`: m n times is m times n times.
-- `doublings_pair`: k doublings by the calls stand for k doublings in the group.
-- `doublings_are_multiple`: 2^k times is k doublings, for k below 61.
-- `halves_accept`: the class after k halves, one call after the other, is accepted.
-- `halves_give`: after k halves the next one is not refused.
-- `halvings_are_halves`: k halvings give the class after k halves.
-- `halvings_of_doublings`: k halvings of k doublings give the class.
-- `doublings_of_halvings`: k doublings of k halvings give the class.
-- `only_halvings`: an accepted class that k doublings take to another class is what k halvings of that class give.
-- `halvings_only`: k halvings give the only accepted class that k doublings take to the class.
-- `halvings_answers`: so what `halvings` promises follows from its answer.
-- `halvings_stop`, `halvings_given`: as the code answers it.
-- `halvings_of_multiple`: k halvings of 2^k times the class give the class, for k below 61.
-- `multiple_of_halvings`: 2^k times what k halvings of the class give is the class, for k below 61.
-- Refusals of an accepted class (Checking.antt has all refusals in their order):
-- `multiple_too_large`: n of 2^61 or more is refused with 118.
-- `halvings_too_many`: k above 64 is refused with 119.
use Prim.Native.Nat.{ℕ, zero, suc, ◌+◌, ◌*◌, ◌^◌, ◌≤◌, ◌<◌}
use mathlib.Core.{Path.◌≡◌, Path.refl, Path.sym, Path.◌∙◌, Path.ap, Path.ap₂, Path.subst}
use native.Mathlib.Omega.{arith}
use lib.{Dec.lit<, Pow.pow-lt}
use borrow.Author.Tests.{lt-ltb, le-ltb, le-leb, lt-leb}
use Rattle.class_group.specs.{Mumford.neutral, Operations.sum, Operations.double, Half.half, Multiples.multiple, Multiples.repeat}
use Rattle.class_group.proofs.{Closed.sum_reduced, Closed.double_reduced, Group.classes, Group.class_doubling, Halving.class_halving}
use Rattle.class_group.proofs.{Multiples.multiple_one, Multiples.multiple_add, Multiples.multiple_mul, Doublings.doublings_multiple, Doublings.halvings_doublings, Doublings.doublings_halvings}
use Rattle.jacobian.specs.{Checks.unless, Checks.◌or_else◌, Curves.curve, Classes.pair}
use Rattle.jacobian.specs.Answer.{Result, result, gives, Accepts, Only, neutral_class, half_answer, sum_answer}
use Rattle.jacobian.specs.Group.{doublings}
use Rattle.jacobian.specs.declared.{Curve.Curve, Class.Class}
use Rattle.jacobian.proofs.{Calls.reduced, Calls.class_pair, Calls.sum_gives, Calls.sum_accepts, Calls.double_gives, Calls.half_gives, Group.class_is, Group.gives_own, Group.doublings_accept}
use Rattle.jacobian.proofs.{Representation.pair_injective}
use Rattle.seal_licence.specs.Multiples.{multiple_limit, halvings_limit, refuses, given, multiple_class, halved_class, multiple_refusal, halvings_refusal, multiple_answer, halvings_answer, HalvingsAnswers, halves}
use Rattle.refusals.specs.{Refusals.number, declared.Refusal.Refusal}
use Rattle.seal_licence.proofs.Answers.{halvings_passes, halvings_answer_stops, halvings_answer_given}
use Rattle.seal_licence.proofs.Values.{multiple_accepts, multiple_pair, multiple_none, halved_accepts, halved_pair, halved_none, halved_next}

-- ---- an accepted class
module _ {c : Curve} {a : Class} (h : Accepts c a) where
  abbrev d : ℕ
  d = c.degree

  pub multiple_gives : (n : ℕ) → n < multiple_limit → multiple_answer c a n ≡ gives (multiple_class c a n)
  unfolding multiple_answer multiple_refusal given unless ◌or_else◌
  multiple_gives n l = rw (h.none, lt-ltb n multiple_limit l) refl

  pub halvings_give : (k : ℕ) → k ≤ halvings_limit → halvings_answer c a k ≡ gives (halved_class c a k)
  unfolding halvings_answer halvings_refusal given unless ◌or_else◌
  halvings_give k l = rw (h.none, le-leb k halvings_limit l) refl

  -- ---- n times
  summed : (m n : ℕ) → result (sum_answer c (multiple_class c a m) (multiple_class c a n)) ≡ gives (multiple_class c a (m + n))
  summed m n =
      let x = multiple_accepts h m in
      let y = multiple_accepts h n in
      let g = sum_gives c x y in
      let same : (sum_answer c (multiple_class c a m) (multiple_class c a n)).class ≡ multiple_class c a (m + n) =
      pair_injective c _ _ (sum_accepts c x y) (multiple_accepts h (m + n))
      (class_pair c _ (sum_reduced (curve c) (reduced c x) (reduced c y)) g
      ∙ ap₂ (sum (curve c)) (multiple_pair h m) (multiple_pair h n)
      ∙ sym (multiple_pair h (m + n) ∙ multiple_add (classes (curve c)) m n (reduced c h))) in
      gives_own g ∙ ap gives same

  pub multiple_of_sum : (m n : ℕ) → m + n < multiple_limit
      → multiple_answer c a (m + n) ≡ result (sum_answer c (multiple_answer c a m).class (multiple_answer c a n).class)
  multiple_of_sum m n l =
      multiple_gives (m + n) l
      ∙ sym
      (ap₂ (λ x y. result (sum_answer c x y)) (class_is (multiple_gives m (omega (arith, l)))) (class_is (multiple_gives n (omega (arith, l))))
      ∙ summed m n)

  pub multiple_of_zero : multiple_answer c a 0 ≡ gives neutral_class
  multiple_of_zero = multiple_gives 0 (lit< tt) ∙ ap gives (sym (multiple_none h))

  pub multiple_of_one : multiple_answer c a 1 ≡ gives a
  multiple_of_one =
      multiple_gives 1 (lit< tt)
      ∙ ap gives (pair_injective c _ _ (multiple_accepts h 1) h (multiple_pair h 1 ∙ multiple_one (classes (curve c)) (reduced c h)))

  -- ---- k doublings
  pub doublings_pair : (k : ℕ) → pair d (doublings c k a) ≡ repeat (double (curve c)) k (pair d a)
  unfolding repeat
  doublings_pair zero = refl
  doublings_pair (suc k) =
      let x = doublings_accept c h k in
      class_pair c _ (double_reduced (curve c) (reduced c x)) (double_gives c x) ∙ ap (double (curve c)) (doublings_pair k)

  pub doublings_are_multiple : (k : ℕ) → k < 61 → multiple_answer c a (2 ^ k) ≡ gives (doublings c k a)
  doublings_are_multiple k l =
      multiple_gives (2 ^ k) (pow-lt l)
      ∙ ap gives
      (pair_injective c _ _ (multiple_accepts h (2 ^ k)) (doublings_accept c h k)
      (multiple_pair h (2 ^ k) ∙ sym (doublings_pair k ∙ doublings_multiple (class_doubling (curve c)) k (reduced c h))))

  -- ---- k halvings
  halves_are : (k : ℕ) → halves c k a ≡ halved_class c a k
  unfolding repeat
  halves_are zero = sym (halved_none h)
  halves_are (suc k) = ap (λ x. (half_answer c x).class) (halves_are k) ∙ halved_next h k

  pub halves_accept : (k : ℕ) → Accepts c (halves c k a)
  halves_accept k = subst (Accepts c) (sym (halves_are k)) (halved_accepts h k)

  pub halves_give : (k : ℕ) → result (half_answer c (halves c k a)) ≡ gives (halves c (suc k) a)
  unfolding repeat
  halves_give k = gives_own (half_gives c (halves_accept k))

  pub halvings_are_halves : (k : ℕ) → k ≤ halvings_limit → halvings_answer c a k ≡ gives (halves c k a)
  halvings_are_halves k l = halvings_give k l ∙ ap gives (sym (halves_are k))

-- ---- m times n times, halvings of doublings and doublings of halvings
module _ {c : Curve} {a : Class} (h : Accepts c a) where
  pub multiple_of_product : (m n : ℕ) → m < multiple_limit → n < multiple_limit → m * n < multiple_limit
      → multiple_answer c a (m * n) ≡ multiple_answer c (multiple_answer c a n).class m
  multiple_of_product m n lm ln l =
      let x = multiple_accepts h n in
      multiple_gives h (m * n) l
      ∙ ap gives
      (pair_injective c _ _ (multiple_accepts h (m * n)) (multiple_accepts x m)
      (multiple_pair h (m * n)
      ∙ multiple_mul (classes (curve c)) m n (reduced c h)
      ∙ sym (multiple_pair x m ∙ ap (multiple (sum (curve c)) (neutral (curve c)) m) (multiple_pair h n))))
      ∙ sym (ap (λ b. multiple_answer c b m) (class_is (multiple_gives h n ln)) ∙ multiple_gives x m lm)

  pub halvings_of_doublings : (k : ℕ) → k ≤ halvings_limit → halvings_answer c (doublings c k a) k ≡ gives a
  halvings_of_doublings k l =
      let x = doublings_accept c h k in
      halvings_give x k l
      ∙ ap gives
      (pair_injective c _ _ (halved_accepts x k) h
      (halved_pair x k ∙ ap (repeat (half (curve c)) k) (doublings_pair h k) ∙ halvings_doublings (class_halving (curve c)) k (reduced c h)))

  pub doublings_of_halvings : (k : ℕ) → k ≤ halvings_limit → doublings c k (halvings_answer c a k).class ≡ a
  doublings_of_halvings k l =
      let x = halved_accepts h k in
      ap (doublings c k) (class_is (halvings_give h k l))
      ∙ pair_injective c _ _ (doublings_accept c x k) h
      (doublings_pair x k ∙ ap (repeat (double (curve c)) k) (halved_pair h k) ∙ doublings_halvings (class_halving (curve c)) k (reduced c h))

pub only_halvings : {c : Curve} {a b : Class} → Accepts c b → (k : ℕ) → k ≤ halvings_limit → doublings c k b ≡ a → b ≡ (halvings_answer c a k).class
only_halvings {c} h k l e = sym (class_is (halvings_of_doublings h k l)) ∙ ap (λ x. (halvings_answer c x k).class) e

module _ {c : Curve} {a : Class} (h : Accepts c a) where
  pub halvings_only : (k : ℕ) → k ≤ halvings_limit → Only c (λ b. doublings c k b ≡ a) (halvings_answer c a k).class
  halvings_only k l = record {
    accepts = subst (Accepts c) (sym (class_is (halvings_give h k l))) (halved_accepts h k);
    holds = doublings_of_halvings h k l;
    only = λ b q e. only_halvings q k l e;
  }

  -- ---- the two calls, one after the other
  pub halvings_of_multiple : (k : ℕ) → k < 61 → halvings_answer c (multiple_answer c a (2 ^ k)).class k ≡ gives a
  halvings_of_multiple k l =
      ap (λ b. halvings_answer c b k) (class_is (doublings_are_multiple h k l)) ∙ halvings_of_doublings h k (omega (arith, l))

  pub multiple_of_halvings : (k : ℕ) → k < 61 → multiple_answer c (halvings_answer c a k).class (2 ^ k) ≡ gives a
  multiple_of_halvings k l =
      let k≤ : k ≤ halvings_limit = omega (arith, l) in
      doublings_are_multiple (halvings_only k k≤).accepts k l ∙ ap gives (doublings_of_halvings h k k≤)

-- what `halvings` promises, from its answer
pub halvings_answers : {c : Curve} {a : Class} {k : ℕ} {r : Result} → r ≡ halvings_answer c a k → HalvingsAnswers c a k r
halvings_answers {c} {a} {k} e = record {
  answer = e;
  taken_back = λ none.
      let p = halvings_passes c a k none in
      subst (λ (r : Result). Only c (λ b. doublings c k b ≡ a) r.class) (sym e) (halvings_only p.0 k p.1);
}

-- what the code answers, a refusal or a class
module _ (c : Curve) (a : Class) (k : ℕ) where
  pub halvings_stop : (r : Refusal) → number r ≡ halvings_refusal c a k → HalvingsAnswers c a k (refuses (number r))
  halvings_stop r e = halvings_answers (halvings_answer_stops c a k r e)

  pub halvings_given : {x : Class} → 0 ≡ halvings_refusal c a k → x ≡ halved_class c a k → HalvingsAnswers c a k (gives x)
  halvings_given e f = halvings_answers (halvings_answer_given c a k e f)

-- ---- refusals
module _ (c : Curve) (a : Class) (n : ℕ) where
  pub multiple_too_large : Accepts c a → multiple_limit ≤ n → multiple_answer c a n ≡ refuses 118
  unfolding multiple_answer multiple_refusal given unless ◌or_else◌
  multiple_too_large h l = rw (h.none, le-ltb n multiple_limit l) refl

  pub halvings_too_many : Accepts c a → halvings_limit < n → halvings_answer c a n ≡ refuses 119
  unfolding halvings_answer halvings_refusal given unless ◌or_else◌
  halvings_too_many h l = rw (h.none, lt-leb n halvings_limit l) refl
