-- n times an accepted class, and an accepted class halved k times: what they stand for, and how the code reaches them.
-- `digits_end`: n below 2^61 has at most 61 digits, and none of it is left after them.
-- `multiple_accepts`: n times the class is accepted.
-- `multiple_pair`: it stands for n times the class in the group.
-- `multiple_none`: 0 times the class is the neutral class.
-- `odd_turn`: for odd n it is the double of n / 2 times the class, plus the class.
-- `even_turn`: for even n it is the double of n / 2 times the class.
-- `halved_accepts`: the class halved k times is accepted.
-- `halved_pair`: it stands for the class halved k times in the group.
-- `halved_none`: halved 0 times it is the class.
-- `halved_next`: halved k + 1 times it is the half of the class halved k times.
use Prim.Native.Nat.{ℕ, suc, ◌+◌, ◌-◌, ◌*◌, ◌/◌, ◌%◌, ◌^◌, ◌≤◌, ◌<◌}
use mathlib.Core.{Path.◌≡◌, Path.sym, Path.◌∙◌, Path.ap, Logic.◌⊎◌, Logic.inl, Logic.inr}
use native.Mathlib.{Omega.arith, Nat.div-eq_of_lt, Nat.pow-le-pow_right}
use lib.{Count.count_leading_zeros, Dec.lit<}
use Rattle.std.proofs.lemmas.{Nat.leading_length, Bool.cases_lt}
use Rattle.class_group.specs.{Mumford.Pair, Mumford.Reduced, Mumford.neutral, Operations.sum, Operations.double, Half.half, Moves.double_and_add}
use Rattle.class_group.specs.Multiples.{multiple, repeat}
use Rattle.class_group.proofs.{Group.classes, Group.class_doubling, Halving.class_halving, Multiples.multiple_member, Multiples.multiple_zero, Doublings.halvings_member, Digits.even_turn as group_even_turn, Digits.odd_turn as group_odd_turn}
use Rattle.jacobian.specs.{Field.Poly, Curves.curve, Classes.pair, Classes.class_of}
use Rattle.jacobian.specs.Answer.{Accepts, Result, neutral_class, double_answer, half_answer, double_and_add_answer}
use Rattle.jacobian.specs.declared.{Curve.Curve, Class.Class}
use Rattle.jacobian.proofs.{Calls.reduced, Calls.double_gives, Calls.half_gives, Calls.neutral_value, Moves.double_and_add_gives}
use Rattle.jacobian.proofs.Representation.{accepts_curve, class_of_accepted, class_of_pair, Form.pair_class_of}
use Rattle.seal_licence.specs.Multiples.{multiple_class, halved_class}

-- no digit of n is left after as many as it has
none_left : (n : ℕ) → n < 2 ^ 64 → n / 2 ^ (64 - count_leading_zeros 64 n) ≡ 0
none_left n fits =
    let p = leading_length 64 n fits in
    let e : 64 - count_leading_zeros 64 n ≡ p.0 = omega (arith, p.1) in
    ap (λ i. n / 2 ^ i) e ∙ div-eq_of_lt p.2

at_most_61 : (m n : ℕ) → n < 2 ^ 61 → 2 ^ m ≤ 2 * n + 1 → (61 < m) ⊎ (m ≤ 61) → m ≤ 61
at_most_61 m n small low (inl more) =
    let high : 2 ^ 62 ≤ 2 ^ m = pow-le-pow_right {n = 2} (lit< tt) {i = 62} {j = m} (omega (arith, more)) in absurd (omega (arith, small, low, high))
at_most_61 m n small low (inr few) = few

-- n below 2^61 has at most 61 digits, and none of it is left after them
pub digits_end : (n : ℕ) → n < 2 ^ 61 → (64 - count_leading_zeros 64 n ≤ 61) × (n / 2 ^ (64 - count_leading_zeros 64 n) ≡ 0)
digits_end n small =
    let fits : n < 2 ^ 64 = omega (arith, small) in
    let p = leading_length 64 n fits in
    let few = at_most_61 p.0 n small p.3 (cases_lt 61 p.0) in
    (omega (arith, p.1, few), none_left n fits)

module _ {c : Curve} {a : Class} (h : Accepts c a) where
  abbrev d : ℕ
  d = c.degree

  abbrev times : ℕ → Pair (Poly d)
  times n = multiple (sum (curve c)) (neutral (curve c)) n (pair d a)

  abbrev halved : ℕ → Pair (Poly d)
  halved k = repeat (half (curve c)) k (pair d a)

  -- ---- n times
  times_reduced : (n : ℕ) → Reduced (curve c) (times n)
  times_reduced n = multiple_member (classes (curve c)) n (reduced c h)

  pub multiple_accepts : (n : ℕ) → Accepts c (multiple_class c a n)
  unfolding multiple_class
  multiple_accepts n = class_of_accepted c (accepts_curve h) (times n) (times_reduced n)

  pub multiple_pair : (n : ℕ) → pair d (multiple_class c a n) ≡ times n
  unfolding multiple_class
  multiple_pair n = pair_class_of d (curve c) (times n) (times_reduced n)

  pub multiple_none : neutral_class ≡ multiple_class c a 0
  unfolding multiple_class
  multiple_none = sym (ap (class_of d) (multiple_zero (classes (curve c)) (pair d a)) ∙ neutral_value c)

  pub odd_turn : (n : ℕ) → n % 2 ≡ 1 → (double_and_add_answer c (multiple_class c a (n / 2)) a).class ≡ multiple_class c a n
  unfolding multiple_class double_and_add
  odd_turn n odd =
      ap (λ (r : Result). r.class) (double_and_add_gives (multiple_accepts (n / 2)) h)
      ∙ ap (class_of d)
      (ap (λ D. double_and_add (curve c) D (pair d a)) (multiple_pair (n / 2)) ∙ group_odd_turn (class_doubling (curve c)) n (reduced c h) odd)

  pub even_turn : (n : ℕ) → n % 2 ≡ 0 → (double_answer c (multiple_class c a (n / 2))).class ≡ multiple_class c a n
  unfolding multiple_class
  even_turn n even =
      ap (λ (r : Result). r.class) (double_gives c (multiple_accepts (n / 2)))
      ∙ ap (class_of d) (ap (double (curve c)) (multiple_pair (n / 2)) ∙ group_even_turn (class_doubling (curve c)) n (reduced c h) even)

  -- ---- halved k times
  halved_reduced : (k : ℕ) → Reduced (curve c) (halved k)
  halved_reduced k = halvings_member (class_halving (curve c)) k (reduced c h)

  pub halved_accepts : (k : ℕ) → Accepts c (halved_class c a k)
  unfolding halved_class
  halved_accepts k = class_of_accepted c (accepts_curve h) (halved k) (halved_reduced k)

  pub halved_pair : (k : ℕ) → pair d (halved_class c a k) ≡ halved k
  unfolding halved_class
  halved_pair k = pair_class_of d (curve c) (halved k) (halved_reduced k)

  pub halved_none : halved_class c a 0 ≡ a
  unfolding halved_class repeat
  halved_none = class_of_pair c a h

  pub halved_next : (k : ℕ) → (half_answer c (halved_class c a k)).class ≡ halved_class c a (suc k)
  unfolding halved_class repeat
  halved_next k =
      ap (λ (r : Result). r.class) (half_gives c (halved_accepts k)) ∙ ap (λ D. class_of d (half (curve c) D)) (halved_pair k)
