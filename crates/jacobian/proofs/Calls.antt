-- The calls by value on accepted classes, in terms of their answers (docs/SPECIFICATION.md, 2 and 11).
-- `opposite_gives`, `double_gives`, `half_gives`, `sum_gives`: the answer is the class of the theory's result.
-- `opposite_accepts`, `double_accepts`, `half_accepts`, `sum_accepts`: the class of the answer is accepted.
-- `opposite_degree`: a class and its opposite have the same degree.
-- `double_of_half`: the double of the half is the class.
-- `half_of_double`: the half of the double is the class.
-- `only_half`: the half is the only accepted class whose double is the class.
-- `half_is_only`: the same of the theory's double, as a record.
-- `neutral_accepts`: the neutral class is accepted on an accepted curve.
-- `only_neutral`: no other accepted class has degree 0.
-- `sum_answer_comm`, `sum_answer_assoc`: the sum is commutative and associative.
-- `sum_answer_neutral`: a class plus the neutral one is the class.
-- `sum_answer_opposite`: a class plus its opposite is neutral.
use Prim.Native.Nat.{ℕ, ◌-◌}
use mathlib.Core.Path.{◌≡◌, sym, ◌∙◌, ap, subst}
use Rattle.char2_algebra.proofs.Degree.{len_one}
use Rattle.class_group.specs.Curve as Theory
use Rattle.class_group.specs.{Mumford.Pair, Mumford.Reduced, Mumford.neutral, Mumford.opposite, Reduction.Counted, Operations.sum, Operations.double, Half.half}
use Rattle.class_group.proofs.{Closed.neutral_reduced, Closed.opposite_u, Closed.opposite_reduced, Closed.sum_reduced, Closed.double_reduced}
use Rattle.class_group.proofs.{Group.sum_comm, Group.sum_assoc, Group.sum_neutral, Group.sum_opposite, Halving.half_reduced, Halving.double_half, Halving.half_double}
use Rattle.row_theory.specs.Field.{Poly, 𝔸}
use Rattle.jacobian.specs.{Curves.curve_refusal, Curves.curve, Classes.pair, Classes.numbers, Classes.class_of}
use Rattle.jacobian.specs.Answer.{gives, Result, result, answered, Accepts, Only, IsHalf, refusal_of_two, neutral_class, opposite_answer, double_answer, half_answer, sum_answer}
use Rattle.jacobian.specs.declared.{Curve.Curve, Class.Class}
use Rattle.jacobian.proofs.{ByValue.Checks.then_zero, Representation.accepts_curve, Representation.accepts_class, Representation.accepts_both, Representation.accepted_reduced, Representation.class_of_accepted, Representation.class_of_pair, Representation.Unrefused.zero_then, Representation.Form.pair_class_of}

module _ (c : Curve) where
  abbrev d : ℕ
  d = c.degree

  abbrev C : Theory.Curve (𝔸 d)
  C = curve c

  pub reduced : {a : Class} → Accepts c a → Reduced C (pair d a)
  reduced {a} h = accepted_reduced c a h

  -- a call on two accepted classes is not refused
  pub accepts_two : {a b : Class} → Accepts c a → Accepts c b → refusal_of_two c a b ≡ 0
  unfolding refusal_of_two
  accepts_two h k = zero_then _ _ h.none (accepts_class k)

  pub two_accept : (a b : Class) → refusal_of_two c a b ≡ 0 → Accepts c a × Accepts c b
  unfolding refusal_of_two
  two_accept a b e =
      let z = then_zero _ _ e in
      let first : Accepts c a = record { none = z.0 } in
      (first, accepts_both c b (accepts_curve first) z.1)

  pub answered_none : (n : ℕ) (D : Counted (Poly d)) → n ≡ 0 → result (answered d n D) ≡ gives (class_of d D.class)
  unfolding answered
  answered_none n D e = ap (λ k. result (answered d k D)) e

  -- the class of an answer that gives the class of a reduced pair is accepted, and stands for the pair
  pub class_accepts : {a : Class} → Accepts c a → {r : Result} (D : Pair (Poly d)) → Reduced C D → r ≡ gives (class_of d D) → Accepts c r.class
  class_accepts h D t e = subst (Accepts c) (sym (ap (λ r. r.class) e)) (class_of_accepted c (accepts_curve h) D t)

  pub class_pair : {r : Result} (D : Pair (Poly d)) → Reduced C D → r ≡ gives (class_of d D) → pair d r.class ≡ D
  class_pair D t e = ap (λ (r : Result). pair d r.class) e ∙ pair_class_of d C D t

  -- an accepted class is the class of its pair
  pub value_is : {a : Class} {D : Pair (Poly d)} → Accepts c a → D ≡ pair d a → gives (class_of d D) ≡ gives a
  value_is {a} h e = ap gives (ap (class_of d) e ∙ class_of_pair c a h)

  -- ---- what each call answers for accepted classes, and that its class is accepted
  pub opposite_gives : {a : Class} → Accepts c a → result (opposite_answer c a) ≡ gives (class_of d (opposite C (pair d a)))
  unfolding opposite_answer
  opposite_gives h = answered_none _ _ h.none

  pub double_gives : {a : Class} → Accepts c a → result (double_answer c a) ≡ gives (class_of d (double C (pair d a)))
  unfolding double_answer double
  double_gives h = answered_none _ _ h.none

  pub half_gives : {a : Class} → Accepts c a → result (half_answer c a) ≡ gives (class_of d (half C (pair d a)))
  unfolding half_answer
  half_gives h = answered_none _ _ h.none

  pub sum_gives : {a b : Class} → Accepts c a → Accepts c b
      → result (sum_answer c a b) ≡ gives (class_of d (sum C (pair d a) (pair d b)))
  unfolding sum_answer sum
  sum_gives h k = answered_none _ _ (accepts_two h k)

  pub opposite_accepts : {a : Class} → Accepts c a → Accepts c (opposite_answer c a).class
  opposite_accepts h = class_accepts h _ (opposite_reduced C (reduced h)) (opposite_gives h)

  pub opposite_degree : {a : Class} → Accepts c a → (opposite_answer c a).class.degree ≡ a.degree
  unfolding class_of
  opposite_degree {a} h =
      ap (λ (r : Result). r.class.degree) (opposite_gives h)
      ∙ ap (λ (u : Poly d). (𝔸 d).len u - 1) (opposite_u C (pair d a))
      ∙ ap (λ (b : Class). b.degree) (class_of_pair c a h)

  pub double_accepts : {a : Class} → Accepts c a → Accepts c (double_answer c a).class
  double_accepts h = class_accepts h _ (double_reduced C (reduced h)) (double_gives h)

  -- demand 3: every accepted class has a half
  pub half_accepts : {a : Class} → Accepts c a → Accepts c (half_answer c a).class
  half_accepts h = class_accepts h _ (half_reduced C (reduced h)) (half_gives h)

  pub sum_accepts : {a b : Class} → Accepts c a → Accepts c b → Accepts c (sum_answer c a b).class
  sum_accepts h k = class_accepts h _ (sum_reduced C (reduced h) (reduced k)) (sum_gives h k)

  -- ---- demand 3
  half_doubled : {a : Class} → Accepts c a → IsHalf c a (half_answer c a).class
  half_doubled h = ap (double C) (class_pair _ (half_reduced C (reduced h)) (half_gives h)) ∙ double_half C (reduced h)

  pub double_of_half : {a : Class} → Accepts c a → result (double_answer c (half_answer c a).class) ≡ gives a
  double_of_half h = double_gives (half_accepts h) ∙ value_is h (half_doubled h)

  pub half_of_double : {a : Class} → Accepts c a → result (half_answer c (double_answer c a).class) ≡ gives a
  half_of_double h =
      half_gives (double_accepts h)
      ∙ value_is h (ap (half C) (class_pair _ (double_reduced C (reduced h)) (double_gives h)) ∙ half_double C (reduced h))

  -- the only accepted class whose double is a
  pub only_half : {a b : Class} → Accepts c a → Accepts c b → result (double_answer c b) ≡ gives a → b ≡ (half_answer c a).class
  only_half h k e =
      sym (ap (λ (r : Result). r.class) (half_of_double k)) ∙ ap (λ (r : Result). (half_answer c r.class).class) e

  -- the same of the theory's double, as a record
  pub half_is_only : {a : Class} → Accepts c a → Only c (IsHalf c a) (half_answer c a).class
  half_is_only h =
      record {
        accepts = half_accepts h;
        holds = half_doubled h;
        only = λ b k e. only_half h k (double_gives k ∙ value_is h e);
      }

  -- ---- the group, by value
  -- the class by value of a pair whose u has degree 0 is the neutral one
  of_degree_0 : (D : Pair (Poly d)) → (𝔸 d).len D.u - 1 ≡ 0 → class_of d D ≡ neutral_class
  unfolding class_of numbers neutral_class
  of_degree_0 D e = ap (λ (n : ℕ). record { degree = n; u = numbers d n D.u; v = numbers d n D.v }) e

  pub neutral_value : class_of d (neutral C) ≡ neutral_class
  unfolding neutral
  neutral_value = of_degree_0 (neutral C) (ap (λ (n : ℕ). n - 1) (len_one (𝔸 d)))

  -- no other accepted class has degree 0
  pub only_neutral : {a : Class} → Accepts c a → a.degree ≡ 0 → a ≡ neutral_class
  unfolding class_of
  only_neutral {a} h e =
      let same = class_of_pair c a h in
      sym same ∙ of_degree_0 (pair d a) (ap (λ (b : Class). b.degree) same ∙ e)

  pub neutral_accepts : curve_refusal c ≡ 0 → Accepts c neutral_class
  neutral_accepts ok = subst (Accepts c) neutral_value (class_of_accepted c ok (neutral C) (neutral_reduced C))

  neutral_pair : pair d neutral_class ≡ neutral C
  neutral_pair = ap (pair d) (sym neutral_value) ∙ pair_class_of d C (neutral C) (neutral_reduced C)

  -- a class plus the neutral one is the class
  pub sum_answer_neutral : {a : Class} → Accepts c a → result (sum_answer c a neutral_class) ≡ gives a
  sum_answer_neutral {a} h =
      sum_gives h (neutral_accepts (accepts_curve h))
      ∙ value_is h (ap (sum C (pair d a)) neutral_pair ∙ sum_neutral C (reduced h))

  -- a class plus its opposite is neutral
  pub sum_answer_opposite : {a : Class} → Accepts c a → result (sum_answer c a (opposite_answer c a).class) ≡ gives neutral_class
  sum_answer_opposite {a} h =
      sum_gives h (opposite_accepts h)
      ∙ value_is (neutral_accepts (accepts_curve h))
      (ap (sum C (pair d a)) (class_pair _ (opposite_reduced C (reduced h)) (opposite_gives h))
      ∙ sum_opposite C (reduced h)
      ∙ sym neutral_pair)

  pub sum_answer_comm : {a b : Class} → Accepts c a → Accepts c b → result (sum_answer c a b) ≡ result (sum_answer c b a)
  sum_answer_comm h k = sum_gives h k ∙ ap (λ D. gives (class_of d D)) (sum_comm C (reduced h) (reduced k)) ∙ sym (sum_gives k h)

  pub sum_answer_assoc : {a b e : Class} → Accepts c a → Accepts c b → Accepts c e
      → result (sum_answer c (sum_answer c a b).class e) ≡ result (sum_answer c a (sum_answer c b e).class)
  sum_answer_assoc {a} {b} {e} h k l =
      sum_gives (sum_accepts h k) l
      ∙ ap (λ D. gives (class_of d D))
      (ap (λ z. sum C z (pair d e)) (class_pair _ (sum_reduced C (reduced h) (reduced k)) (sum_gives h k))
      ∙ sum_assoc C (reduced h) (reduced k) (reduced l)
      ∙ ap (sum C (pair d a)) (sym (class_pair _ (sum_reduced C (reduced k) (reduced l)) (sum_gives k l))))
      ∙ sym (sum_gives h (sum_accepts k l))
