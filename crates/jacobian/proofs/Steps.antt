-- The reduction steps that the answers say (docs/SPECIFICATION.md, 2): at most two for each sum and each double.
-- `sum_steps`, `double_steps`: a sum and a double make at most two, whatever their input.
-- `double_and_add_steps`: a double and a sum together make at most four.
-- `subtract_and_halve_steps`: a difference and its half make at most two.
-- `opposite_steps`, `half_steps`: an opposite and a half make none.
use Prim.Native.Nat.{ℕ, zero, suc, ◌≤◌}
use mathlib.Core.Path.{◌≡◌, refl}
use native.Mathlib.Omega.{arith}
use Rattle.class_group.specs.{Reduction.Counted, Mumford.Reduced, Operations.counted_sum, Operations.counted_double, Operations.double, Moves.counted_double_and_add, Moves.counted_subtract_and_halve}
use Rattle.class_group.proofs.Closed as theory
use Rattle.row_theory.specs.Field.{Poly}
use Rattle.jacobian.specs.{Curves.curve, Classes.pair, Answer.answered, Answer.refusal, Answer.refusal_of_two}
use Rattle.jacobian.specs.Answer.{opposite_answer, double_answer, half_answer, sum_answer, double_and_add_answer, subtract_and_halve_answer}
use Rattle.jacobian.specs.declared.{Curve.Curve, Class.Class}
use Rattle.jacobian.proofs.Calls.{reduced, two_accept}

-- a refusal makes no step, so that a bound has to hold of accepted classes alone
answered_steps : (d n k : ℕ) (D : Counted (Poly d)) → (n ≡ 0 → D.steps ≤ k) → (answered d n D).steps ≤ k
unfolding answered
answered_steps d zero k D h = h refl
answered_steps d (suc n) k D h = omega arith

no_steps : (d n : ℕ) (D : Counted (Poly d)) → D.steps ≡ 0 → (answered d n D).steps ≡ 0
unfolding answered
no_steps d zero D h = h
no_steps d (suc n) D h = refl

module _ (c : Curve) (a : Class) where
  one : refusal c a ≡ 0 → Reduced (curve c) (pair c.degree a)
  one e = reduced c (record { none = e })

  pub opposite_steps : (opposite_answer c a).steps ≡ 0
  unfolding opposite_answer
  opposite_steps = no_steps c.degree (refusal c a) _ refl

  pub half_steps : (half_answer c a).steps ≡ 0
  unfolding half_answer
  half_steps = no_steps c.degree (refusal c a) _ refl

  pub double_steps : (double_answer c a).steps ≤ 2
  unfolding double_answer
  double_steps = answered_steps c.degree (refusal c a) 2 _ (λ e. theory.double_steps (curve c) (one e))

module _ (c : Curve) (a b : Class) where
  two : refusal_of_two c a b ≡ 0 → Reduced (curve c) (pair c.degree a) × Reduced (curve c) (pair c.degree b)
  two e = let h = two_accept c a b e in (reduced c h.0, reduced c h.1)

  pub sum_steps : (sum_answer c a b).steps ≤ 2
  unfolding sum_answer
  sum_steps = answered_steps c.degree (refusal_of_two c a b) 2 _ (λ e. let h = two e in theory.sum_steps (curve c) h.0 h.1)

  pub double_and_add_steps : (double_and_add_answer c a b).steps ≤ 4
  unfolding double_and_add_answer counted_double_and_add double
  double_and_add_steps = answered_steps c.degree (refusal_of_two c a b) 4 _ (λ e.
      let h = two e in
      let D = pair c.degree a in
      let x : (counted_double (curve c) D).steps ≤ 2 = theory.double_steps (curve c) h.0 in
      let y : (counted_sum (curve c) (counted_double (curve c) D).class (pair c.degree b)).steps ≤ 2 = theory.sum_steps (curve c) (theory.double_reduced (curve c) h.0) h.1 in
      omega arith)

  pub subtract_and_halve_steps : (subtract_and_halve_answer c a b).steps ≤ 2
  unfolding subtract_and_halve_answer counted_subtract_and_halve
  subtract_and_halve_steps = answered_steps c.degree (refusal_of_two c a b) 2 _ (λ e.
      let h = two e in
      theory.sum_steps (curve c) h.0 (theory.opposite_reduced (curve c) h.1))
