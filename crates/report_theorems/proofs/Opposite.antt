-- `opposite_written`: the opposite of an accepted class of degree 1 to 3 has its degree, its u and its v plus 1.
-- `opposite_neutral`: the neutral class is its own opposite.
use Prim.Native.Nat.{ℕ, zero, suc, ◌-◌, ◌<◌}
use mathlib.Core.Path.{◌≡◌, refl, ap, ◌∙◌}
use mathlib.Core.List.{List}
use native.Mathlib.Omega.{arith}
use borrow.Author.Tests.{lt-ltb}
use Rattle.binary_field_theory.specs.Carryless.{◌⊕◌}
use Rattle.binary_field.specs.Field.{field, ring}
use Rattle.char2_algebra.proofs.Degree.{coeff_one, coeff_one_suc}
use Rattle.class_group.specs.Mumford.{Pair, opposite}
use Rattle.row_theory.specs.Field.{Poly, 𝔸, F, K}
use Rattle.jacobian.specs.{Curves.curve, Classes.pair, Classes.numbers, Classes.class_of, Answer.Accepts, Answer.neutral_class, Answer.Result, Group.opposite_of, declared.Curve.Curve, declared.Class.Class}
use Rattle.jacobian.proofs.{Calls.opposite_gives, Calls.only_neutral, Calls.opposite_accepts, Calls.opposite_degree, Representation.class_of_pair}
use Rattle.report_theorems.specs.Letters.{plus_one, opposite_class}

module _ (d : ℕ) where
  add_one : (p : Poly d) → ((𝔸 d).coeff ((𝔸 d).ring.add p (𝔸 d).ring.one) 0).0 ≡ ((𝔸 d).coeff p 0).0 ⊕ 1
  unfolding F field ring
  add_one p = ap (λ (e : K d). e.0) ((𝔸 d).coeff_add p (𝔸 d).ring.one 0 ∙ ap ((F d).ring.add ((𝔸 d).coeff p 0)) (coeff_one (𝔸 d)))

  add_one_suc : (p : Poly d) (i : ℕ) → ((𝔸 d).coeff ((𝔸 d).ring.add p (𝔸 d).ring.one) (suc i)).0 ≡ ((𝔸 d).coeff p (suc i)).0
  add_one_suc p i =
      ap (λ (e : K d). e.0)
      ((𝔸 d).coeff_add p (𝔸 d).ring.one (suc i) ∙ ap ((F d).ring.add ((𝔸 d).coeff p (suc i))) (coeff_one_suc (𝔸 d) i) ∙ (F d).ring.add_zero ((𝔸 d).coeff p (suc i)))

  numbers_plus_one : (n : ℕ) → 0 < n → (p : Poly d) → numbers d n ((𝔸 d).ring.add p (𝔸 d).ring.one) ≡ plus_one (numbers d n p)
  unfolding numbers
  numbers_plus_one n h p = rw (lt-ltb 0 n h, add_one p, add_one_suc p 0, add_one_suc p 1)

module _ (c : Curve) where
  abbrev d : ℕ
  d = c.degree

  long_opposite : (D : Pair (Poly d)) → 1 < (𝔸 d).len D.u → opposite (curve c) D ≡ record { u = D.u; v = (𝔸 d).ring.add D.v (𝔸 d).ring.one }
  unfolding opposite
  long_opposite D h = rw (lt-ltb 1 ((𝔸 d).len D.u) h, opposite)

  written : {a : Class} → Accepts c a → 0 < a.degree → opposite_of c a ≡ opposite_class a
  unfolding class_of
  written {a} h some =
      let D : Pair (Poly d) = pair d a in
      let n : ℕ = (𝔸 d).len D.u - 1 in
      let same : n ≡ a.degree = ap (λ (x : Class). x.degree) (class_of_pair c a h) in
      ap (λ (r : Result). r.class) (opposite_gives c h)
      ∙ ap (class_of d) (long_opposite D (omega (arith, same, some)))
      ∙ ap (λ (r : List ℕ). record { degree = n; u = numbers d n D.u; v = r }) (numbers_plus_one d n (omega (arith, same, some)) D.v)
      ∙ ap opposite_class (class_of_pair c a h)

  pub opposite_written : {a : Class} → Accepts c a → ¬ (a ≡ neutral_class) → opposite_of c a ≡ opposite_class a
  opposite_written {a} h other = go a.degree refl
    where
      go : (n : ℕ) → a.degree ≡ n → opposite_of c a ≡ opposite_class a
      go zero e = absurd (other (only_neutral c h e))
      go (suc n) e = written h (omega (arith, e))

  pub opposite_neutral : Accepts c neutral_class → opposite_of c neutral_class ≡ neutral_class
  unfolding neutral_class
  opposite_neutral h = only_neutral c (opposite_accepts c h) (opposite_degree c h)
