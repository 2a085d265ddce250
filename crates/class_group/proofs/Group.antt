-- The reduced classes are a commutative group under Cantor's sum, in which doubling is injective.
-- `sum_adds`: the sum multiplies ideals up to equivalence.
-- `classes`: the reduced classes are a commutative group under the sum.
-- `sum_comm`: the sum is commutative.
-- `sum_assoc`: the sum is associative.
-- `sum_neutral`: the sum with the neutral class is the class.
-- `sum_opposite`: the sum with the opposite is the neutral class.
-- `sum_independent`: the sum does not depend on the coefficients by which e is combined, nor on e being monic.
-- `double_sum`: the double is the sum with itself.
-- `sum_from_class`: a reduced class whose ideal is equivalent to the product of the ideals of two classes is their sum.
-- `double_from_class`: a reduced class whose ideal is equivalent to the square of the ideal of a class is its double.
-- `no_torsion`: only the neutral class has the neutral class as its double.
-- `double_injective`: a class is the double of at most one class.
-- `class_doubling`: the reduced classes are a commutative group in which doubling is injective.
use mathlib.Core.Path.{◌≡◌, sym, ◌∙◌, ap}
use native.Mathlib.{Omega.arith, Decide.dec_le}
use Rattle.field_laws.specs.{Field.Field2}
use Rattle.char2_algebra.specs.{Polynomials.Polynomials, Euclid.Bezout3, Euclid.bezout3}
use Rattle.char2_algebra.proofs.{Ring.ring2, Ring.by, Ring.combine, Degree.one_nonzero}
use Rattle.class_group.specs.Composition.{Combines, composed_monic}
use Rattle.class_group.specs.{Curve.Curve, Reduction.reduce, Group.CommutativeGroup, Group.Doubling}
use Rattle.class_group.specs.Mumford.{Pair, Reduced, neutral, opposite}
use Rattle.class_group.specs.Operations.{counted_sum, counted_double, sum, double}
use Rattle.class_group.proofs.{Ideal.Product, Ideal.Equivalent, Ideal.~_sym, Uniqueness.reduced_unique, SemiReduced.semi_of_reduced}
use Rattle.class_group.proofs.{Closed.opposite_long, Closed.sum_reduced, Adds.Adds, Adds.adds_group, Adds.short_is_neutral}
use Rattle.class_group.proofs.GroupLaws.{opposite_unique, doubling_injective}
use Rattle.class_group.proofs.Composed.{composed_semi, composed_reduces, compose_is, compose_double_is, bezout3_combines, unit_combines}
use Rattle.class_group.proofs.Classes.{functions, ideal, transitive, composed_class, reduce_class}

module _ {K P : Type 0} {F : Field2 K} {A : Polynomials F P} (C : Curve A) where
  open A use {ring as R, len}
  open A.ring use {add as ◌⊞◌, zero as 𝟘, one as 𝟙}

  infixl 60 ◌⊞◌
  -- composition by any coefficients of e, and reduction
  reduced_class : {D E : Pair P} {b : Bezout3 P} → Reduced C D → Reduced C E → Combines C D E b
      → Equivalent (functions C) (Product (functions C) (ideal C D) (ideal C E)) (ideal C (reduce C (composed_monic C b D E)).class)
  reduced_class r s B =
      let r' = semi_of_reduced C r in
      let s' = semi_of_reduced C s in
      transitive C (composed_class C r' s' B) (reduce_class C (composed_semi C r' s' B))

  sum_is : {D E : Pair P} → Reduced C D → Reduced C E
      → sum C D E ≡ (reduce C (composed_monic C (bezout3 A D.u E.u (D.v ⊞ E.v ⊞ 𝟙)) D E)).class
  unfolding sum counted_sum
  sum_is r s = ap (λ z. (reduce C z).class) (compose_is C r s)

  pub sum_adds : Adds C (sum C)
  sum_adds = record {
    closed = λ r s. sum_reduced C r s;
    class = λ {D} {E} r s. rw (sum_is r s) (reduced_class r s (bezout3_combines C D E));
  }

  -- demand 2: the reduced classes are a commutative group under the sum
  pub classes : CommutativeGroup (Reduced C) (sum C) (neutral C) (opposite C)
  classes = adds_group C sum_adds

  pub sum_comm : {D E : Pair P} → Reduced C D → Reduced C E → sum C D E ≡ sum C E D
  sum_comm r s = classes.comm r s

  pub sum_assoc : {D E G : Pair P} → Reduced C D → Reduced C E → Reduced C G → sum C (sum C D E) G ≡ sum C D (sum C E G)
  sum_assoc r s t = classes.assoc r s t

  pub sum_neutral : {D : Pair P} → Reduced C D → sum C D (neutral C) ≡ D
  sum_neutral r = classes.sum_neutral r

  pub sum_opposite : {D : Pair P} → Reduced C D → sum C D (opposite C D) ≡ neutral C
  sum_opposite r = classes.sum_opposite r

  -- demand 2: any combination e of u1, u2 and v1 + v2 + 1 that divides them; if e is not monic, u is made monic
  pub sum_independent : {D E : Pair P} {b : Bezout3 P} → Reduced C D → Reduced C E → Combines C D E b
      → (reduce C (composed_monic C b D E)).class ≡ sum C D E
  sum_independent r s B =
      reduced_unique C (composed_reduces C r s B).reduced (sum_reduced C r s)
      (transitive C (~_sym (functions C) (reduced_class r s B)) (sum_adds.class r s))

  -- demand 2: the double is the sum with itself
  pub double_sum : {D : Pair P} → Reduced C D → double C D ≡ sum C D D
  unfolding double counted_double
  double_sum {D} r = ap (λ z. (reduce C z).class) (compose_double_is C r) ∙ sum_independent r r (unit_combines C D)

  pub sum_from_class : {D E G : Pair P} → Reduced C D → Reduced C E → Reduced C G
      → Equivalent (functions C) (Product (functions C) (ideal C D) (ideal C E)) (ideal C G) → sum C D E ≡ G
  sum_from_class r s t h = reduced_unique C (sum_reduced C r s) t (transitive C (~_sym (functions C) (sum_adds.class r s)) h)

  pub double_from_class : {D G : Pair P} → Reduced C D → Reduced C G
      → Equivalent (functions C) (Product (functions C) (ideal C D) (ideal C D)) (ideal C G) → double C D ≡ G
  double_from_class r t h = double_sum r ∙ sum_from_class r r t h

  -- demand 3: [u, v] = [u, v + 1] implies u = 1
  pub no_torsion : {D : Pair P} → Reduced C D → sum C D D ≡ neutral C → D ≡ neutral C
  no_torsion {D} r e = elim (dec_le (len D.u) 1) [
    | yes h ↦ short_is_neutral C (semi_of_reduced C r) h
    | no h ↦ absurd (one_nonzero A (added D.v (ap (λ z. z.v) (opposite_unique classes r r e ∙ opposite_long C D (omega arith)))))
  ]
    where
      added : (v : P) → v ≡ v ⊞ 𝟙 → 𝟙 ≡ 𝟘
      added v h = combine R 𝟙 𝟘 (by R 𝟙 h) (simp (ring2, R))

  -- demand 3: a class is the double of at most one class
  pub double_injective : {D E : Pair P} → Reduced C D → Reduced C E → double C D ≡ double C E → D ≡ E
  double_injective r s e =
      doubling_injective classes (λ a m h. no_torsion m h) r s (sym (double_sum r) ∙ e ∙ double_sum s)

  pub class_doubling : Doubling (Reduced C) (sum C) (neutral C) (opposite C) (double C)
  class_doubling = record { group = classes; double_sum = λ r. double_sum r; double_injective = λ r s e. double_injective r s e }
