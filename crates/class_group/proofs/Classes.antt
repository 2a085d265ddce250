-- Pairs and the classes of their ideals.
-- `equal_class`, `transitive`: equal ideals are equivalent, and equivalence is transitive.
-- `same_class`: pairs that agree in u up to a unit and in v modulo u have equivalent ideals.
-- `reduce_class`: reduction keeps the class of a semi-reduced pair.
-- `composed_class`: the composition of two pairs by any coefficients of e has the class of the product of their ideals.
use Rattle.field_laws.specs.{Ring.Ring2, Field.Field2}
use Rattle.char2_algebra.specs.{Polynomials.Polynomials, Divides.Divides, Lead.monic_of, Euclid.Bezout3}
use Rattle.char2_algebra.proofs.{Ring.⊞_comm, Degree.one_nonzero, Product.cancel_left, Division.rem_divides}
use Rattle.char2_algebra.proofs.{Divides.divides_eq, Divides.divides_trans, Lead.monic_of_divides, Lead.divides_monic_of, Lead.monic_of_nonzero}
use Rattle.class_group.specs.Composition.{Combines, composed_monic}
use Rattle.class_group.specs.{Curve.Curve, Mumford.Pair, Mumford.value, Composition.composed, Reduction.reduction_step, Reduction.reduce}
use Rattle.class_group.proofs.{Coordinate.coordinate, Norm.coordinate_domain, Norm.coordinate_one, Reduction.~_step, Composition.~_composed}
use Rattle.class_group.proofs.PairIdeal.{pair_ideal, pair_ideal_modulo, pair_ideal_divisor}
use Rattle.class_group.proofs.Ideal.{Within, Product, Equivalent, ~_of_equal, ~_trans}
use Rattle.class_group.proofs.SemiReduced.{SemiReduced, cofactor_eq, cofactor_nonzero, reduce_keeps}
use Rattle.class_group.proofs.Composed.{full_v, composition, composed_v}

module _ {K P : Type 0} {F : Field2 K} {A : Polynomials F P} (C : Curve A) where
  open A use {ring as R, len, quot, rem}
  open A.ring use {add as ◌⊞◌, mul as ◌·◌, zero as 𝟘, one as 𝟙}
  open C use {f, f_len}

  infixl 60 ◌⊞◌
  infixl 70 ◌·◌
  -- the coordinate ring of the curve
  abbrev pub functions : Ring2 (P × P)
  functions = coordinate R f

  -- the ideal of a pair in the coordinate ring
  abbrev pub ideal : Pair P → P × P → Type 0
  ideal D = pair_ideal R D.u D.v

  abbrev pub ◌~◌ : (I J : P × P → Type 0) → Type 0
  I ~ J = Equivalent functions I J

  infix 50 ◌~◌
  pub equal_class : {I J : P × P → Type 0} → Within functions I J → Within functions J I → I ~ J
  equal_class h k = ~_of_equal functions (coordinate_one A f f_len) h k

  pub transitive : {I J M : P × P → Type 0} → I ~ J → J ~ M → I ~ M
  transitive h k = ~_trans functions (coordinate_domain A f f_len) h k

  pub same_class : (D E : Pair P) → Divides R E.u D.u → Divides R D.u E.u → Divides R E.u (D.v ⊞ E.v) → ideal D ~ ideal E
  same_class D E d d' m = equal_class
      (λ x h. pair_ideal_modulo R f E.u D.v E.v m x (pair_ideal_divisor R f D.u E.u D.v d x h))
      (λ x h. pair_ideal_divisor R f E.u D.u D.v d' x (pair_ideal_modulo R f E.u E.v D.v (divides_eq R (⊞_comm R D.v E.v) m) x h))

  step_class : {D : Pair P} → SemiReduced C D → ideal D ~ ideal (reduction_step C D)
  unfolding reduction_step value
  step_class {D} s =
      let w = quot (value C D.v) D.u in
      transitive
      (~_step R f D.u D.v w (cofactor_eq C s) (one_nonzero A) (cofactor_nonzero C s))
      (same_class (record { u = w; v = D.v ⊞ 𝟙 }) (reduction_step C D) (monic_of_divides A w) (divides_monic_of A w)
      (rem_divides A (monic_of A w) (monic_of_nonzero A w (cofactor_nonzero C s)) (D.v ⊞ 𝟙)))

  pub reduce_class : {D : Pair P} → SemiReduced C D → ideal D ~ ideal (reduce C D).class
  reduce_class {D} s = reduce_keeps C (λ E. ideal D ~ ideal E) (λ E t h. transitive h (step_class t)) D s (equal_class (λ x h. h) (λ x h. h))

  pub composed_class : {D E : Pair P} {b : Bezout3 P} → SemiReduced C D → SemiReduced C E → Combines C D E b
      → Product functions (ideal D) (ideal E) ~ ideal (composed_monic C b D E)
  unfolding composed_monic
  composed_class {D} {E} {b} r s B =
      let U = (composed C b D E).u in
      transitive
      (~_composed R f (cancel_left A) (composition C r s B) (one_nonzero A))
      (same_class (record { u = U; v = full_v C b D E }) (composed_monic C b D E) (monic_of_divides A U) (divides_monic_of A U)
      (divides_trans R (monic_of_divides A U) (composed_v C r s B)))
