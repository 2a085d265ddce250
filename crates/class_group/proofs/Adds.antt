-- Operations on reduced classes that multiply their ideals up to equivalence, by whatever computation (`Adds`).
-- `short_is_neutral`: a semi-reduced pair with u of degree 0 is the neutral class.
-- `adds_group`: the reduced classes are a commutative group under such an operation, with [1, 0] as the neutral class
-- and `opposite` as the opposite.
use Prim.Native.Nat.{◌≤◌, ◌<◌}
use mathlib.Core.Path.{◌≡◌, sym, ◌∙◌, ap}
use native.Mathlib.{Omega.arith, Decide.dec_le}
use Rattle.field_laws.specs.{Field.Field2}
use Rattle.char2_algebra.specs.{Polynomials.Polynomials, Divides.Divides, Lead.monic_of, Euclid.Bezout3}
use Rattle.char2_algebra.proofs.{Ring.ring2, Ring.·_𝟙, Degree.len_zero, Degree.len_one, Product.mul_nonzero, Product.cancel_left, Lead.monic_constant, Lead.monic_nonzero, Lead.len_monic_of}
use Rattle.char2_algebra.proofs.Divides.{divides_eq, divides_refl, one_divides, divides_zero}
use Rattle.class_group.specs.Composition.{Combines, composed_monic}
use Rattle.class_group.specs.{Curve.Curve, Composition.composed, Group.CommutativeGroup}
use Rattle.class_group.specs.Mumford.{Pair, Reduced, value, neutral, opposite}
use Rattle.class_group.proofs.{PairIdeal.pair_ideal_ideal, PairIdeal.pair_ideal_one, Uniqueness.reduced_unique, SemiReduced.SemiReduced, SemiReduced.semi_of_reduced}
use Rattle.class_group.proofs.Ideal.{Product, Equivalent, ~_sym, ~_product, product_comm, product_assoc, product_assoc⁻¹, product_whole, product_whole⁻¹, product_within}
use Rattle.class_group.proofs.Composed.{composed_semi, composed_u_divides}
use Rattle.class_group.proofs.Closed.{opposite_long, opposite_short, opposite_reduced, neutral_reduced}
use Rattle.class_group.proofs.Classes.{functions, ideal, equal_class, transitive, composed_class}

module _ {K P : Type 0} {F : Field2 K} {A : Polynomials F P} (C : Curve A) where
  open A use {ring as R, len, quot, rem}
  open A.ring use {add as ◌⊞◌, mul as ◌·◌, zero as 𝟘, one as 𝟙}
  open C use {f, f_len}

  infixl 60 ◌⊞◌
  infixl 70 ◌·◌
  pub short_is_neutral : {D : Pair P} → SemiReduced C D → len D.u ≤ 1 → D ≡ neutral C
  unfolding neutral
  short_is_neutral {D} s h =
      let l : len D.v < len D.u = s.v_len in
      λ i. record { u = monic_constant A D.u s.u_monic h i; v = len_zero A D.v (omega arith) i }

  abbrev ◌~◌ : (I J : P × P → Type 0) → Type 0
  I ~ J = Equivalent (functions C) I J

  abbrev ◌⊗◌ : (I J : P × P → Type 0) → P × P → Type 0
  I ⊗ J = Product (functions C) I J

  infix 50 ◌~◌
  infixl 60 ◌⊗◌
  -- products with the neutral class, and with the opposite
  neutral_class : {D : Pair P} → Reduced C D → ideal C D ⊗ ideal C (neutral C) ~ ideal C D
  unfolding neutral value
  neutral_class {D} r =
      equal_class C
      (λ x h. product_whole (functions C) (pair_ideal_ideal R f D.u D.v r.divides) x (product_within (functions C) (λ y k. tt) (λ y k. k) x (product_comm (functions C) x h)))
      (λ x h. product_comm (functions C) x (product_within (functions C) (pair_ideal_one R f) (λ y k. k) x (product_whole⁻¹ (functions C) x h)))

  opposite_u : (D : Pair P) → (opposite C D).u ≡ D.u
  opposite_u D = elim (dec_le (len D.u) 1) [
    | yes h ↦ ap (λ E. E.u) (opposite_short C D h)
    | no h ↦ ap (λ E. E.u) (opposite_long C D (omega arith))
  ]

  opposite_divides : {D : Pair P} → Reduced C D → Divides R D.u (D.v ⊞ (opposite C D).v ⊞ 𝟙)
  opposite_divides {D} r = elim (dec_le (len D.u) 1) [
    | yes h ↦ rw (monic_constant A D.u r.u_monic h) (one_divides R _)
    | no h ↦ rw (opposite_long C D (omega arith)) (divides_eq R (twice D.v) (divides_zero R D.u))
  ]
    where
      twice : (v : P) → 𝟘 ≡ v ⊞ (v ⊞ 𝟙) ⊞ 𝟙
      twice v = simp (ring2, R)

  opposite_bezout : Pair P → Bezout3 P
  opposite_bezout D = record { e = D.u; s1 = 𝟙; s2 = 𝟘; s3 = 𝟘 }

  opposite_combines : {D : Pair P} → Reduced C D → Combines C D (opposite C D) (opposite_bezout D)
  unfolding opposite_bezout
  opposite_combines {D} r = record {
    combination = only D.u (opposite C D).u (D.v ⊞ (opposite C D).v ⊞ 𝟙);
    divides_first = divides_refl R D.u;
    divides_second = divides_eq R (sym (opposite_u D)) (divides_refl R D.u);
    divides_third = opposite_divides r;
  }
    where
      only : (u u' c : P) → u ≡ 𝟙 · u ⊞ 𝟘 · u' ⊞ 𝟘 · c
      only u u' c = simp (ring2, R)

  opposite_composed : {D : Pair P} → Reduced C D → composed_monic C (opposite_bezout D) D (opposite C D) ≡ neutral C
  unfolding opposite_bezout composed_monic
  opposite_composed {D} r =
      let r' = semi_of_reduced C r in
      let s' = semi_of_reduced C (opposite_reduced C r) in
      let u≢𝟘 = monic_nonzero A D.u r.u_monic in
      let U = (composed C (opposite_bezout D) D (opposite C D)).u in
      let one : U ≡ 𝟙 =
      cancel_left A (D.u · D.u) U 𝟙 (mul_nonzero A D.u D.u u≢𝟘 u≢𝟘)
      (sym (composed_u_divides C r' s' (opposite_combines r)) ∙ ap (λ z. D.u · z) (opposite_u D) ∙ sym (·_𝟙 R (D.u · D.u)))
      in
      let l : len (monic_of A U) ≡ 1 = len_monic_of A U ∙ ap len one ∙ len_one A in
      short_is_neutral (composed_semi C r' s' (opposite_combines r)) (omega arith)

  opposite_class : {D : Pair P} → Reduced C D → ideal C D ⊗ ideal C (opposite C D) ~ ideal C (neutral C)
  opposite_class {D} r =
      rw (opposite_composed r) at
      (composed_class C (semi_of_reduced C r) (semi_of_reduced C (opposite_reduced C r)) (opposite_combines r))

  -- products of ideals, up to equivalence
  comm_class : {I J : P × P → Type 0} → I ⊗ J ~ J ⊗ I
  comm_class = equal_class C (product_comm (functions C)) (product_comm (functions C))

  assoc_class : {I J M : P × P → Type 0} → I ⊗ J ⊗ M ~ I ⊗ (J ⊗ M)
  assoc_class = equal_class C (product_assoc (functions C)) (product_assoc⁻¹ (functions C))

  right_class : {I J M : P × P → Type 0} → I ~ J → M ⊗ I ~ M ⊗ J
  right_class h = transitive C comm_class (transitive C (~_product (functions C) h) comm_class)

  -- `plus` gives reduced classes, and its ideal is equivalent to the product of the two ideals
  pub record Adds (plus : Pair P → Pair P → Pair P) : Type 0 where
    pub closed : {D E : Pair P} → Reduced C D → Reduced C E → Reduced C (plus D E)
    pub class : {D E : Pair P} → Reduced C D → Reduced C E → ideal C D ⊗ ideal C E ~ ideal C (plus D E)

  -- equal sums from equivalent products
  sums_equal : {plus plus' : Pair P → Pair P → Pair P} → Adds plus → Adds plus' → {D E D' E' : Pair P}
      → Reduced C D → Reduced C E → Reduced C D' → Reduced C E' → ideal C D ⊗ ideal C E ~ ideal C D' ⊗ ideal C E' → plus D E ≡ plus' D' E'
  sums_equal a b r s r' s' h =
      reduced_unique C (a.closed r s) (b.closed r' s') (transitive C (~_sym (functions C) (a.class r s)) (transitive C h (b.class r' s')))

  pub adds_group : {plus : Pair P → Pair P → Pair P} → Adds plus → CommutativeGroup (Reduced C) plus (neutral C) (opposite C)
  adds_group a = record {
    sum_closed = λ r s. a.closed r s;
    neutral_closed = neutral_reduced C;
    opposite_closed = λ r. opposite_reduced C r;
    comm = λ r s. sums_equal a a r s s r comm_class;
    assoc = λ r s t.
        sums_equal a a (a.closed r s) t r (a.closed s t)
        (transitive C (~_product (functions C) (~_sym (functions C) (a.class r s))) (transitive C assoc_class (right_class (a.class s t))));
    sum_neutral = λ r.
        reduced_unique C (a.closed r (neutral_reduced C)) r (transitive C (~_sym (functions C) (a.class r (neutral_reduced C))) (neutral_class r));
    sum_opposite = λ r.
        reduced_unique C (a.closed r (opposite_reduced C r)) (neutral_reduced C)
        (transitive C (~_sym (functions C) (a.class r (opposite_reduced C r))) (opposite_class r));
  }
