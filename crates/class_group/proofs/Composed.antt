-- The composition of two pairs by any coefficients of e, with u made monic.
-- `composed_semi`: of two semi-reduced pairs it is semi-reduced.
-- `composed_monic_len`: of two reduced classes it has u of degree at most 6.
-- `composed_reduces`: its reduction ends in a reduced class after at most two steps.
-- `compose_is`: Cantor's composition by Euclid's algorithm is a case of it.
-- `compose_double_is`: so is the composition of a double.
-- `compose_semi`: Cantor's composition of reduced classes is semi-reduced.
-- `compose_len`: it has u of degree at most 6.
-- `compose_double_semi`: the composition of a double is semi-reduced.
-- `compose_double_len`: it has u of degree at most 6.
use Prim.Native.Nat.{suc, ◌+◌, ◌≤◌, ◌<◌}
use mathlib.Core.Path.{◌≡◌, refl, sym, ◌∙◌, ap, ap₂}
use native.Mathlib.Omega.{arith}
use Rattle.field_laws.specs.{Field.Field2}
use Rattle.char2_algebra.specs.{Polynomials.Polynomials, Divides.Divides, Lead.lead, Lead.Monic, Lead.monic_of, Euclid.Bezout3, Euclid.bezout3}
use Rattle.char2_algebra.proofs.{Degree.one_nonzero, Product.len_mul, Product.mul_nonzero, Product.cancel_left, Divides.divides_trans, Divides.one_divides, Euclid.bezout3_is, Euclid.bezout3_monic}
use Rattle.char2_algebra.proofs.Ring.{ring2, ·_comm, ·_𝟘, ·_𝟙}
use Rattle.char2_algebra.proofs.Division.{quot_exact, quot_mul, rem_divides, divides_len}
use Rattle.char2_algebra.proofs.Lead.{monic_nonzero, monic_mul, monic_cofactor, monic_of_monic, monic_of_divides, divides_monic_of, monic_antisym, monic_one, len_monic_of}
use Rattle.class_group.specs.{Curve.Curve, Mumford.Pair, Mumford.Reduced, Mumford.value, Composition.Combines, Composition.composed, Composition.composed_monic, Composition.compose, Composition.compose_double, Reduction.reduce}
use Rattle.class_group.proofs.Composition.{Composed, numerator_divides, composed_divides, composed_nonzero as parts_nonzero, Identities.double_bezout}
use Rattle.class_group.proofs.SemiReduced.{SemiReduced, semi_of_reduced, value_congruent, Ended, reduce_ended}

module _ {K P : Type 0} {F : Field2 K} {A : Polynomials F P} (C : Curve A) where
  open A use {ring as R, len, quot, rem}
  open A.ring use {add as ◌⊞◌, mul as ◌·◌, zero as 𝟘, one as 𝟙}
  open C use {f}

  infixl 60 ◌⊞◌
  infixl 70 ◌·◌
  pub bezout3_combines : (D E : Pair P) → Combines C D E (bezout3 A D.u E.u (D.v ⊞ E.v ⊞ 𝟙))
  bezout3_combines D E =
      let i = bezout3_is A D.u E.u (D.v ⊞ E.v ⊞ 𝟙) in
      record {
        combination = i.combination;
        divides_first = i.divides_first;
        divides_second = i.divides_second;
        divides_third = i.divides_third;
      }

  -- v before it is taken modulo u
  unfoldable pub full_v : Bezout3 P → Pair P → Pair P → P
  full_v b D E = quot (b.s1 · D.u · E.v ⊞ b.s2 · E.u · D.v ⊞ b.s3 · (D.v · E.v ⊞ f)) b.e

  module _ {D E : Pair P} {b : Bezout3 P} (r : SemiReduced C D) (s : SemiReduced C E) (B : Combines C D E b) where
    open D use {u as u₁, v as v₁}
    open E use {u as u₂, v as v₂}
    open b use {e, s1, s2, s3}

    pub e_nonzero : ¬ (e ≡ 𝟘)
    e_nonzero z = monic_nonzero A u₁ r.u_monic (B.divides_first.1 ∙ ap (λ t. B.divides_first.0 · t) z ∙ ·_𝟘 R B.divides_first.0)

    u_parts : quot (u₁ · u₂) (e · e) ≡ B.divides_first.0 · B.divides_second.0
    u_parts =
        let d₁ = B.divides_first.0 in
        let d₂ = B.divides_second.0 in
        ap (λ z. quot z (e · e)) (ap₂ ◌·◌ B.divides_first.1 B.divides_second.1 ∙ shuffle d₁ e d₂)
        ∙ quot_mul A (e · e) (mul_nonzero A e e e_nonzero e_nonzero) (d₁ · d₂)
      where
        shuffle : (p q s : P) → p · q · (s · q) ≡ p · s · (q · q)
        shuffle p q s = simp (ring2, R)

    pub composition : Composed R f u₁ v₁ u₂ v₂ (composed C b D E).u (full_v b D E)
    unfolding composed full_v value
    composition = record {
      w₁ = r.divides.0;
      w₂ = s.divides.0;
      e = e;
      s₁ = s1;
      s₂ = s2;
      s₃ = s3;
      d₁ = B.divides_first.0;
      d₂ = B.divides_second.0;
      c = B.divides_third.0;
      on₁ = r.divides.1;
      on₂ = s.divides.1;
      u₁≢𝟘 = monic_nonzero A u₁ r.u_monic;
      u₂≢𝟘 = monic_nonzero A u₂ s.u_monic;
      bezout = B.combination;
      part₁ = B.divides_first.1;
      part₂ = B.divides_second.1;
      part₃ = B.divides_third.1;
      u_is = u_parts;
      v_is =
          sym
          (quot_exact A e e_nonzero _
          (numerator_divides R f u₁ v₁ r.divides.0 u₂ v₂ e s1 s2 s3 B.divides_first.0 r.divides.1 B.combination B.divides_first.1)
          ∙ ·_comm R _ e);
    }

    pub composition_e : composition.e ≡ e
    unfolding composition
    composition_e = refl

    -- u is not 0, and no longer than u1 u2
    pub composed_u_divides : u₁ · u₂ ≡ e · e · (composed C b D E).u
    unfolding composed
    composed_u_divides = ap₂ ◌·◌ B.divides_first.1 B.divides_second.1 ∙ shuffle B.divides_first.0 e B.divides_second.0 ∙ ap (λ z. e · e · z) (sym u_parts)
      where
        shuffle : (p q s : P) → p · q · (s · q) ≡ q · q · (p · s)
        shuffle p q s = simp (ring2, R)

    u_product_nonzero : ¬ (u₁ · u₂ ≡ 𝟘)
    u_product_nonzero = mul_nonzero A u₁ u₂ (monic_nonzero A u₁ r.u_monic) (monic_nonzero A u₂ s.u_monic)

    pub composed_nonzero : ¬ ((composed C b D E).u ≡ 𝟘)
    composed_nonzero = parts_nonzero R f (cancel_left A) composition

    pub composed_len : suc (len (composed C b D E).u) ≤ len u₁ + len u₂
    composed_len =
        let l : len (composed C b D E).u ≤ len (u₁ · u₂) = divides_len A (e · e, composed_u_divides) u_product_nonzero in
        let m : suc (len (u₁ · u₂)) ≡ len u₁ + len u₂ = len_mul A u₁ u₂ (monic_nonzero A u₁ r.u_monic) (monic_nonzero A u₂ s.u_monic) in
        omega arith

    -- u divides the difference of v and its remainder, and v² + v + f
    pub composed_v : Divides R (composed C b D E).u (full_v b D E ⊞ (composed C b D E).v)
    unfolding composed full_v
    composed_v = rem_divides A (quot (u₁ · u₂) (e · e)) composed_nonzero _

    composed_v_len : len (composed C b D E).v < len (composed C b D E).u
    unfolding composed
    composed_v_len = A.rem_len _ _ composed_nonzero

    pub composed_semi : SemiReduced C (composed_monic C b D E)
    unfolding composed_monic value
    composed_semi =
        let l : len (composed C b D E).v < len (composed C b D E).u = composed_v_len in
        let m : len (monic_of A (composed C b D E).u) ≡ len (composed C b D E).u = len_monic_of A (composed C b D E).u in
        record {
          u_monic = monic_of_monic A _ composed_nonzero;
          v_len = omega arith;
          divides = divides_trans R (monic_of_divides A _) (value_congruent C composed_v (composed_divides R f (cancel_left A) composition));
        }

    -- where e is monic, so is u
    pub composed_monic_is : Monic A e → composed_monic C b D E ≡ composed C b D E
    unfolding composed_monic
    composed_monic_is m =
        let U = (composed C b D E).u in
        let n : Monic A U =
        monic_cofactor A U (e · e)
        (ap (lead A) (·_comm R U (e · e) ∙ sym composed_u_divides) ∙ monic_mul A u₁ u₂ r.u_monic s.u_monic)
        (monic_mul A e e m m)
        in
        λ i. record {
          u = monic_antisym A (monic_of A U) U (monic_of_monic A U composed_nonzero) n (monic_of_divides A U) (divides_monic_of A U) i;
          v = (composed C b D E).v;
        }

  pub composed_monic_len : {D E : Pair P} {b : Bezout3 P} → Reduced C D → Reduced C E → Combines C D E b → len (composed_monic C b D E).u ≤ 7
  unfolding composed_monic
  composed_monic_len {D} {E} {b} r s B =
      let l : suc (len (composed C b D E).u) ≤ len D.u + len E.u = composed_len (semi_of_reduced C r) (semi_of_reduced C s) B in
      let m : len (monic_of A (composed C b D E).u) ≡ len (composed C b D E).u = len_monic_of A (composed C b D E).u in
      let h : len D.u ≤ 4 = r.u_len in
      let k : len E.u ≤ 4 = s.u_len in
      omega arith

  pub composed_reduces : {D E : Pair P} {b : Bezout3 P} → Reduced C D → Reduced C E → Combines C D E b → Ended C 2 (reduce C (composed_monic C b D E))
  composed_reduces r s B = reduce_ended C (composed_semi (semi_of_reduced C r) (semi_of_reduced C s) B) (composed_monic_len r s B)

  pub compose_is : {D E : Pair P} → Reduced C D → Reduced C E
      → compose C D E ≡ composed_monic C (bezout3 A D.u E.u (D.v ⊞ E.v ⊞ 𝟙)) D E
  unfolding compose
  compose_is {D} {E} r s =
      sym
      (composed_monic_is (semi_of_reduced C r) (semi_of_reduced C s) (bezout3_combines D E)
      (bezout3_monic A (bezout3_is A D.u E.u (D.v ⊞ E.v ⊞ 𝟙)) (monic_nonzero A D.u r.u_monic)))

  -- a double is composed by e = 1 = v + v + 1
  unfoldable pub unit_bezout : Bezout3 P
  unit_bezout = record { e = 𝟙; s1 = 𝟘; s2 = 𝟘; s3 = 𝟙 }

  pub unit_combines : (D : Pair P) → Combines C D D unit_bezout
  unfolding unit_bezout
  unit_combines D = record {
    combination = double_bezout R D.u D.v;
    divides_first = one_divides R D.u;
    divides_second = one_divides R D.u;
    divides_third = one_divides R (D.v ⊞ D.v ⊞ 𝟙);
  }

  quot_one : (a : P) → quot a 𝟙 ≡ a
  quot_one a = ap (λ z. quot z 𝟙) (sym (·_𝟙 R a)) ∙ quot_mul A 𝟙 (one_nonzero A) a

  compose_double_composed : (D : Pair P) → compose_double C D ≡ composed C unit_bezout D D
  unfolding compose_double composed unit_bezout
  compose_double_composed D =
      let p : D.u · D.u ≡ quot (D.u · D.u) (𝟙 · 𝟙) = sym (ap (quot (D.u · D.u)) (·_𝟙 R 𝟙) ∙ quot_one (D.u · D.u)) in
      let q : D.v · D.v ⊞ f ≡ quot (𝟘 · D.u · D.v ⊞ 𝟘 · D.u · D.v ⊞ 𝟙 · (D.v · D.v ⊞ f)) 𝟙 = sym (quot_one _ ∙ only D.u D.v f) in
      λ i. record { u = p i; v = rem (q i) (p i) }
    where
      only : (u v g : P) → 𝟘 · u · v ⊞ 𝟘 · u · v ⊞ 𝟙 · (v · v ⊞ g) ≡ v · v ⊞ g
      only u v g = simp (ring2, R)

  pub compose_double_is : {D : Pair P} → Reduced C D → compose_double C D ≡ composed_monic C unit_bezout D D
  unfolding unit_bezout
  compose_double_is {D} r =
      compose_double_composed D ∙ sym (composed_monic_is (semi_of_reduced C r) (semi_of_reduced C r) (unit_combines D) (monic_one A))

  -- demand 2: both compositions of reduced classes are semi-reduced, with u of degree at most 6
  pub compose_semi : {D E : Pair P} → Reduced C D → Reduced C E → SemiReduced C (compose C D E)
  compose_semi {D} {E} r s = rw (compose_is r s) (composed_semi (semi_of_reduced C r) (semi_of_reduced C s) (bezout3_combines D E))

  pub compose_len : {D E : Pair P} → Reduced C D → Reduced C E → len (compose C D E).u ≤ 7
  compose_len {D} {E} r s = rw (compose_is r s) (composed_monic_len r s (bezout3_combines D E))

  pub compose_double_semi : {D : Pair P} → Reduced C D → SemiReduced C (compose_double C D)
  compose_double_semi {D} r = rw (compose_double_is r) (composed_semi (semi_of_reduced C r) (semi_of_reduced C r) (unit_combines D))

  pub compose_double_len : {D : Pair P} → Reduced C D → len (compose_double C D).u ≤ 7
  compose_double_len {D} r = rw (compose_double_is r) (composed_monic_len r r (unit_combines D))
