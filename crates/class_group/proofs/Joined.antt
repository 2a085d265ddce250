-- Compositions by any coefficients of e, and by short polynomials.
-- `composed_unique`: a composition does not depend on the coefficients by which e is combined.
-- `compose_unique`: any coefficients of the greatest common divisor give Cantor's composition.
-- `compose_joined`: with u1 = d1 e, u2 = d2 e, u1 w1 = v1² + v1 + f and m = s1 (v1 + v2) + s3 w1,
-- Cantor's composition is [d1 d2, v1 + d1 (m mod d2) modulo d1 d2].
-- `compose_coprime`: where u1 and u2 have no common divisor, e is 1 and w1 is not needed.
-- `compose_common`: else Euclid's algorithm is used twice, on u1 and u2, then on their divisor and v1 + v2 + 1.
use Prim.Native.Nat.{◌≤◌}
use mathlib.Core.Path.{◌≡◌, refl, sym, ◌∙◌, ap, ap₂}
use Rattle.field_laws.specs.{Ring.Ring2, Field.Field2}
use Rattle.char2_algebra.specs.{Polynomials.Polynomials, Divides.Divides, Euclid.Bezout, Euclid.Bezout3}
use Rattle.char2_algebra.proofs.{Ring.ring2, Ring.·_𝟙, Ring.by, Ring.combine, Product.mul_nonzero, Product.cancel_left, Product.left_nonzero}
use Rattle.char2_algebra.proofs.{Divides.divides_eq, Division.quot_exact, Division.quot_mul, Division.rem_divides, Division.rem_congruent, Lead.monic_nonzero, Lead.monic_constant}
use Rattle.char2_algebra.specs.Euclid.{IsBezout, IsBezout3}
use Rattle.char2_algebra.proofs.Euclid.{bezout3_is, bezout3_unique, bezout3_nonzero, bezout_twice, bezout_coprime}
use Rattle.class_group.specs.{Curve.Curve, Mumford.Pair, Mumford.Reduced, Mumford.value, Composition.Combines, Composition.composed, Composition.compose, Composition.joined}
use Rattle.class_group.proofs.{Coordinate.coordinate, Coordinate.constant_mul, PairIdeal.pair_ideal_y₁, SemiReduced.SemiReduced, SemiReduced.semi_of_reduced}
use Rattle.class_group.proofs.Composition.{Composed, composed_within, composed_within⁻¹, divisor_nonzero, Identities.congruent_eq}
use Rattle.class_group.proofs.Composed.{full_v, e_nonzero, composition, composition_e, composed_nonzero}

-- identities over plain variables
module _ {P : Type 0} (R : Ring2 P) where
  open R use {add as ◌⊞◌, mul as ◌·◌, one as 𝟙}

  infixl 60 ◌⊞◌
  infixl 70 ◌·◌
  y_eq : (v v' : P) → v ⊞ 𝟙 · v' ≡ v ⊞ v'
  y_eq v v' = simp (ring2, R)

  u_eq : (u₁ u₂ d₁ d₂ e : P) → u₁ ≡ d₁ · e → u₂ ≡ d₂ · e → u₁ · u₂ ≡ d₁ · d₂ · (e · e)
  u_eq u₁ u₂ d₁ d₂ e h k = ap₂ ◌·◌ h k ∙ simp (ring2, R)

  v_eq : (n e v d m : P) → n ⊞ e · v ≡ e · (d · m) → n ≡ (v ⊞ d · m) · e
  v_eq n e v d m h = combine R _ _ (by R 𝟙 h) (simp (ring2, R))

  modulo_eq : (v d₁ d₂ m r q : P) → m ⊞ r ≡ q · d₂ → v ⊞ d₁ · m ⊞ (v ⊞ d₁ · r) ≡ q · (d₁ · d₂)
  modulo_eq v d₁ d₂ m r q h = combine R _ _ (by R d₁ h) (simp (ring2, R))

module _ {K P : Type 0} {F : Field2 K} {A : Polynomials F P} (C : Curve A) where
  open A use {ring as R, len, quot, rem}
  open A.ring use {add as ◌⊞◌, mul as ◌·◌, zero as 𝟘, one as 𝟙}
  open C use {f}

  infixl 60 ◌⊞◌
  infixl 70 ◌·◌
  -- two pairs composed of the same two by the same e have v congruent modulo u
  parts_congruent : {u₁ v₁ u₂ v₂ u v u' v' : P} (X : Composed R f u₁ v₁ u₂ v₂ u v) (Y : Composed R f u₁ v₁ u₂ v₂ u' v')
      → X.e ≡ Y.e → Divides R u' (v ⊞ v')
  unfolding coordinate
  parts_congruent {u = u} {v = v} {v' = v'} X Y h =
      let t = composed_within R f (cancel_left A) Y _ (composed_within⁻¹ R f (cancel_left A) X _ ((v, 𝟙), pair_ideal_y₁ R f u v, refl)) in
      let e = sym (constant_mul R f X.e v 𝟙) ∙ t.2 ∙ constant_mul R f Y.e t.0.0 t.0.1 in
      let nonzero = divisor_nonzero R f Y in
      let p : v ≡ t.0.0 = cancel_left A Y.e v t.0.0 nonzero (ap (λ z. z · v) (sym h) ∙ ap (λ z. z.0) e) in
      let q : 𝟙 ≡ t.0.1 = cancel_left A Y.e 𝟙 t.0.1 nonzero (ap (λ z. z · 𝟙) (sym h) ∙ ap (λ z. z.1) e) in
      divides_eq R (sym (ap₂ (λ y z. y ⊞ z · v') p q) ∙ y_eq R v v') t.1

  pub composed_unique : {D E : Pair P} {b b' : Bezout3 P} → SemiReduced C D → SemiReduced C E → Combines C D E b → Combines C D E b'
      → b.e ≡ b'.e → composed C b D E ≡ composed C b' D E
  unfolding composed full_v
  composed_unique {D} {E} {b} {b'} r s B B' h =
      let u_same : (composed C b D E).u ≡ (composed C b' D E).u = ap (λ z. quot (D.u · E.u) (z · z)) h in
      let congruent : Divides R (composed C b' D E).u (full_v C b D E ⊞ full_v C b' D E) = parts_congruent (composition C r s B) (composition C r s B') (composition_e C r s B ∙ h ∙ sym (composition_e C r s B')) in
      λ i. record {
        u = u_same i;
        v = (ap (rem (full_v C b D E)) u_same ∙ rem_congruent A (composed C b' D E).u (composed_nonzero C r s B') (full_v C b D E) (full_v C b' D E) congruent) i;
      }

  combines_of : {D E : Pair P} {b : Bezout3 P} → IsBezout3 A D.u E.u (D.v ⊞ E.v ⊞ 𝟙) b → Combines C D E b
  combines_of i = record {
    combination = i.combination;
    divides_first = i.divides_first;
    divides_second = i.divides_second;
    divides_third = i.divides_third;
  }

  pub compose_unique : {D E : Pair P} {b : Bezout3 P} → SemiReduced C D → SemiReduced C E → IsBezout3 A D.u E.u (D.v ⊞ E.v ⊞ 𝟙) b
      → compose C D E ≡ composed C b D E
  unfolding compose
  compose_unique {D} {E} r s i =
      let j = bezout3_is A D.u E.u (D.v ⊞ E.v ⊞ 𝟙) in
      composed_unique r s (combines_of j) (combines_of i) (bezout3_unique A (λ z. monic_nonzero A D.u r.u_monic z.0) j i)

  composed_joined : {D E : Pair P} {b : Bezout3 P} (d₁ d₂ w₁ : P) → SemiReduced C D → SemiReduced C E → Combines C D E b
      → D.u ≡ d₁ · b.e → E.u ≡ d₂ · b.e → value C D.v ≡ w₁ · D.u
      → composed C b D E ≡ joined A d₁ d₂ D.v (b.s1 · (D.v ⊞ E.v) ⊞ b.s3 · w₁)
  unfolding composed joined value
  composed_joined {D} {E} {b} d₁ d₂ w₁ r s B part₁ part₂ on =
      let e≢𝟘 : ¬ (b.e ≡ 𝟘) = e_nonzero C r s B in
      let u≢𝟘 : ¬ (E.u ≡ 𝟘) = monic_nonzero A E.u s.u_monic in
      let d₂≢𝟘 : ¬ (d₂ ≡ 𝟘) = left_nonzero A d₂ b.e (λ z. u≢𝟘 (part₂ ∙ z)) in
      let d₁≢𝟘 : ¬ (d₁ ≡ 𝟘) = left_nonzero A d₁ b.e (λ z. monic_nonzero A D.u r.u_monic (part₁ ∙ z)) in
      let m = b.s1 · (D.v ⊞ E.v) ⊞ b.s3 · w₁ in
      let u_is = ap (λ z. quot z (b.e · b.e)) (u_eq R D.u E.u d₁ d₂ b.e part₁ part₂) ∙ quot_mul A (b.e · b.e) (mul_nonzero A _ _ e≢𝟘 e≢𝟘) (d₁ · d₂) in
      let v_is = ap (λ z. quot z b.e) (v_eq R _ b.e D.v d₁ m (congruent_eq R f D.u D.v w₁ E.u E.v b.e b.s1 b.s2 b.s3 d₁ on B.combination part₁))
      ∙ quot_mul A b.e e≢𝟘 (D.v ⊞ d₁ · m) in
      let δ = rem_divides A d₂ d₂≢𝟘 m in
      λ i. record {
        u = u_is i;
        v = (ap₂ rem v_is u_is ∙ rem_congruent A (d₁ · d₂) (mul_nonzero A d₁ d₂ d₁≢𝟘 d₂≢𝟘) (D.v ⊞ d₁ · m) (D.v ⊞ d₁ · rem m d₂) (δ.0, modulo_eq R D.v d₁ d₂ m (rem m d₂) δ.0 δ.1)) i;
      }

  pub compose_joined : {D E : Pair P} {b : Bezout3 P} (d₁ d₂ w₁ : P) → SemiReduced C D → SemiReduced C E
      → IsBezout3 A D.u E.u (D.v ⊞ E.v ⊞ 𝟙) b → D.u ≡ d₁ · b.e → E.u ≡ d₂ · b.e → value C D.v ≡ w₁ · D.u
      → compose C D E ≡ joined A d₁ d₂ D.v (b.s1 · (D.v ⊞ E.v) ⊞ b.s3 · w₁)
  compose_joined d₁ d₂ w₁ r s i part₁ part₂ on = compose_unique r s i ∙ composed_joined d₁ d₂ w₁ r s (combines_of i) part₁ part₂ on

  pub compose_coprime : {D E : Pair P} {B : Bezout P} → Reduced C D → Reduced C E → IsBezout A D.u E.u B → len B.g ≤ 1
      → compose C D E ≡ joined A D.u E.u D.v (B.s · (D.v ⊞ E.v))
  compose_coprime {D} {E} {B} r s i h =
      let g_is : B.g ≡ 𝟙 = monic_constant A B.g (i.monic (λ z. monic_nonzero A D.u r.u_monic z.0)) h in
      compose_joined D.u E.u r.divides.0 (semi_of_reduced C r) (semi_of_reduced C s) (bezout_coprime A (D.v ⊞ E.v ⊞ 𝟙) i g_is)
      (sym (ap (λ z. D.u · z) g_is ∙ ·_𝟙 R D.u)) (sym (ap (λ z. E.u · z) g_is ∙ ·_𝟙 R E.u)) r.divides.1
      ∙ ap (joined A D.u E.u D.v) (only (B.s · (D.v ⊞ E.v)) r.divides.0)
    where
      only : (p w : P) → p ⊞ 𝟘 · w ≡ p
      only p w = simp (ring2, R)

  pub compose_common : {D E : Pair P} {B B' : Bezout P} → Reduced C D → Reduced C E → IsBezout A D.u E.u B → IsBezout A B.g (D.v ⊞ E.v ⊞ 𝟙) B'
      → compose C D E ≡ joined A (quot D.u B'.g) (quot E.u B'.g) D.v (B'.s · B.s · (D.v ⊞ E.v) ⊞ B'.t · quot (value C D.v) D.u)
  compose_common {D} {E} {B} {B'} r s i i' =
      let j = bezout_twice A i i' in
      let u≢𝟘 : ¬ (D.u ≡ 𝟘) = monic_nonzero A D.u r.u_monic in
      let g≢𝟘 : ¬ (B'.g ≡ 𝟘) = bezout3_nonzero A j u≢𝟘 in
      compose_joined (quot D.u B'.g) (quot E.u B'.g) (quot (value C D.v) D.u) (semi_of_reduced C r) (semi_of_reduced C s) j
      (quot_exact A B'.g g≢𝟘 D.u j.divides_first) (quot_exact A B'.g g≢𝟘 E.u j.divides_second)
      (quot_exact A D.u u≢𝟘 (value C D.v) r.divides)
