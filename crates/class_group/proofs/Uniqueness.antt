-- Two reduced classes with equivalent ideals are equal (`unique`; `reduced_unique` says it of pairs).
-- α I(u, v) = β I(u', v') is brought to g I(u, v) = k I(u', v') with g and k in P. Then g and k differ by a unit;
-- u and u' divide each other and are monic; v and v' are congruent modulo u, and shorter than u.
use Prim.Native.Nat.{◌≤◌, ◌<◌}
use mathlib.Core.Path.{◌≡◌, sym, ◌∙◌, ap, subst}
use Rattle.field_laws.specs.{Ring.Ring2, Field.Field2}
use Rattle.char2_algebra.specs.{Polynomials.Polynomials, Divides.Divides, Lead.Monic}
use Rattle.class_group.specs.{Curve.Curve, Mumford.Pair, Mumford.Reduced, Mumford.value}
use Rattle.char2_algebra.proofs.{Ring.·_𝟘, Product.integral, Product.cancel_left}
use Rattle.char2_algebra.proofs.{Lead.monic_nonzero, Lead.monic_antisym, Division.congruent_short}
use Rattle.class_group.proofs.Coordinate.{coordinate, conj, norm, mul_conj, constant_mul}
use Rattle.class_group.proofs.Ideal.{Carries, Equivalent}
use Rattle.class_group.proofs.PairIdeal.{pair_ideal, pair_ideal_u₁, pair_ideal_y₁}
use Rattle.class_group.proofs.Norm.{norm_nonzero, coordinate_domain}
use Identities.{multiple_u_eq, multiple_v_eq, unit_eq, unit_divides}
use Cleared.{S, cleared, cleared⁻¹, coordinate₀, coordinate₁}
use Constant.{constant}
pub mod Identities
pub mod Cleared
pub mod Constant

module _ {K P : Type 0} {F : Field2 K} (A : Polynomials F P) (f : P) (f_len : A.len f ≡ 8) where
  open A use {ring as R, len}
  open A.ring use {add as ◌⊞◌, mul as ◌·◌, zero as 𝟘, one as 𝟙}

  infixl 60 ◌⊞◌
  infixl 70 ◌·◌
  -- g I(u, v) within k I(u', v'), for g and k in P: g = k d, and u' divides d u and d (v + v')
  record Multiple (u v u' v' g k : P) : Type 0 where
    d : P
    d_is : g ≡ k · d
    d_u : Divides R u' (d · u)
    d_v : Divides R u' (d · (v ⊞ v'))

  multiple : (u v u' v' g k : P) → ¬ (k ≡ 𝟘) → Carries (S R f) (g, 𝟘) (k, 𝟘) (pair_ideal R u v) (pair_ideal R u' v') → Multiple u v u' v' g k
  multiple u v u' v' g k k≢𝟘 h =
      let r = h (u, 𝟘) (pair_ideal_u₁ R f u v) in
      let s = h (v, 𝟙) (pair_ideal_y₁ R f u v) in
      let x = r.0 in
      let y = s.0 in
      let e : ◌≡◌ {A = P × P} (g · v, g · 𝟙) (k · y.0, k · y.1) = sym (constant_mul R f g v 𝟙) ∙ s.2 ∙ constant_mul R f k y.0 y.1 in
      let d_is : g ≡ k · y.1 = sym (R.mul_one g) ∙ ap (λ z. z.1) e in
      let x₁≡𝟘 : x.1 ≡ 𝟘 = integral A k x.1 k≢𝟘 (sym (coordinate₁ R f (g, 𝟘) x u k r.2) ∙ ·_𝟘 R u) in
      record {
        d = y.1;
        d_is = d_is;
        d_u = (r.1.0, cancel_left A k _ _ k≢𝟘 (multiple_u_eq R g k y.1 u u' v' x.0 x.1 r.1.0 d_is (coordinate₀ R f (g, 𝟘) x u k r.2) x₁≡𝟘 r.1.1));
        d_v = (s.1.0, cancel_left A k _ _ k≢𝟘 (multiple_v_eq R g k y.1 u' v v' y.0 s.1.0 d_is (ap (λ z. z.0) e) s.1.1));
      }

  -- with the inclusion the other way round as well, d is a unit
  module _ {u v u' v' g k : P} (g≢𝟘 : ¬ (g ≡ 𝟘)) (forth : Multiple u v u' v' g k) (back : Multiple u' v' u v k g) where
    unit : back.d · forth.d ≡ 𝟙
    unit = cancel_left A g _ _ g≢𝟘 (unit_eq R g k forth.d back.d forth.d_is back.d_is)

    divides_u : Divides R u' u
    divides_u = (_, unit_divides R u' u forth.d back.d forth.d_u.0 unit forth.d_u.1)

    divides_v : Divides R u' (v ⊞ v')
    divides_v = (_, unit_divides R u' (v ⊞ v') forth.d back.d forth.d_v.0 unit forth.d_v.1)

  -- u and u' are equal, and v and v'
  module _ (u v u' v' : P) (u_monic : Monic A u) (u'_monic : Monic A u') (u_len : len u ≤ 4) (u'_len : len u' ≤ 4)
      (v_len : len v < len u) (v'_len : len v' < len u')
      (d : Divides R u (v · v ⊞ v ⊞ f)) (d' : Divides R u' (v' · v' ⊞ v' ⊞ f))
      (h : Equivalent (coordinate R f) (pair_ideal R u v) (pair_ideal R u' v'))
    where
      k : P
      k = norm R f h.β

      k≢𝟘 : ¬ (k ≡ 𝟘)
      unfolding k coordinate
      k≢𝟘 = norm_nonzero A f f_len h.β h.β≢𝟘

      γ : P × P
      γ = (S R f).mul (conj R f h.β) h.α

      forth : Carries (S R f) γ (k, 𝟘) (pair_ideal R u v) (pair_ideal R u' v')
      unfolding γ k
      forth = cleared R f h.α h.β h.forth

      back : Carries (S R f) (k, 𝟘) γ (pair_ideal R u' v') (pair_ideal R u v)
      unfolding γ k
      back = cleared⁻¹ R f h.α h.β h.back

      γ₁≡𝟘 : γ.1 ≡ 𝟘
      γ₁≡𝟘 = constant A f f_len u v u' v' k γ (monic_nonzero A u u_monic) (monic_nonzero A u' u'_monic) k≢𝟘 d d' forth back u_len u'_len

      g : P
      g = γ.0

      γ≡g : γ ≡ (g, 𝟘)
      unfolding g
      γ≡g i = (γ.0, γ₁≡𝟘 i)

      conj≢𝟘 : ¬ (conj R f h.β ≡ (S R f).zero)
      unfolding k coordinate
      conj≢𝟘 z = k≢𝟘 (ap (λ x. x.0) (sym (mul_conj R f h.β) ∙ ap ((S R f).mul h.β) z ∙ ·_𝟘 (S R f) h.β))

      g≢𝟘 : ¬ (g ≡ 𝟘)
      unfolding γ coordinate
      g≢𝟘 z = coordinate_domain A f f_len (conj R f h.β) h.α conj≢𝟘 h.α≢𝟘 (γ≡g ∙ (λ i. (z i, 𝟘)))

      m : Multiple u v u' v' g k
      m = multiple u v u' v' g k k≢𝟘 (subst (λ t. Carries (S R f) t (k, 𝟘) (pair_ideal R u v) (pair_ideal R u' v')) γ≡g forth)

      m' : Multiple u' v' u v k g
      m' = multiple u' v' u v k g g≢𝟘 (subst (λ t. Carries (S R f) (k, 𝟘) t (pair_ideal R u' v') (pair_ideal R u v)) γ≡g back)

      unique_u : u ≡ u'
      unique_u = monic_antisym A u u' u_monic u'_monic (divides_u k≢𝟘 m' m) (divides_u g≢𝟘 m m')

      unique_v : v ≡ v'
      unique_v = congruent_short A u' v v' (divides_v g≢𝟘 m m') (subst (λ t. len v < len t) unique_u v_len) v'_len

      pub unique : (u ≡ u') × (v ≡ v')
      unique = (unique_u, unique_v)

module _ {K P : Type 0} {F : Field2 K} {A : Polynomials F P} (C : Curve A) where
  pub reduced_unique : {D E : Pair P} → Reduced C D → Reduced C E
      → Equivalent (coordinate A.ring C.f) (pair_ideal A.ring D.u D.v) (pair_ideal A.ring E.u E.v) → D ≡ E
  unfolding value
  reduced_unique {D} {E} r s h =
      let same = unique A C.f C.f_len D.u D.v E.u E.v r.u_monic s.u_monic r.u_len s.u_len r.v_len s.v_len r.divides s.divides h in
      λ i. record { u = same.0 i; v = same.1 i }
