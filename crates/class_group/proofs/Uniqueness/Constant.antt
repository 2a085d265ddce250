-- Where γ I(u, v) = k I(u', v') with k in P and deg u and deg u' at most 3, γ lies in P.
-- With γ u = k δ and k u' = γ ε, the degrees of the norms of δ and ε add up to twice deg u + deg u', at most 12;
-- so one of them is at most 6.
use Prim.Native.Nat.{suc, ◌≤◌, ◌+◌}
use mathlib.Core.Path.{◌≡◌, sym, ◌∙◌, ap}
use native.Mathlib.Omega.{arith}
use native.Mathlib.Decide.{dec_le}
use Rattle.field_laws.specs.{Field.Field2}
use Rattle.char2_algebra.specs.{Polynomials.Polynomials, Divides.Divides}
use Rattle.char2_algebra.proofs.Ring.{·_𝟘}
use Rattle.char2_algebra.proofs.Product.{len_mul, mul_nonzero, square_nonzero, left_nonzero, right_nonzero, integral, cancel_left}
use Rattle.class_group.proofs.Coordinate.{norm, norm_mul, norm_constant}
use Rattle.class_group.proofs.Ideal.{Carries}
use Rattle.class_group.proofs.PairIdeal.{pair_ideal, pair_ideal_u₁}
use Rattle.class_group.proofs.Norm.{norm_short}
use Rattle.class_group.proofs.Uniqueness.Identities.{norms_eq}
use Rattle.class_group.proofs.Uniqueness.Cleared.{S, member_norm, coordinate₀, coordinate₁, norm_of_multiple, norm_of_multiple'}

module _ {K P : Type 0} {F : Field2 K} (A : Polynomials F P) (f : P) (f_len : A.len f ≡ 8) where
  open A use {ring as R, len}
  open A.ring use {add as ◌⊞◌, mul as ◌·◌, zero as 𝟘, one as 𝟙}

  infixl 60 ◌⊞◌
  infixl 70 ◌·◌
  module _ (u v u' v' k : P) (γ : P × P) (u≢𝟘 : ¬ (u ≡ 𝟘)) (u'≢𝟘 : ¬ (u' ≡ 𝟘)) (k≢𝟘 : ¬ (k ≡ 𝟘))
      (d : Divides R u (v · v ⊞ v ⊞ f)) (d' : Divides R u' (v' · v' ⊞ v' ⊞ f))
      (forth : Carries (S R f) γ (k, 𝟘) (pair_ideal R u v) (pair_ideal R u' v'))
      (back : Carries (S R f) (k, 𝟘) γ (pair_ideal R u' v') (pair_ideal R u v))
    where
      -- γ u = k δ and k u' = γ ε
      δ : P × P
      δ = (forth (u, 𝟘) (pair_ideal_u₁ R f u v)).0

      γu≡kδ : (S R f).mul γ (u, 𝟘) ≡ (S R f).mul (k, 𝟘) δ
      unfolding δ
      γu≡kδ = (forth (u, 𝟘) (pair_ideal_u₁ R f u v)).2

      ε : P × P
      ε = (back (u', 𝟘) (pair_ideal_u₁ R f u' v')).0

      ku'≡γε : (S R f).mul (k, 𝟘) (u', 𝟘) ≡ (S R f).mul γ ε
      unfolding ε
      ku'≡γε = (back (u', 𝟘) (pair_ideal_u₁ R f u' v')).2

      δ_norm : Divides R u' (norm R f δ)
      unfolding δ
      δ_norm = member_norm R f u' v' d' _ (forth (u, 𝟘) (pair_ideal_u₁ R f u v)).1

      ε_norm : Divides R u (norm R f ε)
      unfolding ε
      ε_norm = member_norm R f u v d _ (back (u', 𝟘) (pair_ideal_u₁ R f u' v')).1

      -- the cofactors n and m of the two norms have the product u u'
      cofactors : u · u' ≡ δ_norm.0 · ε_norm.0
      cofactors =
          cancel_left A (k · k · (u · u')) _ _ (mul_nonzero A (k · k) (u · u') (square_nonzero A k k≢𝟘) (mul_nonzero A u u' u≢𝟘 u'≢𝟘))
          (norms_eq R (norm R f γ) k u u' δ_norm.0 ε_norm.0
          (sym (norm_of_multiple R f γ u) ∙ ap (norm R f) γu≡kδ ∙ norm_of_multiple' R f δ k ∙ ap (λ z. k · k · z) δ_norm.1)
          (sym (norm_of_multiple R f (k, 𝟘) u' ∙ ap (λ z. z · (u' · u')) (norm_constant R f k))
          ∙ ap (norm R f) ku'≡γε ∙ norm_mul R f γ ε ∙ ap (λ z. norm R f γ · z) ε_norm.1))

      -- so one of the two norms has degree at most 6
      norms_len : len (norm R f δ) + len (norm R f ε) + 2 ≡ len u + len u' + (len u + len u')
      norms_len =
          let n = δ_norm.0 in
          let m = ε_norm.0 in
          let nm≢𝟘 : ¬ (n · m ≡ 𝟘) = λ z. mul_nonzero A u u' u≢𝟘 u'≢𝟘 (cofactors ∙ z) in
          let n≢𝟘 = left_nonzero A n m nm≢𝟘 in
          let m≢𝟘 = right_nonzero A n m nm≢𝟘 in
          let a : suc (len (norm R f δ)) ≡ len n + len u' = ap (λ z. suc (len z)) δ_norm.1 ∙ len_mul A n u' n≢𝟘 u'≢𝟘 in
          let b : suc (len (norm R f ε)) ≡ len m + len u = ap (λ z. suc (len z)) ε_norm.1 ∙ len_mul A m u m≢𝟘 u≢𝟘 in
          let c : len u + len u' ≡ len n + len m = sym (len_mul A u u' u≢𝟘 u'≢𝟘) ∙ ap (λ z. suc (len z)) cofactors ∙ len_mul A n m n≢𝟘 m≢𝟘 in
          omega arith

      from_δ : δ.1 ≡ 𝟘 → γ.1 ≡ 𝟘
      from_δ z = integral A u γ.1 u≢𝟘 (coordinate₁ R f γ δ u k γu≡kδ ∙ ap (λ t. k · t) z ∙ ·_𝟘 R k)

      from_ε : ε.1 ≡ 𝟘 → γ.1 ≡ 𝟘
      from_ε z =
          let h : (S R f).mul γ (ε.0, 𝟘) ≡ (S R f).mul (k, 𝟘) (u', 𝟘) = ap (λ t. (S R f).mul γ (ε.0, t)) (sym z) ∙ sym ku'≡γε in
          integral A ε.0 γ.1
          (left_nonzero A ε.0 γ.0 (λ t. mul_nonzero A k u' k≢𝟘 u'≢𝟘 (sym (coordinate₀ R f γ (u', 𝟘) ε.0 k h) ∙ t)))
          (coordinate₁ R f γ (u', 𝟘) ε.0 k h ∙ ·_𝟘 R k)

      pub constant : len u ≤ 4 → len u' ≤ 4 → γ.1 ≡ 𝟘
      constant l l' =
          let a : len (norm R f δ) + len (norm R f ε) + 2 ≡ len u + len u' + (len u + len u') = norms_len in
          elim (dec_le (len (norm R f δ)) 7) [
            | yes s ↦ from_δ (norm_short A f f_len δ.0 δ.1 s)
            | no s ↦ from_ε (norm_short A f f_len ε.0 ε.1 (omega arith))
          ]
