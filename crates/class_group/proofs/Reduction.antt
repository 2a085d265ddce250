-- A reduction step keeps the class.
-- `~_step`: if v² + v + f = w u, then w I(u, v) = (y + v) I(w, v + 1), so that the two ideals are equivalent.
use mathlib.Core.Path.{◌≡◌, ap}
use Rattle.field_laws.specs.Ring.{Ring2}
use Rattle.char2_algebra.proofs.Ring.{ring2, by, both, combine}
use Rattle.class_group.proofs.Coordinate.{coordinate}
use Rattle.class_group.proofs.Ideal.{Carries, Equivalent}
use Rattle.class_group.proofs.PairIdeal.{pair_ideal}

-- The identities, over plain variables; (y + v)(y + v + 1) = u w.
module _ {P : Type 0} (R : Ring2 P) where
  open R use {add as ◌⊞◌, mul as ◌·◌, zero as 𝟘, one as 𝟙}

  infixl 60 ◌⊞◌
  infixl 70 ◌·◌
  forth_member : (v w q k : P) → k · (v ⊞ 𝟙) ⊞ q · w ⊞ k · (v ⊞ 𝟙) ≡ q · w
  forth_member v w q k = simp (ring2, R)

  forth₀ : (f u v w p q k : P) → v · v ⊞ v ⊞ f ≡ w · u → p ⊞ q · v ≡ k · u
      → w · p ⊞ 𝟘 · q · f ≡ v · (k · (v ⊞ 𝟙) ⊞ q · w) ⊞ 𝟙 · k · f
  forth₀ f u v w p q k on h = combine R _ _ (both R (by R k on) (by R w h)) (simp (ring2, R))

  forth₁ : (v w p q k : P) → w · q ⊞ 𝟘 · p ⊞ 𝟘 · q ≡ v · k ⊞ 𝟙 · (k · (v ⊞ 𝟙) ⊞ q · w) ⊞ 𝟙 · k
  forth₁ v w p q k = simp (ring2, R)

  back_member : (u v q k : P) → q · u ⊞ k · v ⊞ k · v ≡ q · u
  back_member u v q k = simp (ring2, R)

  back₀ : (f u v w p q k : P) → v · v ⊞ v ⊞ f ≡ w · u → p ⊞ q · (v ⊞ 𝟙) ≡ k · w
      → v · p ⊞ 𝟙 · q · f ≡ w · (q · u ⊞ k · v) ⊞ 𝟘 · k · f
  back₀ f u v w p q k on h = combine R _ _ (both R (by R q on) (by R v h)) (simp (ring2, R))

  back₁ : (u v w p q k : P) → p ⊞ q · (v ⊞ 𝟙) ≡ k · w → v · q ⊞ 𝟙 · p ⊞ 𝟙 · q ≡ w · k ⊞ 𝟘 · (q · u ⊞ k · v) ⊞ 𝟘 · k
  back₁ u v w p q k h = combine R _ _ (by R 𝟙 h) (simp (ring2, R))

module _ {P : Type 0} (R : Ring2 P) (f : P) where
  open R use {add as ◌⊞◌, mul as ◌·◌, zero as 𝟘, one as 𝟙}

  infixl 60 ◌⊞◌
  infixl 70 ◌·◌
  module _ (u v w : P) (on : v · v ⊞ v ⊞ f ≡ w · u) where
    step_forth : Carries (coordinate R f) (w, 𝟘) (v, 𝟙) (pair_ideal R u v) (pair_ideal R w (v ⊞ 𝟙))
    unfolding coordinate
    step_forth x h = (
      (h.0 · (v ⊞ 𝟙) ⊞ x.1 · w, h.0),
      (x.1, forth_member R v w x.1 h.0),
      λ i. (forth₀ R f u v w x.0 x.1 h.0 on h.1 i, forth₁ R v w x.0 x.1 h.0 i),
    )

    step_back : Carries (coordinate R f) (v, 𝟙) (w, 𝟘) (pair_ideal R w (v ⊞ 𝟙)) (pair_ideal R u v)
    unfolding coordinate
    step_back x h = (
      (x.1 · u ⊞ h.0 · v, h.0),
      (x.1, back_member R u v x.1 h.0),
      λ i. (back₀ R f u v w x.0 x.1 h.0 on h.1 i, back₁ R u v w x.0 x.1 h.0 h.1 i),
    )

    pub ~_step : ¬ (𝟙 ≡ 𝟘) → ¬ (w ≡ 𝟘) → Equivalent (coordinate R f) (pair_ideal R u v) (pair_ideal R w (v ⊞ 𝟙))
    unfolding coordinate
    ~_step one w≢𝟘 = record {
      α = (w, 𝟘);
      β = (v, 𝟙);
      α≢𝟘 = λ e. w≢𝟘 (ap (λ x. x.0) e);
      β≢𝟘 = λ e. one (ap (λ x. x.1) e);
      forth = step_forth;
      back = step_back;
    }
