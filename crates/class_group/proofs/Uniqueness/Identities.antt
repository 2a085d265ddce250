-- The identities for uniqueness, over plain variables.
use mathlib.Core.Path.{◌≡◌}
use Rattle.field_laws.specs.Ring.{Ring2}
use Rattle.char2_algebra.proofs.Ring.{ring2, by, both, combine}

module _ {P : Type 0} (R : Ring2 P) where
  open R use {add as ◌⊞◌, mul as ◌·◌, zero as 𝟘, one as 𝟙}

  infixl 60 ◌⊞◌
  infixl 70 ◌·◌
  pub member_norm_eq : (f u v w p q k : P) → v · v ⊞ v ⊞ f ≡ w · u → p ⊞ q · v ≡ k · u
      → p · p ⊞ p · q ⊞ q · q · f ≡ (k · (p ⊞ q · v ⊞ q) ⊞ q · q · w) · u
  member_norm_eq f u v w p q k on h = combine R _ _ (both R (by R (p ⊞ q · v ⊞ q) h) (by R (q · q) on)) (simp (ring2, R))

  pub norms_eq : (g k u u' n m : P) → g · (u · u) ≡ k · k · (n · u') → k · k · (u' · u') ≡ g · (m · u)
      → k · k · (u · u') · (u · u') ≡ k · k · (u · u') · (n · m)
  norms_eq g k u u' n m h h' = combine R _ _ (both R (by R (m · u) h) (by R (u · u) h')) (simp (ring2, R))

  pub multiple_u_eq : (g k d u u' v' x₀ x₁ s : P) → g ≡ k · d → u · g ≡ k · x₀ → x₁ ≡ 𝟘 → x₀ ⊞ x₁ · v' ≡ s · u' → k · (d · u) ≡ k · (s · u')
  multiple_u_eq g k d u u' v' x₀ x₁ s h₁ h₂ h₃ h₄ =
      combine R _ _ (both R (both R (by R u h₁) (by R 𝟙 h₂)) (both R (by R (k · v') h₃) (by R k h₄))) (simp (ring2, R))

  pub multiple_v_eq : (g k d u' v v' y t : P) → g ≡ k · d → g · v ≡ k · y → y ⊞ d · v' ≡ t · u' → k · (d · (v ⊞ v')) ≡ k · (t · u')
  multiple_v_eq g k d u' v v' y t h₁ h₂ h₃ = combine R _ _ (both R (both R (by R v h₁) (by R 𝟙 h₂)) (by R k h₃)) (simp (ring2, R))

  pub unit_eq : (g k d d' : P) → g ≡ k · d → k ≡ g · d' → g · (d' · d) ≡ g · 𝟙
  unit_eq g k d d' h h' = combine R _ _ (both R (by R 𝟙 h) (by R d h')) (simp (ring2, R))

  pub unit_divides : (u' a d d' s : P) → d' · d ≡ 𝟙 → d · a ≡ s · u' → a ≡ d' · s · u'
  unit_divides u' a d d' s h h' = combine R _ _ (both R (by R a h) (by R d' h')) (simp (ring2, R))
