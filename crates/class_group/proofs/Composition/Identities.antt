-- The identities for composition, over plain variables: each follows from its hypotheses, multiplied by coefficients,
-- by ring laws.
use mathlib.Core.Path.{◌≡◌}
use Rattle.field_laws.specs.Ring.{Ring2}
use Rattle.char2_algebra.proofs.Ring.{ring2, by, both, combine}

module _ {P : Type 0} (R : Ring2 P) where
  open R use {add as ◌⊞◌, mul as ◌·◌, zero as 𝟘, one as 𝟙}

  infixl 60 ◌⊞◌
  infixl 70 ◌·◌
  -- e v + e v1 is e d1 m1 with m1 = s1 (v1 + v2) + s3 w1
  pub congruent_eq : (f u₁ v₁ w₁ u₂ v₂ e s₁ s₂ s₃ d₁ : P) → v₁ · v₁ ⊞ v₁ ⊞ f ≡ w₁ · u₁
      → e ≡ s₁ · u₁ ⊞ s₂ · u₂ ⊞ s₃ · (v₁ ⊞ v₂ ⊞ 𝟙) → u₁ ≡ d₁ · e
      → s₁ · u₁ · v₂ ⊞ s₂ · u₂ · v₁ ⊞ s₃ · (v₁ · v₂ ⊞ f) ⊞ e · v₁ ≡ e · (d₁ · (s₁ · (v₁ ⊞ v₂) ⊞ s₃ · w₁))
  congruent_eq f u₁ v₁ w₁ u₂ v₂ e s₁ s₂ s₃ d₁ on bezout part =
      combine R _ _
      (both R (by R v₁ bezout) (both R (by R s₃ on) (by R (s₁ · (v₁ ⊞ v₂) ⊞ s₃ · w₁) part)))
      (simp (ring2, R))

  pub cross_eq : (f u₁ v₁ w₁ u₂ v₂ w₂ e s₁ s₂ s₃ v : P) → v₁ · v₁ ⊞ v₁ ⊞ f ≡ w₁ · u₁ → v₂ · v₂ ⊞ v₂ ⊞ f ≡ w₂ · u₂
      → e ≡ s₁ · u₁ ⊞ s₂ · u₂ ⊞ s₃ · (v₁ ⊞ v₂ ⊞ 𝟙) → e · v ≡ s₁ · u₁ · v₂ ⊞ s₂ · u₂ · v₁ ⊞ s₃ · (v₁ · v₂ ⊞ f)
      → e · (v₁ · v₂ ⊞ f ⊞ (v₁ ⊞ v₂ ⊞ 𝟙) · v) ≡ u₁ · u₂ · (s₁ · w₂ ⊞ s₂ · w₁)
  cross_eq f u₁ v₁ w₁ u₂ v₂ w₂ e s₁ s₂ s₃ v on₁ on₂ bezout numerator =
      combine R _ _
      (both R (both R (by R (v₁ ⊞ v₂ ⊞ 𝟙) numerator) (by R (v₁ · v₂ ⊞ f) bezout)) (both R (by R (s₁ · u₁) on₂) (by R (s₂ · u₂) on₁)))
      (simp (ring2, R))

  pub cross_parts : (u₁ u₂ e d₁ d₂ m : P) → u₁ ≡ d₁ · e → u₂ ≡ d₂ · e → u₁ · u₂ · m ≡ e · (e · (d₁ · d₂) · m)
  cross_parts u₁ u₂ e d₁ d₂ m part₁ part₂ = combine R _ _ (both R (by R (u₂ · m) part₁) (by R (d₁ · e · m) part₂)) (simp (ring2, R))

  pub swap_bezout : (s₁ s₂ s₃ u₁ u₂ v₁ v₂ : P) → s₁ · u₁ ⊞ s₂ · u₂ ⊞ s₃ · (v₁ ⊞ v₂ ⊞ 𝟙) ≡ s₂ · u₂ ⊞ s₁ · u₁ ⊞ s₃ · (v₂ ⊞ v₁ ⊞ 𝟙)
  swap_bezout s₁ s₂ s₃ u₁ u₂ v₁ v₂ = simp (ring2, R)

  pub swap_numerator : (f s₁ s₂ s₃ u₁ u₂ v₁ v₂ : P)
      → s₁ · u₁ · v₂ ⊞ s₂ · u₂ · v₁ ⊞ s₃ · (v₁ · v₂ ⊞ f) ≡ s₂ · u₂ · v₁ ⊞ s₁ · u₁ · v₂ ⊞ s₃ · (v₂ · v₁ ⊞ f)
  swap_numerator f s₁ s₂ s₃ u₁ u₂ v₁ v₂ = simp (ring2, R)

  pub ⊞_twice : (a b : P) → a ⊞ b ⊞ b ≡ a
  ⊞_twice a b = simp (ring2, R)

  pub on_eq : (f v₁ v₂ d₁ d₂ e v m₁ m₂ M : P) → v ⊞ v₁ ≡ d₁ · m₁ → v ⊞ v₂ ≡ d₂ · m₂
      → v₁ · v₂ ⊞ f ⊞ (v₁ ⊞ v₂ ⊞ 𝟙) · v ≡ e · (d₁ · d₂) · M → v · v ⊞ v ⊞ f ≡ (m₁ · m₂ ⊞ e · M) · (d₁ · d₂)
  on_eq f v₁ v₂ d₁ d₂ e v m₁ m₂ M h₁ h₂ h₃ =
      combine R _ _ (both R (both R (by R (v ⊞ v₂) h₁) (by R (d₁ · m₁) h₂)) (by R 𝟙 h₃)) (simp (ring2, R))

  -- a product of an element of each ideal, as e times an element of I(u, v): its two coordinates
  pub within₁ : (v₁ v₂ e d₁ d₂ c p q k p' q' k' : P) → v₁ ⊞ v₂ ⊞ 𝟙 ≡ c · e → p ⊞ q · v₁ ≡ k · (d₁ · e) → p' ⊞ q' · v₂ ≡ k' · (d₂ · e)
      → p · q' ⊞ q · p' ⊞ q · q' ≡ e · (k · q' · d₁ ⊞ q · k' · d₂ ⊞ q · q' · c)
  within₁ v₁ v₂ e d₁ d₂ c p q k p' q' k' part h h' =
      combine R _ _ (both R (by R (q · q') part) (both R (by R q' h) (by R q h'))) (simp (ring2, R))

  pub within₀ : (f v₁ v₂ e d₁ d₂ v m₁ m₂ M c p q k p' q' k' : P) → v ⊞ v₁ ≡ d₁ · m₁ → v ⊞ v₂ ≡ d₂ · m₂
      → v₁ · v₂ ⊞ f ⊞ c · e · v ≡ e · (d₁ · d₂) · M → p ⊞ q · v₁ ≡ k · (d₁ · e) → p' ⊞ q' · v₂ ≡ k' · (d₂ · e)
      → p · p' ⊞ q · q' · f ≡ e · ((e · k · k' ⊞ k · q' · m₂ ⊞ q · k' · m₁ ⊞ q · q' · M) · (d₁ · d₂) ⊞ (k · q' · d₁ ⊞ q · k' · d₂ ⊞ q · q' · c) · v)
  within₀ f v₁ v₂ e d₁ d₂ v m₁ m₂ M c p q k p' q' k' h₁ h₂ h₃ h h' =
      combine R _ _ (both R (both R (both R (by R (e · d₂ · q · k') h₁) (by R (e · d₁ · k · q') h₂)) (by R (q · q') h₃)) (both R (by R p' h) (by R (q · v₁ ⊞ k · (d₁ · e)) h'))) (simp (ring2, R))

  -- e times an element of I(u, v), as a sum of four products: its two coordinates
  pub back₀ : (f u₁ v₁ u₂ v₂ e s₁ s₂ s₃ d₁ d₂ c v p q n : P) → u₁ ≡ d₁ · e → u₂ ≡ d₂ · e → v₁ ⊞ v₂ ⊞ 𝟙 ≡ c · e
      → e · v ≡ s₁ · u₁ · v₂ ⊞ s₂ · u₂ · v₁ ⊞ s₃ · (v₁ · v₂ ⊞ f) → p ⊞ q · v ≡ n · (d₁ · d₂)
      → e · p
      ≡ n · c · u₁ · u₂ ⊞ 𝟘 · 𝟘 · f ⊞ ((n · d₂ ⊞ q · s₁) · u₁ · v₂ ⊞ 𝟘 · 𝟙 · f
      ⊞ ((n · d₁ ⊞ q · s₂) · v₁ · u₂ ⊞ (n · d₁ ⊞ q · s₂) · 𝟘 · f ⊞ (q · s₃ · v₁ · v₂ ⊞ q · s₃ · 𝟙 · f)))
  back₀ f u₁ v₁ u₂ v₂ e s₁ s₂ s₃ d₁ d₂ c v p q n part₁ part₂ part₃ numerator h =
      combine R _ _
      (both R (both R (both R (by R (n · (c · u₂ ⊞ d₂ · v₂)) part₁) (by R (n · d₁ · (c · e ⊞ v₁)) part₂)) (by R (n · d₁ · d₂ · e) part₃))
      (both R (by R q numerator) (by R e h)))
      (simp (ring2, R))

  pub back₁ : (u₁ v₁ u₂ v₂ e s₁ s₂ s₃ d₁ d₂ c q n : P) → u₁ ≡ d₁ · e → u₂ ≡ d₂ · e
      → e ≡ s₁ · u₁ ⊞ s₂ · u₂ ⊞ s₃ · (v₁ ⊞ v₂ ⊞ 𝟙)
      → e · q
      ≡ n · c · u₁ · 𝟘 ⊞ 𝟘 · u₂ ⊞ 𝟘 · 𝟘 ⊞ ((n · d₂ ⊞ q · s₁) · u₁ · 𝟙 ⊞ 𝟘 · v₂ ⊞ 𝟘 · 𝟙
      ⊞ ((n · d₁ ⊞ q · s₂) · v₁ · 𝟘 ⊞ (n · d₁ ⊞ q · s₂) · u₂ ⊞ (n · d₁ ⊞ q · s₂) · 𝟘
      ⊞ (q · s₃ · v₁ · 𝟙 ⊞ q · s₃ · v₂ ⊞ q · s₃ · 𝟙)))
  back₁ u₁ v₁ u₂ v₂ e s₁ s₂ s₃ d₁ d₂ c q n part₁ part₂ bezout =
      combine R _ _ (both R (both R (by R (n · d₂) part₁) (by R (n · d₁) part₂)) (by R q bezout)) (simp (ring2, R))

  pub double_bezout : (u v : P) → 𝟙 ≡ 𝟘 · u ⊞ 𝟘 · u ⊞ 𝟙 · (v ⊞ v ⊞ 𝟙)
  double_bezout u v = simp (ring2, R)

  pub double_part : (v : P) → v ⊞ v ⊞ 𝟙 ≡ 𝟙 · 𝟙
  double_part v = simp (ring2, R)

  pub double_numerator : (f u v : P) → 𝟙 · (v · v ⊞ f) ≡ 𝟘 · u · v ⊞ 𝟘 · u · v ⊞ 𝟙 · (v · v ⊞ f)
  double_numerator f u v = simp (ring2, R)
