-- Divisibility in any ring of characteristic 2: reflexive, transitive, and closed under sums and multiples.
use mathlib.Core.Path.{◌≡◌, refl, sym, ◌∙◌, ap, ap₂}
use Rattle.field_laws.specs.Ring.{Ring2}
use Rattle.char2_algebra.specs.Divides.{Divides}
use Rattle.char2_algebra.proofs.Ring.{ring2, ⊞_·, ·_comm, ·_assoc, 𝟙_·, ·_𝟘, 𝟘_·}

module _ {A : Type 0} (R : Ring2 A) where
  open R use {add as ◌⊞◌, mul as ◌·◌, zero as 𝟘, one as 𝟙}

  infixl 60 ◌⊞◌
  infixl 70 ◌·◌
  pub divides_refl : (a : A) → Divides R a a
  divides_refl a = (𝟙, sym (𝟙_· R a))

  pub divides_zero : (b : A) → Divides R b 𝟘
  divides_zero b = (𝟘, sym (𝟘_· R b))

  pub one_divides : (a : A) → Divides R 𝟙 a
  one_divides a = (a, sym (R.mul_one a))

  pub divides_right : (a b : A) → Divides R b (a · b)
  divides_right a b = (a, refl)

  pub divides_eq : {b a a' : A} → a ≡ a' → Divides R b a → Divides R b a'
  divides_eq e (q, h) = (q, sym e ∙ h)

  pub divides_trans : {a b c : A} → Divides R a b → Divides R b c → Divides R a c
  divides_trans {a} (q, h) (s, k) = (s · q, k ∙ ap (λ z. s · z) h ∙ sym (·_assoc R s q a))

  pub divides_add : {b a a' : A} → Divides R b a → Divides R b a' → Divides R b (a ⊞ a')
  divides_add {b} (q, h) (s, k) = (q ⊞ s, ap₂ ◌⊞◌ h k ∙ sym (⊞_· R q s b))

  pub divides_mul : {b a : A} (c : A) → Divides R b a → Divides R b (c · a)
  divides_mul {b} c (q, h) = (c · q, ap (λ z. c · z) h ∙ sym (·_assoc R c q b))

  pub divides_mul_right : {b a : A} (c : A) → Divides R b a → Divides R b (a · c)
  divides_mul_right {b} {a} c d = divides_eq (·_comm R c a) (divides_mul c d)

  pub divides_product : {b a b' a' : A} → Divides R b a → Divides R b' a' → Divides R (b · b') (a · a')
  divides_product {b} {a} {b'} {a'} (q, h) (s, k) = (q · s, ap₂ ◌·◌ h k ∙ shuffle q b s b')
    where
      shuffle : (q b s b' : A) → (q · b) · (s · b') ≡ (q · s) · (b · b')
      shuffle q b s b' = simp (ring2, R)

  pub divides_by_eq : {b b' a : A} → b ≡ b' → Divides R b a → Divides R b' a
  divides_by_eq e (q, h) = (q, h ∙ ap (λ z. q · z) e)

  pub zero_divides : {a : A} → Divides R 𝟘 a → a ≡ 𝟘
  zero_divides (q, h) = h ∙ ·_𝟘 R q
