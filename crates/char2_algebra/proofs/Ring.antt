-- Commutative rings of characteristic 2.
-- The laws as lemmas with short names; `simp (ring2, R)` proves an identity of a few terms.
-- `eq_of_sum`, `sum_of_eq`: a sum is zero exactly where the two terms are equal.
-- `by`, `both`, `combine`: an equation from hypotheses that are multiplied by coefficients and added.
use mathlib.Core.Path.{◌≡◌, sym, ◌∙◌, ap, ap₂}
use Rattle.field_laws.specs.Ring.{Ring2}

module _ {A : Type 0} (R : Ring2 A) where
  open R use {add as ◌⊞◌, mul as ◌·◌, zero as 𝟘, one as 𝟙}

  infixl 60 ◌⊞◌
  infixl 70 ◌·◌
  pub ⊞_comm : (a b : A) → a ⊞ b ≡ b ⊞ a
  ⊞_comm a b = R.add_comm a b

  pub ⊞_assoc : (a b c : A) → a ⊞ b ⊞ c ≡ a ⊞ (b ⊞ c)
  ⊞_assoc a b c = R.add_assoc a b c

  pub ⊞_left_comm : (a b c : A) → a ⊞ (b ⊞ c) ≡ b ⊞ (a ⊞ c)
  ⊞_left_comm a b c = sym (⊞_assoc a b c) ∙ ap (λ z. z ⊞ c) (⊞_comm a b) ∙ ⊞_assoc b a c

  pub ⊞_𝟘 : (a : A) → a ⊞ 𝟘 ≡ a
  ⊞_𝟘 a = R.add_zero a

  pub 𝟘_⊞ : (a : A) → 𝟘 ⊞ a ≡ a
  𝟘_⊞ a = ⊞_comm 𝟘 a ∙ ⊞_𝟘 a

  pub ⊞_self : (a : A) → a ⊞ a ≡ 𝟘
  ⊞_self a = R.add_self a

  pub ⊞_cancel : (a b : A) → a ⊞ (a ⊞ b) ≡ b
  ⊞_cancel a b = sym (⊞_assoc a a b) ∙ ap (λ z. z ⊞ b) (⊞_self a) ∙ 𝟘_⊞ b

  pub ·_comm : (a b : A) → a · b ≡ b · a
  ·_comm a b = R.mul_comm a b

  pub ·_assoc : (a b c : A) → a · b · c ≡ a · (b · c)
  ·_assoc a b c = R.mul_assoc a b c

  pub ·_left_comm : (a b c : A) → a · (b · c) ≡ b · (a · c)
  ·_left_comm a b c = sym (·_assoc a b c) ∙ ap (λ z. z · c) (·_comm a b) ∙ ·_assoc b a c

  pub ·_𝟙 : (a : A) → a · 𝟙 ≡ a
  ·_𝟙 a = R.mul_one a

  pub 𝟙_· : (a : A) → 𝟙 · a ≡ a
  𝟙_· a = ·_comm 𝟙 a ∙ ·_𝟙 a

  pub ·_⊞ : (a b c : A) → a · (b ⊞ c) ≡ a · b ⊞ a · c
  ·_⊞ a b c = R.mul_add a b c

  pub ⊞_· : (a b c : A) → (a ⊞ b) · c ≡ a · c ⊞ b · c
  ⊞_· a b c = ·_comm (a ⊞ b) c ∙ ·_⊞ c a b ∙ ap₂ ◌⊞◌ (·_comm c a) (·_comm c b)

  pub ·_𝟘 : (a : A) → a · 𝟘 ≡ 𝟘
  ·_𝟘 a = ap (λ z. a · z) (sym (⊞_self 𝟘)) ∙ ·_⊞ a 𝟘 𝟘 ∙ ⊞_self (a · 𝟘)

  pub 𝟘_· : (a : A) → 𝟘 · a ≡ 𝟘
  𝟘_· a = ·_comm 𝟘 a ∙ ·_𝟘 a

pub ruleset ring2 = (⊞_assoc, ⊞_comm, ⊞_left_comm, ⊞_𝟘, 𝟘_⊞, ⊞_self, ⊞_cancel, ·_assoc, ·_comm, ·_left_comm, ·_𝟙, 𝟙_·, ·_⊞, ⊞_·, ·_𝟘, 𝟘_·)

module _ {A : Type 0} (R : Ring2 A) where
  open R use {add as ◌⊞◌, mul as ◌·◌, zero as 𝟘, one as 𝟙}

  infixl 60 ◌⊞◌
  infixl 70 ◌·◌
  pub square_⊞ : (a b : A) → (a ⊞ b) · (a ⊞ b) ≡ a · a ⊞ b · b
  square_⊞ a b = simp (ring2, R)

  pub eq_of_sum : (a b : A) → a ⊞ b ≡ 𝟘 → a ≡ b
  eq_of_sum a b h = sym (⊞_𝟘 R a) ∙ ap (λ z. a ⊞ z) (sym (⊞_self R b)) ∙ sym (⊞_assoc R a b b) ∙ ap (λ z. z ⊞ b) h ∙ 𝟘_⊞ R b

  pub sum_of_eq : (a b : A) → a ≡ b → a ⊞ b ≡ 𝟘
  sum_of_eq a b h = ap (λ z. z ⊞ b) h ∙ ⊞_self R b

  -- from p ≡ q, with a coefficient c: l ≡ r where l + r is c times p + q
  pub by : (c : A) {p q : A} → p ≡ q → c · (p ⊞ q) ≡ 𝟘
  by c {p} {q} h = ap (λ z. c · z) (sum_of_eq p q h) ∙ ·_𝟘 R c

  pub both : {a b : A} → a ≡ 𝟘 → b ≡ 𝟘 → a ⊞ b ≡ 𝟘
  both {a} {b} h k = ap₂ ◌⊞◌ h k ∙ ⊞_self R 𝟘

  pub combine : (l r : A) {s : A} → s ≡ 𝟘 → l ⊞ r ≡ s → l ≡ r
  combine l r h e = eq_of_sum l r (e ∙ h)
