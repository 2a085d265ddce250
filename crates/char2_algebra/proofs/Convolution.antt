-- The product of polynomials on coefficient functions ℕ → A, over any commutative ring of characteristic 2 (`conv`):
-- (p q)₀ = p₀ q₀ and (p q)' = p₀ q' + p' q, where p' is p without its first coefficient.
-- `conv_comm`, `conv_assoc`, `conv_add`: it is commutative, associative and distributive.
-- `conv_none`: the product with a function that is zero everywhere is zero.
-- `conv_con`: the product with a constant. `conv_shift`: the product with a multiple of x.
use Prim.Native.Nat.{ℕ, zero, suc}
use mathlib.Core.Path.{◌≡◌, refl, sym, ◌∙◌, ap, ap₂}
use Rattle.field_laws.specs.Ring.{Ring2}
use Rattle.char2_algebra.proofs.Ring.{ring2, 𝟘_·, 𝟘_⊞, ⊞_self, ⊞_𝟘}

module _ {A : Type 0} (R : Ring2 A) where
  open R use {add as ◌⊞◌, mul as ◌·◌, zero as 𝟘, one as 𝟙}

  infixl 60 ◌⊞◌
  infixl 70 ◌·◌
  pub conv : (ℕ → A) → (ℕ → A) → ℕ → A
  conv p q zero = p 0 · q 0
  conv p q (suc i) = p 0 · q (suc i) ⊞ conv (λ j. p (suc j)) q i

  pub conv_zero : (p q : ℕ → A) → conv p q 0 ≡ p 0 · q 0
  unfolding conv
  conv_zero p q = refl

  pub conv_suc : (p q : ℕ → A) (i : ℕ) → conv p q (suc i) ≡ p 0 · q (suc i) ⊞ conv (λ j. p (suc j)) q i
  unfolding conv
  conv_suc p q i = refl

  -- two sums with their terms in another order
  at_end : (a b c : A) → a ⊞ (b ⊞ c) ≡ a ⊞ b ⊞ c
  at_end a b c = simp (ring2, R)

  swapped : (a b c : A) → a · b ⊞ c ≡ c ⊞ b · a
  swapped a b c = simp (ring2, R)

  -- the same from the other side: (p q)' = p q' + p' q₀
  conv_right : (p q : ℕ → A) (i : ℕ) → conv p q (suc i) ≡ conv p (λ j. q (suc j)) i ⊞ p (suc i) · q 0
  unfolding conv
  conv_right p q zero = refl
  conv_right p q (suc i) =
      ap (λ z. p 0 · q (suc (suc i)) ⊞ z) (conv_right (λ j. p (suc j)) q i)
      ∙ at_end (p 0 · q (suc (suc i))) (conv (λ j. p (suc j)) (λ j. q (suc j)) i) (p (suc (suc i)) · q 0)

  pub conv_comm : (p q : ℕ → A) (i : ℕ) → conv p q i ≡ conv q p i
  unfolding conv
  conv_comm p q zero = R.mul_comm (p 0) (q 0)
  conv_comm p q (suc i) =
      ap (λ z. p 0 · q (suc i) ⊞ z) (conv_comm (λ j. p (suc j)) q i)
      ∙ swapped (p 0) (q (suc i)) (conv q (λ j. p (suc j)) i)
      ∙ sym (conv_right q p i)

  add_step : (a b c d e : A) → a · (b ⊞ c) ⊞ (d ⊞ e) ≡ a · b ⊞ d ⊞ (a · c ⊞ e)
  add_step a b c d e = simp (ring2, R)

  pub conv_add : (p q r : ℕ → A) (i : ℕ) → conv p (λ j. q j ⊞ r j) i ≡ conv p q i ⊞ conv p r i
  unfolding conv
  conv_add p q r zero = R.mul_add (p 0) (q 0) (r 0)
  conv_add p q r (suc i) =
      ap (λ z. p 0 · (q (suc i) ⊞ r (suc i)) ⊞ z) (conv_add (λ j. p (suc j)) q r i)
      ∙ add_step (p 0) (q (suc i)) (r (suc i)) (conv (λ j. p (suc j)) q i) (conv (λ j. p (suc j)) r i)

  linear_start : (c a s b : A) → (c · a ⊞ s) · b ≡ c · (a · b) ⊞ s · b
  linear_start c a s b = simp (ring2, R)

  linear_step : (c a s b d e : A) → (c · a ⊞ s) · b ⊞ (c · d ⊞ e) ≡ c · (a · b ⊞ d) ⊞ (s · b ⊞ e)
  linear_step c a s b d e = simp (ring2, R)

  conv_linear : (c : A) (p s q : ℕ → A) (i : ℕ) → conv (λ j. c · p j ⊞ s j) q i ≡ c · conv p q i ⊞ conv s q i
  unfolding conv
  conv_linear c p s q zero = linear_start c (p 0) (s 0) (q 0)
  conv_linear c p s q (suc i) =
      ap (λ z. (c · p 0 ⊞ s 0) · q (suc i) ⊞ z) (conv_linear c (λ j. p (suc j)) (λ j. s (suc j)) q i)
      ∙ linear_step c (p 0) (s 0) (q (suc i)) (conv (λ j. p (suc j)) q i) (conv (λ j. s (suc j)) q i)

  assoc_step : (a b c d e : A) → a · b · c ⊞ (a · d ⊞ e) ≡ a · (b · c ⊞ d) ⊞ e
  assoc_step a b c d e = simp (ring2, R)

  pub conv_assoc : (p q r : ℕ → A) (i : ℕ) → conv (conv p q) r i ≡ conv p (conv q r) i
  unfolding conv
  conv_assoc p q r zero = R.mul_assoc (p 0) (q 0) (r 0)
  conv_assoc p q r (suc i) =
      ap (λ z. p 0 · q 0 · r (suc i) ⊞ z)
      (conv_linear (p 0) (λ j. q (suc j)) (conv (λ j. p (suc j)) q) r i
      ∙ ap (λ z. p 0 · conv (λ j. q (suc j)) r i ⊞ z) (conv_assoc (λ j. p (suc j)) q r i))
      ∙ assoc_step (p 0) (q 0) (r (suc i)) (conv (λ j. q (suc j)) r i) (conv (λ j. p (suc j)) (conv q r) i)

  pub conv_none : (p q : ℕ → A) → ((j : ℕ) → p j ≡ 𝟘) → (i : ℕ) → conv p q i ≡ 𝟘
  unfolding conv
  conv_none p q h zero = ap (λ z. z · q 0) (h 0) ∙ 𝟘_· R (q 0)
  conv_none p q h (suc i) =
      ap₂ ◌⊞◌ (ap (λ z. z · q (suc i)) (h 0) ∙ 𝟘_· R (q (suc i))) (conv_none (λ j. p (suc j)) q (λ j. h (suc j)) i) ∙ ⊞_self R 𝟘

  pub conv_con : (p q : ℕ → A) → ((j : ℕ) → p (suc j) ≡ 𝟘) → (i : ℕ) → conv p q i ≡ p 0 · q i
  unfolding conv
  conv_con p q h zero = refl
  conv_con p q h (suc i) = ap (λ z. p 0 · q (suc i) ⊞ z) (conv_none (λ j. p (suc j)) q h i) ∙ ⊞_𝟘 R (p 0 · q (suc i))

  pub conv_shift : (p q : ℕ → A) → p 0 ≡ 𝟘 → (i : ℕ) → conv p q (suc i) ≡ conv (λ j. p (suc j)) q i
  unfolding conv
  conv_shift p q h i =
      ap (λ z. z ⊞ conv (λ j. p (suc j)) q i) (ap (λ z. z · q (suc i)) h ∙ 𝟘_· R (q (suc i))) ∙ 𝟘_⊞ R (conv (λ j. p (suc j)) q i)
