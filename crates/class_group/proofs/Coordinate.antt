-- The coordinate ring of y² + y = f over a commutative ring P of characteristic 2: pairs (p, q) for p + q y.
-- The product is by y² = y + f; the conjugate of (p, q) is (p + q, q); the norm of (p, q) is p² + p q + q² f.
-- `coordinate`: it is a commutative ring of characteristic 2.
-- `norm_mul`: the norm is multiplicative.
-- `mul_conj`: an element times its conjugate is its norm.
-- `norm_constant`, `norm_value`: the norm of p is p², that of v + y is v² + v + f.
-- `constant_mul`: the product with an element of P.
use mathlib.Core.Path.{◌≡◌}
use mathlib.Core.HLevel.{Σ_set}
use Rattle.field_laws.specs.Ring.{Ring2}
use Rattle.char2_algebra.proofs.Ring.{ring2}

-- The identities for the ring laws, over plain variables.
module _ {P : Type 0} (R : Ring2 P) where
  open R use {add as ◌⊞◌, mul as ◌·◌, zero as 𝟘, one as 𝟙}

  infixl 60 ◌⊞◌
  infixl 70 ◌·◌
  pub assoc₀ : (f p q p' q' p'' q'' : P) → (p · p' ⊞ q · q' · f) · p'' ⊞ (p · q' ⊞ q · p' ⊞ q · q') · q'' · f
      ≡ p · (p' · p'' ⊞ q' · q'' · f) ⊞ q · (p' · q'' ⊞ q' · p'' ⊞ q' · q'') · f
  assoc₀ f p q p' q' p'' q'' = simp (ring2, R)

  pub assoc₁ : (f p q p' q' p'' q'' : P) → (p · p' ⊞ q · q' · f) · q'' ⊞ (p · q' ⊞ q · p' ⊞ q · q') · p'' ⊞ (p · q' ⊞ q · p' ⊞ q · q') · q''
      ≡ p · (p' · q'' ⊞ q' · p'' ⊞ q' · q'') ⊞ q · (p' · p'' ⊞ q' · q'' · f) ⊞ q · (p' · q'' ⊞ q' · p'' ⊞ q' · q'')
  assoc₁ f p q p' q' p'' q'' = simp (ring2, R)

  pub comm₀ : (f p q p' q' : P) → p · p' ⊞ q · q' · f ≡ p' · p ⊞ q' · q · f
  comm₀ f p q p' q' = simp (ring2, R)

  pub comm₁ : (p q p' q' : P) → p · q' ⊞ q · p' ⊞ q · q' ≡ p' · q ⊞ q' · p ⊞ q' · q
  comm₁ p q p' q' = simp (ring2, R)

  pub one₀ : (f p q : P) → p · 𝟙 ⊞ q · 𝟘 · f ≡ p
  one₀ f p q = simp (ring2, R)

  pub one₁ : (p q : P) → p · 𝟘 ⊞ q · 𝟙 ⊞ q · 𝟘 ≡ q
  one₁ p q = simp (ring2, R)

  pub distrib₀ : (f p q p' q' p'' q'' : P) → p · (p' ⊞ p'') ⊞ q · (q' ⊞ q'') · f ≡ p · p' ⊞ q · q' · f ⊞ (p · p'' ⊞ q · q'' · f)
  distrib₀ f p q p' q' p'' q'' = simp (ring2, R)

  pub distrib₁ : (p q p' q' p'' q'' : P) → p · (q' ⊞ q'') ⊞ q · (p' ⊞ p'') ⊞ q · (q' ⊞ q'') ≡ p · q' ⊞ q · p' ⊞ q · q' ⊞ (p · q'' ⊞ q · p'' ⊞ q · q'')
  distrib₁ p q p' q' p'' q'' = simp (ring2, R)

  pub conj₀ : (f p q : P) → p · (p ⊞ q) ⊞ q · q · f ≡ p · p ⊞ p · q ⊞ q · q · f
  conj₀ f p q = simp (ring2, R)

  pub conj₁ : (p q : P) → p · q ⊞ q · (p ⊞ q) ⊞ q · q ≡ 𝟘
  conj₁ p q = simp (ring2, R)

  pub constant₀ : (f c p q : P) → c · p ⊞ 𝟘 · q · f ≡ c · p
  constant₀ f c p q = simp (ring2, R)

  pub constant₁ : (c p q : P) → c · q ⊞ 𝟘 · p ⊞ 𝟘 · q ≡ c · q
  constant₁ c p q = simp (ring2, R)

  pub norm_mul' : (f p q p' q' : P) → (p · p' ⊞ q · q' · f) · (p · p' ⊞ q · q' · f)
      ⊞ (p · p' ⊞ q · q' · f) · (p · q' ⊞ q · p' ⊞ q · q')
      ⊞ (p · q' ⊞ q · p' ⊞ q · q') · (p · q' ⊞ q · p' ⊞ q · q') · f
      ≡ (p · p ⊞ p · q ⊞ q · q · f) · (p' · p' ⊞ p' · q' ⊞ q' · q' · f)
  norm_mul' f p q p' q' = simp (ring2, R)

module _ {P : Type 0} (R : Ring2 P) (f : P) where
  open R use {add as ◌⊞◌, mul as ◌·◌, zero as 𝟘, one as 𝟙}

  infixl 60 ◌⊞◌
  infixl 70 ◌·◌
  unfoldable pub coordinate : Ring2 (P × P)
  coordinate = record {
    add = λ x y. (x.0 ⊞ y.0, x.1 ⊞ y.1);
    mul = λ x y. (x.0 · y.0 ⊞ x.1 · y.1 · f, x.0 · y.1 ⊞ x.1 · y.0 ⊞ x.1 · y.1);
    zero = (𝟘, 𝟘);
    one = (𝟙, 𝟘);
    is_set = Σ_set R.is_set (λ p. R.is_set);
    add_comm = λ x y i. (R.add_comm x.0 y.0 i, R.add_comm x.1 y.1 i);
    add_assoc = λ x y z i. (R.add_assoc x.0 y.0 z.0 i, R.add_assoc x.1 y.1 z.1 i);
    add_zero = λ x i. (R.add_zero x.0 i, R.add_zero x.1 i);
    add_self = λ x i. (R.add_self x.0 i, R.add_self x.1 i);
    mul_comm = λ x y i. (comm₀ R f x.0 x.1 y.0 y.1 i, comm₁ R x.0 x.1 y.0 y.1 i);
    mul_assoc = λ x y z i. (assoc₀ R f x.0 x.1 y.0 y.1 z.0 z.1 i, assoc₁ R f x.0 x.1 y.0 y.1 z.0 z.1 i);
    mul_one = λ x i. (one₀ R f x.0 x.1 i, one₁ R x.0 x.1 i);
    mul_add = λ x y z i. (distrib₀ R f x.0 x.1 y.0 y.1 z.0 z.1 i, distrib₁ R x.0 x.1 y.0 y.1 z.0 z.1 i);
  }

  -- the conjugate of p + q y: p + q + q y
  unfoldable pub conj : P × P → P × P
  conj x = (x.0 ⊞ x.1, x.1)

  -- the norm of p + q y: p² + p q + q² f
  unfoldable pub norm : P × P → P
  norm x = x.0 · x.0 ⊞ x.0 · x.1 ⊞ x.1 · x.1 · f

  pub norm_mul : (x y : P × P) → norm (coordinate.mul x y) ≡ norm x · norm y
  unfolding coordinate norm
  norm_mul x y = norm_mul' R f x.0 x.1 y.0 y.1

  pub mul_conj : (x : P × P) → coordinate.mul x (conj x) ≡ (norm x, 𝟘)
  unfolding coordinate norm conj
  mul_conj x = λ i. (conj₀ R f x.0 x.1 i, conj₁ R x.0 x.1 i)

  pub norm_constant : (p : P) → norm (p, 𝟘) ≡ p · p
  unfolding norm
  norm_constant p = simp (ring2, R)

  pub norm_value : (v : P) → norm (v, 𝟙) ≡ v · v ⊞ v ⊞ f
  unfolding norm
  norm_value v = simp (ring2, R)

  pub constant_mul : (c p q : P) → coordinate.mul (c, 𝟘) (p, q) ≡ (c · p, c · q)
  unfolding coordinate
  constant_mul c p q = λ i. (constant₀ R f c p q i, constant₁ R c p q i)
