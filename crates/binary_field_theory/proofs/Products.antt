-- The product of elements, for every d with low d below 2^d: below 2^d, commutative, associative, distributive,
-- with unit 1. Squaring is additive; a square is the remainder of the spread number (`square_spread`).
use Prim.Native.Nat.{ℕ, zero, suc, ◌*◌, ◌^◌, ◌≤◌, ◌<◌}
use mathlib.Core.{Path.◌≡◌, Path.sym, Path.ap, Path.subst, Path.◌∙◌, Bool.Bool, Bool.true, Bool.false, Bool.cond, Bool.◌||◌}
use native.Mathlib.Omega.{arith}
use lib.Dec.{T, eqb, eqb→eq}
use Rattle.binary_field_theory.specs.Carryless.{◌⊕◌, clmul, spread, remainder}
use Rattle.binary_field_theory.specs.Element.{Accepted, low, product, square}
use Rattle.binary_field_theory.proofs.Clmul
use Rattle.binary_field_theory.proofs.Spread.{clmul_self}
use Rattle.binary_field_theory.proofs.Remainder

pub low_ge : (d : ℕ) → 2 ≤ low d
unfolding low
low_ge d = either (eqb d 61) _ _ (omega arith) (omega arith)
  where
    either : (b : Bool) (x y : ℕ) → 2 ≤ x → 2 ≤ y → 2 ≤ cond b x y
    either true x y hx hy = hx
    either false x y hx hy = hy

pub one_lt : (d : ℕ) → low d < 2 ^ d → 1 < 2 ^ d
one_lt d h = omega (arith, low_ge d)

pub degree_pos : (d : ℕ) → low d < 2 ^ d → 0 < d
degree_pos zero h = absurd (omega (arith, low_ge 0))
degree_pos (suc d) h = omega arith

pub product_comm : (d a b : ℕ) → product d a b ≡ product d b a
unfolding product
product_comm d a b = ap (remainder d (low d)) (Clmul.clmul_comm a b)

pub zero_product : (d b : ℕ) → product d 0 b ≡ 0
unfolding product
zero_product d b = ap (remainder d (low d)) (Clmul.zero_clmul b) ∙ Remainder.remainder_zero d (low d)

pub product_zero : (d a : ℕ) → product d a 0 ≡ 0
product_zero d a = product_comm d a 0 ∙ zero_product d a

pub square_spread : (d a : ℕ) → square d a ≡ remainder d (low d) (spread a)
unfolding square product
square_spread d a = ap (remainder d (low d)) (clmul_self a)

module _ (d : ℕ) (h : low d < 2 ^ d) where
  pub product_lt : (a b : ℕ) → product d a b < 2 ^ d
  unfolding product
  product_lt a b = Remainder.remainder_lt d (low d) h (clmul a b)

  pub product_sum : (a b c : ℕ) → product d a (b ⊕ c) ≡ product d a b ⊕ product d a c
  unfolding product
  product_sum a b c = ap (remainder d (low d)) (Clmul.clmul_sum a b c) ∙ Remainder.remainder_sum d (low d) h (clmul a b) (clmul a c)

  pub product_assoc : (a b c : ℕ) → product d (product d a b) c ≡ product d a (product d b c)
  unfolding product
  product_assoc a b c =
      Remainder.remainder_clmul_left d (low d) h (clmul a b) c ∙ ap (remainder d (low d)) (Clmul.clmul_assoc a b c)
      ∙ sym (Remainder.remainder_clmul d (low d) h a (clmul b c))

  pub product_left_comm : (a b c : ℕ) → product d a (product d b c) ≡ product d b (product d a c)
  product_left_comm a b c = sym (product_assoc a b c) ∙ ap (λ x. product d x c) (product_comm d a b) ∙ product_assoc b a c

  pub product_one : (a : ℕ) → a < 2 ^ d → product d a 1 ≡ a
  unfolding product
  product_one a ha = ap (remainder d (low d)) (Clmul.clmul_one a) ∙ Remainder.remainder_small d (low d) h a ha

  pub one_product : (a : ℕ) → a < 2 ^ d → product d 1 a ≡ a
  one_product a ha = product_comm d 1 a ∙ product_one a ha

  -- t times an element
  pub two_product : (a : ℕ) → product d 2 a ≡ remainder d (low d) (2 * a)
  unfolding product
  two_product a = ap (remainder d (low d)) (Clmul.double_clmul 1 a ∙ ap (λ x. 2 * x) (Clmul.one_clmul a))

  pub square_lt : (a : ℕ) → square d a < 2 ^ d
  unfolding square
  square_lt a = product_lt a a

  pub square_sum : (a b : ℕ) → square d (a ⊕ b) ≡ square d a ⊕ square d b
  unfolding square product
  square_sum a b = ap (remainder d (low d)) (Clmul.clmul_self_sum a b) ∙ Remainder.remainder_sum d (low d) h (clmul a a) (clmul b b)

  -- a number may be replaced by its remainder before it is squared
  pub square_remainder : (a : ℕ) → square d (remainder d (low d) a) ≡ square d a
  unfolding square product
  square_remainder a = Remainder.remainder_clmul_left d (low d) h a (remainder d (low d) a) ∙ Remainder.remainder_clmul d (low d) h a a

  pub square_product : (a b : ℕ) → square d (product d a b) ≡ product d (square d a) (square d b)
  unfolding square
  square_product a b = product_assoc a b (product d a b) ∙ ap (product d a) (product_left_comm b a b) ∙ sym (product_assoc a a (product d b b))

-- ---- the degrees 5 and 61

pub degree_cases {ℓ} : (P : ℕ → Type ℓ) → P 5 → P 61 → (d : ℕ) → Accepted d → P d
degree_cases P p q d ok = either (eqb d 5) (eqb→eq d 5) ok
  where
    either : (b : Bool) → (T b → d ≡ 5) → T (b || eqb d 61) → P d
    either true e t = subst P (sym (e tt)) p
    either false e t = subst P (sym (eqb→eq d 61 t)) q

pub low_lt : (d : ℕ) → Accepted d → low d < 2 ^ d
unfolding low
low_lt = degree_cases (λ d. low d < 2 ^ d) (omega arith) (omega arith)
