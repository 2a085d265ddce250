-- Repeated squaring as the loop computes it, and the powers 2^k - 1 of an element, from which its inverse is made.
-- `no_step`, `one_step_more`: the loop's invariant at the start and after a turn.
-- `joins`: the power 2^(j+k) - 1 from the powers 2^j - 1 and 2^k - 1. `first`: the power 2^1 - 1 is the element.
-- `last`: the square of the power 2^(d-1) - 1 is the power 2^d - 2.
use mathlib.Core.Path.{◌≡◌, ap, ap₂, sym, ◌∙◌}
use Prim.Native.Nat.{ℕ, ◌+◌, ◌-◌, ◌*◌, ◌^◌, ◌<◌}
use native.Mathlib.{Nat.add-mul, Nat.zero-mul, Omega.arith}
use Rattle.binary_field_theory.specs.Element.{Accepted, product, square, squarings, power}
use Rattle.binary_field_theory.proofs.Products.{low_lt, product_lt}
use Rattle.binary_field_theory.proofs.Power.{squarings_zero, squarings_add, squarings_lt, power_ones_add, power_one, ones_squared}

pub no_step : (d times a : ℕ) → a < 2 ^ d → (a ≡ squarings d (0 * times) a) × (a < 2 ^ d)
no_step d times a h = (sym (ap (λ (n : ℕ). squarings d n a) (zero-mul times) ∙ squarings_zero d a), h)

pub one_step_more : (d times a i : ℕ) {r s : ℕ} → Accepted d → (r ≡ squarings d (i * times) a) × (r < 2 ^ d) → s ≡ squarings d times r
    → (s ≡ squarings d ((i + 1) * times) a) × (s < 2 ^ d)
one_step_more d times a i {r} {s} hd (e, h) f =
    let k : (i + 1) * times ≡ times + i * times = omega (arith, add-mul i 1 times) in
    (f ∙ ap (squarings d times) e ∙ sym (ap (λ (n : ℕ). squarings d n a) k ∙ squarings_add d times (i * times) a), rw f (squarings_lt d (low_lt d hd) times r h))

pub multiplied : (d x y : ℕ) {s r : ℕ} → Accepted d → s ≡ x → r ≡ product d s y → (r ≡ product d x y) × (r < 2 ^ d)
multiplied d x y {s} hd e f = (f ∙ ap (λ (u : ℕ). product d u y) e, rw f (product_lt d (low_lt d hd) s y))

pub joins : (d a j k : ℕ) {x y r : ℕ} → Accepted d → x ≡ power d a (2 ^ j - 1) → y ≡ power d a (2 ^ k - 1) → r ≡ product d (squarings d k x) y
    → r ≡ power d a (2 ^ (j + k) - 1)
joins d a j k hd ex ey er =
    er ∙ ap₂ (λ (u v : ℕ). product d (squarings d k u) v) ex ey ∙ sym (power_ones_add d (low_lt d hd) a j k)

pub first : (d a : ℕ) → Accepted d → a < 2 ^ d → a ≡ power d a (2 ^ 1 - 1)
first d a hd h = sym (power_one d (low_lt d hd) a h)

pub last : (d a : ℕ) {x r : ℕ} → Accepted d → x ≡ power d a (2 ^ (d - 1) - 1) → r ≡ square d x → r ≡ power d a (2 ^ d - 2)
last d a hd ex er = er ∙ ap (square d) ex ∙ sym (ones_squared d (low_lt d hd) a)
