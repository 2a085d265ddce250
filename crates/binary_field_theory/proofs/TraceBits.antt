-- The trace of an element of degree 5 or 61 is the sum of its digits at positions 0 and d - 2 (`trace_two_digits`).
-- That sum is the same for an element and for its square, which is tested at the powers of t.
-- So it is the same for an element and for the trace, a sum of d such powers, as d is odd (`odd`).
-- The trace is 0 or 1, and so equal to that sum of its own digits (`one_digit`).
use Prim.Native.Nat.{ℕ, zero, suc, ◌-◌, ◌*◌, ◌/◌, ◌%◌, ◌^◌, ◌<◌}
use mathlib.Core.{Path.◌≡◌, Path.refl, Path.sym, Path.ap, Path.ap₂, Path.◌∙◌, Bool.Bool}
use native.Mathlib.{Nat.zero-mul, Nat.one-mul, Omega.arith}
use lib.Dec.{T}
use Rattle.binary_field_theory.specs.{Carryless.◌⊕◌, Carryless.digits_to, Carryless.digits, Carryless.clmul, Carryless.reduce, Carryless.remainder, Element.Accepted, Element.low, Element.product, Element.square, Element.squarings}
use Rattle.binary_field_theory.specs.Quadratic.{traces, trace}
use Rattle.binary_field_theory.proofs.{Sums.bit_cases, Sums.bit_lt, Sums.sum_zero, Sums.sum_self, Sums.sum_shr, Sums.sum_odd, Sums.sum_middle, Linear.Additive, Linear.additive_zero, Linear.basis, Linear.same, Linear.same_at, Certificate.certified}
use Rattle.binary_field_theory.proofs.{Products.low_lt, Products.degree_cases, Products.square_sum, Power.squarings_zero, Power.squarings_suc, Power.squarings_lt, Quadratic.trace_bit}

-- the sum of the digits at positions 0 and d - 2
unfoldable pub two_digits : ℕ → ℕ → ℕ
two_digits d a = (a ⊕ a / 2 ^ (d - 2)) % 2

two_digits_sum : (d : ℕ) → Additive (two_digits d)
unfolding two_digits
two_digits_sum d a b =
    ap (λ x. (a ⊕ b ⊕ x) % 2) (sum_shr a b (d - 2)) ∙ ap (λ x. x % 2) (sum_middle a b _ _) ∙ sum_odd _ _

-- ---- the computations
squared_same : ℕ → Bool
squared_same d = same (λ n. two_digits d (square d n)) (two_digits d) d

computing : Unit {0}
unfolding ◌⊕◌ digits_to digits clmul reduce remainder low product square same two_digits squared_same
computing = tt

squared_same_5 : T (squared_same 5)
unfolding computing
squared_same_5 = tt

squared_same_61 : T (squared_same 61)
unfolding computing
squared_same_61 = tt

pub one_digit : (d : ℕ) → Accepted d → (x : ℕ) → x < 2 → two_digits d x ≡ x
unfolding computing
one_digit = degree_cases (λ d. (x : ℕ) → x < 2 → two_digits d x ≡ x)
    (bit_cases (λ x. two_digits 5 x ≡ x) refl refl) (bit_cases (λ x. two_digits 61 x ≡ x) refl refl)

squared_at : (d : ℕ) → Accepted d → T (squared_same d)
squared_at = degree_cases (λ d. T (squared_same d)) squared_same_5 squared_same_61

module _ (d : ℕ) (ok : Accepted d) where
  square_digits : (a : ℕ) → a < 2 ^ d → two_digits d (square d a) ≡ two_digits d a
  unfolding squared_same
  square_digits =
      basis (λ n. two_digits d (square d n)) (two_digits d)
      (λ x y. ap (two_digits d) (square_sum d (low_lt d ok) x y) ∙ two_digits_sum d _ _) (two_digits_sum d) d
      (same_at (λ n. two_digits d (square d n)) (two_digits d) d (squared_at d ok))

  squarings_digits : (k a : ℕ) → a < 2 ^ d → two_digits d (squarings d k a) ≡ two_digits d a
  squarings_digits zero a ha = ap (two_digits d) (squarings_zero d a)
  squarings_digits (suc k) a ha =
      ap (two_digits d) (squarings_suc d k a) ∙ square_digits (squarings d k a) (squarings_lt d (low_lt d ok) k a ha) ∙ squarings_digits k a ha

  traces_digits : (k a : ℕ) → a < 2 ^ d → two_digits d (traces d k a) ≡ k % 2 * two_digits d a
  unfolding traces
  traces_digits zero a ha = additive_zero (two_digits d) (two_digits_sum d) ∙ sym (zero-mul (two_digits d a))
  traces_digits (suc k) a ha =
      two_digits_sum d (squarings d k a) (traces d k a) ∙ ap₂ ◌⊕◌ (squarings_digits k a ha) (traces_digits k a ha) ∙ next (k % 2) (bit_lt k) refl
    where
      t : ℕ
      t = two_digits d a

      next : (x : ℕ) → x < 2 → k % 2 ≡ x → t ⊕ x * t ≡ suc k % 2 * t
      next = bit_cases (λ x. k % 2 ≡ x → t ⊕ x * t ≡ suc k % 2 * t)
          (λ e. let g : suc k % 2 ≡ 1 = omega arith in rw (g, zero-mul, one-mul) (sum_zero t))
          (λ e. let g : suc k % 2 ≡ 0 = omega arith in rw (g, zero-mul, one-mul) (sum_self t))

  pub odd : d % 2 ≡ 1
  odd = degree_cases (λ d. d % 2 ≡ 1) refl refl d ok

  pub trace_two_digits : (a : ℕ) → a < 2 ^ d → trace d a ≡ two_digits d a
  unfolding trace
  trace_two_digits a ha =
      sym (one_digit d ok (traces d d a) (trace_bit d (certified d ok) a ha)) ∙ traces_digits d a ha ∙ ap (λ x. x * two_digits d a) odd ∙ one-mul _
