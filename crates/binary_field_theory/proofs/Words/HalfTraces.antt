-- The half-trace as it is computed.
-- `one_term`: one term of a + a^4 + a^16 + .. is a.
-- `terms_added`: j + k terms are k terms, squared 2 j times, plus j terms.
-- `power_added`: an element squared n times, plus an element, is an element.
-- `trace_by_digits`: the trace from two digits.
use mathlib.Core.Path.{◌≡◌, ap, ap₂, sym, ◌∙◌}
use Prim.Native.Nat.{ℕ, ◌+◌, ◌-◌, ◌*◌, ◌/◌, ◌%◌, ◌^◌, ◌<◌}
use lib.Bits.{bit_xor}
use Rattle.binary_field_theory.specs.{Carryless.◌⊕◌, Element.Accepted, Element.squarings, Quadratic.trace, Quadratic.half_traces}
use Rattle.binary_field_theory.proofs.{Sums.sum_zero, Sums.sum_lt, Products.low_lt, Power.squarings_zero, Power.squarings_lt, Quadratic.half_traces_add, TraceBits.two_digits, TraceBits.trace_two_digits}

pub one_term : (d a : ℕ) → a ≡ half_traces d 1 a
unfolding half_traces
one_term d a = sym (sum_zero (squarings d 0 a) ∙ squarings_zero d a)

pub terms_added : (d a j k : ℕ) {x y r : ℕ} → Accepted d → x ≡ half_traces d k a → y ≡ half_traces d j a → r ≡ squarings d (2 * j) x ⊕ y
    → r ≡ half_traces d (j + k) a
terms_added d a j k hd ex ey er =
    er ∙ ap₂ (λ (u v : ℕ). squarings d (2 * j) u ⊕ v) ex ey ∙ sym (half_traces_add d (low_lt d hd) j k a)

pub power_added : (d n : ℕ) {x y p r : ℕ} → Accepted d → x < 2 ^ d → y < 2 ^ d → p ≡ squarings d n x → r ≡ bit_xor p y
    → (r ≡ squarings d n x ⊕ y) × (r < 2 ^ d)
unfolding ◌⊕◌
power_added d n {x} {y} hd hx hy e f =
    let g = f ∙ ap (λ (u : ℕ). bit_xor u y) e in
    (g, rw g (sum_lt d _ _ (squarings_lt d (low_lt d hd) n x hx) hy))

pub trace_by_digits : (d a : ℕ) → Accepted d → a < 2 ^ d → bit_xor a (a / 2 ^ (d - 2)) % 2 ≡ trace d a
unfolding ◌⊕◌ two_digits
trace_by_digits d a hd ha = sym (trace_two_digits d hd a ha)
