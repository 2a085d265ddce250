-- The equation y² + y = a over the elements of degree d (docs/SPECIFICATION.md, 1): its roots, and the trace,
-- which decides whether there are any.
use Rattle.std.specs.Prelude.{ℕ, zero, suc, ◌+◌, ◌*◌, ◌/◌, ◌%◌, ◌^◌, ◌<◌, eqb}
use mathlib.Core.{Path.◌≡◌, Bool.cond, Bool.◌&&◌, Logic.◌⊎◌, Option.Option, Option.none, Option.some}
use Rattle.binary_field_theory.specs.{Carryless.◌⊕◌, Element.square, Element.squarings, Search.first}

-- y² + y
unfoldable pub quadratic : ℕ → ℕ → ℕ
quadratic d y = square d y ⊕ y

-- y is an element that solves the equation
pub record Root (d a y : ℕ) : Type 0 where
  pub below : y < 2 ^ d
  pub solves : quadratic d y ≡ a

-- ---- the root with lowest bit 0

-- y, where it solves the equation and its lowest bit is 0
unfoldable pub even_solution : ℕ → ℕ → ℕ → Option ℕ
even_solution d a y = cond (eqb (quadratic d y) a && eqb (y % 2) 0) (some y) none

-- the root with lowest bit 0, searched among all elements
unfoldable pub even_root : ℕ → ℕ → Option ℕ
even_root d a = first (even_solution d a) (2 ^ d)

-- the roots are y, whose lowest bit is 0, and y + 1, and no others
pub record EvenRoot (d a y : ℕ) : Type 0 where
  pub root : Root d a y
  pub even : y % 2 ≡ 0
  pub other : Root d a (y ⊕ 1)
  pub only : (b : ℕ) → Root d a b → (b ≡ y) ⊎ (b ≡ y ⊕ 1)

-- ---- trace and half-trace

-- the first k terms of a + a^2 + a^4 + ..
unfoldable pub traces : ℕ → ℕ → ℕ → ℕ
traces d zero a = 0
traces d (suc k) a = squarings d k a ⊕ traces d k a

-- the trace of a: d terms of that sum
unfoldable pub trace : ℕ → ℕ → ℕ
trace d a = traces d d a

-- the first k terms of a + a^4 + a^16 + ..
unfoldable pub half_traces : ℕ → ℕ → ℕ → ℕ
half_traces d zero a = 0
half_traces d (suc k) a = squarings d (2 * k) a ⊕ half_traces d k a

-- the half-trace of a, for an odd degree d: the last term of the sum is a^(2^(d-1))
unfoldable pub half_trace : ℕ → ℕ → ℕ
half_trace d a = half_traces d ((d + 1) / 2) a
