-- Theorems of docs/SPECIFICATION.md, 1, on the elements of degree 5 and 61.
-- That both moduli are irreducible is `irreducible` of Irreducible; the field laws are in the record `field` of
-- binary_field.
-- `one_root`: every element has exactly one square root.
-- `one_inverse`: every element but 0 has exactly one inverse.
-- `zero_no_inverse`: 0 has no inverse.
-- `root_iff_trace`: y² + y = a has a root exactly if the trace of a is 0.
-- `two_roots`: if y is a root, every root is y or y + 1.
-- `even_root_found`: a root that `even_root` finds has lowest bit 0, and the roots are it and it plus 1.
-- `even_root_none`: `even_root` finds none exactly if there is no root.
-- `even_root_by_trace`: if the trace is 0, `even_root` finds the half-trace with its lowest bit set to 0.
-- `none_by_trace`: if the trace is not 0, `even_root` finds none.
use Prim.Native.Nat.{ℕ, ◌%◌, ◌^◌, ◌<◌}
use mathlib.Core.Path.{◌≡◌, sym, ap, ◌∙◌}
use mathlib.Core.{Logic.◌↔◌, Logic.◌⊎◌, Option.none, Option.some}
use native.Mathlib.Omega.{arith}
use Rattle.binary_field_theory.specs.{Carryless.◌⊕◌, Element.Accepted, Element.product, Element.root, Element.inverse, Element.OneRoot, Element.OneInverse}
use Rattle.binary_field_theory.specs.Quadratic.{Root, EvenRoot, even_root, trace, half_trace}
use Rattle.binary_field_theory.proofs.{Products.low_lt, Products.zero_product, Frobenius.square_root, Frobenius.root_square, Frobenius.root_lt, Certificate.certified}
use Rattle.binary_field_theory.proofs.Inverses
use Rattle.binary_field_theory.proofs.Quadratic
use Rattle.binary_field_theory.proofs.TraceBits.{odd}

module _ (d : ℕ) (ok : Accepted d) where
  pub one_root : (a : ℕ) → a < 2 ^ d → OneRoot d a (root d a)
  one_root a ha =
      record {
        below = root_lt d (low_lt d ok) (certified d ok).fixed a ha;
        squares = square_root d (low_lt d ok) (certified d ok).fixed a ha;
        only = λ b hb e. sym (root_square d (low_lt d ok) (certified d ok).fixed b hb) ∙ ap (root d) e;
      }

  pub one_inverse : (a : ℕ) → a < 2 ^ d → (ne : ¬ (a ≡ 0)) → OneInverse d a (inverse d a ne)
  one_inverse = Inverses.one_inverse d (certified d ok)

  pub zero_no_inverse : (b : ℕ) → ¬ (product d 0 b ≡ 1)
  zero_no_inverse b e = let z : ◌≡◌ {A = ℕ} 0 1 = sym (zero_product d b) ∙ e in omega arith

  -- ---- y² + y = a
  pub root_iff_trace : (a : ℕ) → a < 2 ^ d → ((y : ℕ) × Root d a y) ↔ (trace d a ≡ 0)
  root_iff_trace a ha = (
    λ r. Quadratic.root_trace d (certified d ok) r.1,
    λ e. (half_trace d a, Quadratic.trace_root d (certified d ok) (odd d ok) a ha e),
  )

  pub two_roots : {a y b : ℕ} → Root d a y → Root d a b → (b ≡ y) ⊎ (b ≡ y ⊕ 1)
  two_roots = Quadratic.two_roots d (certified d ok)

  pub even_root_found : {a y : ℕ} → even_root d a ≡ some y → EvenRoot d a y
  even_root_found = Quadratic.even_root_found d (certified d ok)

  pub even_root_none : (a : ℕ) → (even_root d a ≡ none) ↔ ((y : ℕ) → Root d a y → ⊥)
  even_root_none a = (λ e y. Quadratic.none_even_root d (certified d ok) e y, λ h. Quadratic.even_root_none d (certified d ok) a h)

  pub even_root_by_trace : (a : ℕ) → a < 2 ^ d → trace d a ≡ 0 → even_root d a ≡ some (half_trace d a ⊕ half_trace d a % 2)
  even_root_by_trace a ha e =
      let p = Quadratic.evened d (certified d ok) (Quadratic.trace_root d (certified d ok) (odd d ok) a ha e) in
      Quadratic.even_root_is d (certified d ok) p.0 p.1

  pub none_by_trace : (a : ℕ) → ¬ (trace d a ≡ 0) → even_root d a ≡ none
  none_by_trace a h = Quadratic.even_root_none d (certified d ok) a (λ y r. h (Quadratic.root_trace d (certified d ok) r))
