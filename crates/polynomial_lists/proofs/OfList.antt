-- The polynomial with given coefficients, in terms of the record `polynomials F`; the lists need not be trimmed.
-- `coeff_of`: the coefficients of `of_list F l` are the elements of l, and zero past its end.
-- `of_nil`: the empty list is the polynomial 0.
-- `of_cons`: a before the list p is a + x p.
use Prim.Native.Nat.{ℕ}
use mathlib.Core.{Path.◌≡◌, Path.refl, List.List, List.[], List.◌∷◌}
use lib.ListN.{get_or}
use Rattle.field_laws.specs.Field.{Field2}
use Rattle.char2_algebra.specs.{Polynomial.of_list}
use Rattle.char2_algebra.proofs.PolynomialRing.{coeff_of_list}
use Rattle.char2_algebra.proofs.ListDivision
use Rattle.polynomial_lists.specs.Polynomials.{polynomials}

module _ {K : Type 0} (F : Field2 K) where
  open F use {ring as K_ring}
  open polynomials F use {ring, coeff, con, x, len}

  pub coeff_of : (l : List K) (i : ℕ) → coeff (of_list F l) i ≡ get_or l i K_ring.zero
  unfolding polynomials
  coeff_of l i = coeff_of_list F l i

  pub of_nil : of_list F [] ≡ ring.zero
  unfolding polynomials
  of_nil = refl

  pub of_cons : (a : K) (p : List K) → of_list F (a ∷ p) ≡ ring.add (con a) (ring.mul x (of_list F p))
  unfolding polynomials
  of_cons = ListDivision.of_cons F
