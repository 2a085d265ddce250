-- The curve y² + y = f(x) whose f has the given coefficients below x^7.
use Rattle.std.specs.Prelude.{ℕ, ◌<◌, ◌≡◌, [], ◌∷◌}
use Rattle.std.proofs.Common.{◌∙◌}
use Rattle.std.proofs.Math.ListN.{get_or-eq_default}
use Rattle.field_laws.specs.Field.{Field2}
use Rattle.char2_algebra.specs.Polynomial.{Polynomial, of_list}
use Rattle.polynomial_lists.specs.Polynomials.{polynomials}
use Rattle.polynomial_lists.proofs.OfList.{coeff_of}
use Rattle.char2_algebra.proofs.Lead.{len_by_top, monic_by_top}
use Rattle.class_group.specs.Curve.{Curve}

module _ {K : Type 0} (F : Field2 K) (c : ℕ → K) where
  -- the polynomial with the coefficients c 0, .., c 6, and 1 at x^7
  unfoldable pub monic_7 : Polynomial F
  monic_7 = of_list F (c 0 ∷ c 1 ∷ c 2 ∷ c 3 ∷ c 4 ∷ c 5 ∷ c 6 ∷ F.ring.one ∷ [])

  -- its coefficient at x^7 is 1
  pub top : (polynomials F).coeff monic_7 7 ≡ F.ring.one
  unfolding monic_7
  top = coeff_of F _ 7

  -- its coefficients above x^7 are zero
  pub past : (i : ℕ) → 7 < i → (polynomials F).coeff monic_7 i ≡ F.ring.zero
  unfolding monic_7
  past i h = coeff_of F _ i ∙ get_or-eq_default (c 0 ∷ c 1 ∷ c 2 ∷ c 3 ∷ c 4 ∷ c 5 ∷ c 6 ∷ F.ring.one ∷ []) F.ring.zero h

  -- the curve with this polynomial as f
  unfoldable pub curve_of : Curve (polynomials F)
  curve_of =
      record {
        f = monic_7;
        f_len = len_by_top (polynomials F) monic_7 7 top past;
        f_monic = monic_by_top (polynomials F) monic_7 7 top past;
      }
