-- A row filled with zeros has twelve numbers, and stands for the same polynomial.
-- `leading_set`: a 1 written after the first n of three numbers.
use Prim.Native.Nat.{ℕ, zero, suc, ◌-◌, ◌≤◌}
use mathlib.Core.Path.{◌≡◌, refl, sym, ◌∙◌, ap}
use mathlib.Core.List.{List, [], ◌∷◌, ◌++◌}
use native.Mathlib.Omega.{arith}
use lib.ListN.{length, get_or, replicate, take, set, length-append, length-replicate}
use Rattle.row_theory.specs.{Field.el, Field.poly, Row.filled}
use Rattle.row_theory.proofs.Rows.Coefficients.{coeff_poly, poly_is}
use Rattle.jacobian.proofs.ByValue.Threes.{by_three}

getD_zeros : (n i : ℕ) → ◌≡◌ {A = ℕ} (get_or (replicate n 0) i 0) 0
getD_zeros zero i = refl
getD_zeros (suc n) zero = refl
getD_zeros (suc n) (suc i) = getD_zeros n i

getD_fill : (r : List ℕ) (n i : ℕ) → get_or (r ++ replicate n 0) i 0 ≡ get_or r i 0
getD_fill [] n i = getD_zeros n i
getD_fill (x ∷ r) n zero = refl
getD_fill (x ∷ r) n (suc i) = getD_fill r n i

pub filled_length : (r : List ℕ) → length r ≤ 12 → length (filled r) ≡ 12
unfolding filled
filled_length r h = simp (length-append, length-replicate) (omega arith)

pub getD_filled : (r : List ℕ) (i : ℕ) → get_or (filled r) i 0 ≡ get_or r i 0
unfolding filled
getD_filled r i = getD_fill r (12 - length r) i

pub poly_filled : (d : ℕ) (r : List ℕ) → poly d (filled r) ≡ poly d r
poly_filled d r = poly_is d (filled r) (poly d r) (λ i. ap (el d) (getD_filled r i) ∙ sym (coeff_poly d r i))

pub leading_set : (r : List ℕ) (n : ℕ) → length r ≡ 3 → n ≤ 3 → set (filled (take n r)) n 1 ≡ filled (take n r ++ 1 ∷ [])
unfolding filled
leading_set r n e h = by_three (λ r. (n : ℕ) → n ≤ 3 → set (filled (take n r)) n 1 ≡ filled (take n r ++ 1 ∷ [])) at r e n h
  where
    at : (x y z n : ℕ) → n ≤ 3 → set (filled (take n (x ∷ y ∷ z ∷ []))) n 1 ≡ filled (take n (x ∷ y ∷ z ∷ []) ++ 1 ∷ [])
    at x y z zero h = refl
    at x y z (suc zero) h = refl
    at x y z (suc (suc zero)) h = refl
    at x y z (suc (suc (suc zero))) h = refl
    at x y z (suc (suc (suc (suc n)))) h = absurd (omega arith)
