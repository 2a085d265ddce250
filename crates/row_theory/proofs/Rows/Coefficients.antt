-- The polynomial of a row by its coefficients: the i-th is the element of the i-th number. Its length, from the zeros
-- at the end of the row.
use Prim.Native.Nat.{ℕ, suc, ◌≤◌}
use mathlib.Core.{Path.◌≡◌, Path.refl, Path.sym, Path.◌∙◌, Path.ap, List.List, List.map}
use native.Mathlib.Omega.{arith}
use lib.ListN.{length, get_or, get_or-map, get_or-eq_default}
use Rattle.char2_algebra.proofs.Degree.{len_bound, len_is}
use Rattle.polynomial_lists.proofs.OfList.{coeff_of}
use Rattle.row_theory.specs.{Field.F, Field.Poly, Field.𝔸, Field.el, Field.poly, Row.InRange, Row.Stands, Row.row_len}
use Rattle.row_theory.proofs.Rows.Elements.{el_zero, zero_of_zero, el_nonzero}

module _ (d : ℕ) where
  pub coeff_poly : (r : List ℕ) (i : ℕ) → (𝔸 d).coeff (poly d r) i ≡ el d (get_or r i 0)
  unfolding 𝔸 poly
  coeff_poly r i = coeff_of (F d) (map (el d) r) i ∙ ap (get_or (map (el d) r) i) (sym (el_zero d)) ∙ get_or-map (el d) r i 0

  -- a row whose numbers stand for the coefficients of a polynomial
  pub poly_is : (r : List ℕ) (p : Poly d) → ((i : ℕ) → el d (get_or r i 0) ≡ (𝔸 d).coeff p i) → poly d r ≡ p
  poly_is r p h = (𝔸 d).ext (poly d r) p (λ i. coeff_poly r i ∙ h i)

  pub stands_by : (r : List ℕ) (p : Poly d) → InRange d r → ((i : ℕ) → el d (get_or r i 0) ≡ (𝔸 d).coeff p i) → Stands d r p
  stands_by r p h k = record { in_range = h; stands = poly_is r p k }

  pub self_stands : (r : List ℕ) → InRange d r → Stands d r (poly d r)
  self_stands r h = record { in_range = h; stands = refl }

  pub stands_eq : {r : List ℕ} {p q : Poly d} → p ≡ q → Stands d r p → Stands d r q
  stands_eq e s = record { in_range = s.in_range; stands = s.stands ∙ e }

  -- the length of the polynomial
  pub stands_len : {r : List ℕ} {p : Poly d} → Stands d r p → row_len d r ≡ (𝔸 d).len p
  stands_len s = ap (𝔸 d).len s.stands

  pub row_len_le : (r : List ℕ) (n : ℕ) → ((i : ℕ) → n ≤ i → get_or r i 0 ≡ 0) → row_len d r ≤ n
  row_len_le r n h = len_bound (𝔸 d) (poly d r) n (λ i k. coeff_poly r i ∙ ap (el d) (h i k) ∙ el_zero d)

  pub row_len_is : (r : List ℕ) (n : ℕ) → InRange d r → ((i : ℕ) → suc n ≤ i → get_or r i 0 ≡ 0) → ¬ (get_or r n 0 ≡ 0) → row_len d r ≡ suc n
  row_len_is r n k h t =
      len_is (𝔸 d) (poly d r) n (row_len_le r (suc n) h) (λ e. el_nonzero d (get_or r n 0) (k n) t (sym (coeff_poly r n) ∙ e))

  pub row_len_length : (r : List ℕ) (n : ℕ) → length r ≡ n → row_len d r ≤ n
  row_len_length r n e = row_len_le r n (λ i h. get_or-eq_default r 0 (omega arith))

  -- the numbers from the length on are 0
  pub zero_past : (r : List ℕ) (i : ℕ) → InRange d r → row_len d r ≤ i → get_or r i 0 ≡ 0
  zero_past r i h k = zero_of_zero d (get_or r i 0) (h i) (sym (coeff_poly r i) ∙ (𝔸 d).len_past (poly d r) i k)

  -- the last number below the length is not 0
  pub top_nonzero : (r : List ℕ) (n : ℕ) → row_len d r ≡ suc n → ¬ (get_or r n 0 ≡ 0)
  top_nonzero r n e z = (𝔸 d).len_top (poly d r) n e (coeff_poly r n ∙ ap (el d) z ∙ el_zero d)
