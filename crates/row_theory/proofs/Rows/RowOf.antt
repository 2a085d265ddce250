-- The row of twelve numbers of a polynomial.
-- `row_of_length`: it has twelve numbers.
-- `row_of_range`: each of them is an element.
-- `row_of_stands`: it stands for the polynomial, where that has a degree of at most 11.
-- `row_determined`: a row of twelve numbers in range is the row of the polynomial that it stands for.
use Prim.Native.Nat.{ℕ, zero, suc, ◌+◌, ◌≤◌, ◌<◌}
use mathlib.Core.{Path.◌≡◌, Path.refl, Path.sym, Path.◌∙◌, Path.ap, List.List}
use native.Mathlib.{Omega.arith, Decide.dec_le}
use lib.{ListN.length, ListN.get_or, ListN.get_or-eq_default, Seq.ext_get_or}
use Rattle.row_theory.specs.{Field.Poly, Field.K, Field.𝔸, Field.el, Row.InRange, Row.Stands, Row.numbers_from, Row.row_of}
use Rattle.row_theory.proofs.Rows.{Elements.zero_lt, Elements.el_of, Elements.el_zero, Elements.el_number, Coefficients.coeff_poly, Coefficients.stands_by}

module _ (d : ℕ) (p : Poly d) where
  numbers_length : (i n : ℕ) → length (numbers_from d p i n) ≡ n
  unfolding numbers_from
  numbers_length i zero = refl
  numbers_length i (suc n) = ap suc (numbers_length (suc i) n)

  numbers_at : (i n j : ℕ) → j < n → get_or (numbers_from d p i n) j 0 ≡ ((𝔸 d).coeff p (i + j)).0
  unfolding numbers_from
  numbers_at i zero j h = absurd (omega arith)
  numbers_at i (suc n) zero h = ap (λ k. ((𝔸 d).coeff p k).0) (let e : i ≡ i + 0 = omega arith in e)
  numbers_at i (suc n) (suc j) h = numbers_at (suc i) n j (omega arith) ∙ ap (λ k. ((𝔸 d).coeff p k).0) (let e : suc i + j ≡ i + suc j = omega arith in e)

  pub row_of_length : length (row_of d p) ≡ 12
  unfolding row_of
  row_of_length = numbers_length 0 12

  row_of_at : (i : ℕ) → i < 12 → get_or (row_of d p) i 0 ≡ ((𝔸 d).coeff p i).0
  unfolding row_of
  row_of_at i h = numbers_at 0 12 i h ∙ ap (λ k. ((𝔸 d).coeff p k).0) (let e : 0 + i ≡ i = omega arith in e)

  row_of_past : (i : ℕ) → 12 ≤ i → get_or (row_of d p) i 0 ≡ 0
  row_of_past i h = get_or-eq_default (row_of d p) 0 (let e = row_of_length in omega arith)

  pub row_of_range : InRange d (row_of d p)
  row_of_range i = elim (dec_le 12 i) [ yes h ↦ rw (row_of_past i h) (zero_lt d) | no h ↦ rw (row_of_at i (omega arith)) ((𝔸 d).coeff p i).1 ]

  pub row_of_stands : (𝔸 d).len p ≤ 12 → Stands d (row_of d p) p
  row_of_stands k = stands_by d (row_of d p) p row_of_range (λ i. at i (dec_le 12 i))
    where
      at : (i : ℕ) → Dec (12 ≤ i) → el d (get_or (row_of d p) i 0) ≡ (𝔸 d).coeff p i
      at i (yes h) = ap (el d) (row_of_past i h) ∙ el_zero d ∙ sym ((𝔸 d).len_past p i (omega arith))
      at i (no h) = ap (el d) (row_of_at i (omega arith)) ∙ el_of d ((𝔸 d).coeff p i)

  pub row_determined : {r : List ℕ} → length r ≡ 12 → Stands d r p → r ≡ row_of d p
  row_determined {r} e s = ext_get_or 0 r (row_of d p) (e ∙ sym row_of_length) (λ i h. at i (omega arith))
    where
      at : (i : ℕ) → i < 12 → get_or r i 0 ≡ get_or (row_of d p) i 0
      at i h =
          sym (el_number d (get_or r i 0) (s.in_range i))
          ∙ ap (λ (a : K d). a.0) (sym (coeff_poly d r i) ∙ ap (λ q. (𝔸 d).coeff q i) s.stands)
          ∙ sym (row_of_at i h)
