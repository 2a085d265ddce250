-- Rows of constants: a number and zeros. The polynomials 0 and 1 among them.
use Prim.Native.Nat.{ℕ, zero, suc, ◌<◌, ◌^◌}
use mathlib.Core.{Path.◌≡◌, Path.sym, Path.◌∙◌, Path.ap, List.List, List.◌∷◌}
use lib.ListN.{get_or, replicate}
use Rattle.char2_algebra.proofs.Degree.{con_of_zero, con_one}
use Rattle.row_theory.specs.{Field.degree_of, Field.𝔸, Field.el, Row.Stands}
use Rattle.row_theory.proofs.Rows.{Elements.el_zero, Elements.el_one, Elements.one_lt, Coefficients.stands_by, Coefficients.stands_eq, Fill.zeros_at, Fill.zeros_range}

module _ (d : ℕ) where
  -- a constant is the row of it and zeros
  pub constant_stands : (c : ℕ) → c < 2 ^ degree_of d → Stands d (c ∷ replicate 11 0) ((𝔸 d).con (el d c))
  constant_stands c h = stands_by d (c ∷ replicate 11 0) ((𝔸 d).con (el d c)) range coefficient
    where
      range : (i : ℕ) → get_or (c ∷ replicate 11 0) i 0 < 2 ^ degree_of d
      range zero = h
      range (suc i) = zeros_range d 11 i

      coefficient : (i : ℕ) → el d (get_or (c ∷ replicate 11 0) i 0) ≡ (𝔸 d).coeff ((𝔸 d).con (el d c)) i
      coefficient zero = sym ((𝔸 d).coeff_con (el d c))
      coefficient (suc i) = ap (el d) (zeros_at 11 i) ∙ el_zero d ∙ sym ((𝔸 d).coeff_con_suc (el d c) i)

  pub zero_stands : {r : List ℕ} → Stands d r ((𝔸 d).con (el d 0)) → Stands d r (𝔸 d).ring.zero
  zero_stands s = stands_eq d (ap (𝔸 d).con (el_zero d) ∙ con_of_zero (𝔸 d)) s

-- the row of the polynomial 1
abbrev pub one_row : List ℕ
one_row = 1 ∷ replicate 11 0

pub one_stands : (d : ℕ) → Stands d one_row (𝔸 d).ring.one
one_stands d = stands_eq d (ap (𝔸 d).con (el_one d) ∙ con_one (𝔸 d)) (constant_stands d 1 (one_lt d))
