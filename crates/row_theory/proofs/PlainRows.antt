-- The rows on the way to the plain curve.
-- `cleared_stands`: a row without its number at x²ⁿ, whose root is added at xⁿ.
-- `plain_c`, `plain_g`, `plain_stands`: c and g of the change that leads to the plain curve, and the row of that curve,
-- from a shift and three such rows.
use Prim.Native.Nat.{ℕ, zero, suc, ◌+◌, ◌≤◌}
use mathlib.Core.{Path.◌≡◌, Path.sym, Path.◌∙◌, Path.ap, Path.ap₂, List.List, List.[], List.◌∷◌}
use native.Mathlib.Omega.{arith}
use lib.ListN.{length, get_or, set, length-set}
use lib.Seq.{get_or-set_other}
use Rattle.field_laws.specs.Ring.{Ring2}
use Rattle.char2_algebra.specs.Shift.{shift}
use Rattle.char2_algebra.proofs.Ring.{ring2, ·_𝟙, ·_left_comm}
use Rattle.class_group.specs.Carrying.{monomial, clearing, cleared, plain_change, plain_f}
use Rattle.class_group.proofs.PlainCurve.{monomial_square, plain_f_cleared}
use Rattle.row_theory.specs.{Field.K, Field.F, Field.𝔸, Field.el, Field.poly, internal.Elements.Is, Row.InRange, Row.Stands, internal.Elements.x_power}
use Rattle.row_theory.proofs.{Rows.Elements.zero_lt, Rows.Elements.is_eq, Rows.Coefficients.coeff_poly, Rows.Coefficients.stands_eq, Rows.Fill.range_set, Rows.Shift.poly_set, Rows.Shift.poly_strike}
use Rattle.row_theory.proofs.HalfRows.Rows.{cons_stands, zero_stands, blank_stands, last_stands, seven_zeros}

three_monomials : {A : Type 0} (R : Ring2 A) (x a b e : A)
    → R.mul x (R.add e (R.mul x (R.add b (R.mul x a)))) ≡ R.add (R.add (R.mul x (R.mul x (R.mul x a))) (R.mul x (R.mul x b))) (R.mul x e)
three_monomials R x a b e = simp (ring2, R)

module _ (d : ℕ) where
  open (𝔸 d).ring use {add as ◌⊞◌, mul as ◌·◌}

  infixl 60 ◌⊞◌
  infixl 70 ◌·◌
  -- a xⁿ
  monomial_is : (n : ℕ) (a : K d) → monomial (𝔸 d) n a ≡ (𝔸 d).con a · x_power d n
  unfolding monomial x_power
  monomial_is zero a = sym (·_𝟙 (𝔸 d).ring ((𝔸 d).con a))
  monomial_is (suc n) a = ap (λ z. (𝔸 d).x · z) (monomial_is n a) ∙ ·_left_comm (𝔸 d).ring _ _ _

  pub root_of_coefficient : (f : List ℕ) (n : ℕ) {r : ℕ} → Is d r ((F d).root (el d (get_or f n 0))) → Is d r ((F d).root ((𝔸 d).coeff (poly d f) n))
  root_of_coefficient f n = is_eq d (ap (F d).root (sym (coeff_poly d f n)))

  pub cleared_stands :
      (n : ℕ) (f : List ℕ) {root s : ℕ}
      → 1 ≤ n
      → n ≤ 3
      → length f ≡ 12
      → InRange d f
      → Is d root ((F d).root (el d (get_or f (n + n) 0)))
      → Is d s ((F d).ring.add (el d (get_or f n 0)) (el d root))
      → Stands d (set (set f (n + n) 0) n s) (cleared (𝔸 d) n (poly d f))
  unfolding cleared clearing
  cleared_stands n f {root} {s} h k size range root_is s_is =
      let low = set f (n + n) 0 in
      let low_size : length low ≡ 12 = length-set f (n + n) 0 ∙ size in
      let a = el d root in
      let square : (F d).ring.mul a a ≡ el d (get_or f (n + n) 0) = ap (λ z. (F d).ring.mul z z) root_is.stands ∙ (F d).root_square _ in
      record {
        in_range = range_set d low n s (omega arith) (range_set d f (n + n) 0 (omega arith) range (zero_lt d)) s_is.in_range;
        stands =
            poly_set d low n s a (omega arith) (s_is.stands ∙ ap (λ z. (F d).ring.add (el d z) a) (sym (get_or-set_other f (n + n) n 0 0 (λ e. absurd (omega arith)))))
            ∙ ap₂ ◌⊞◌
            (poly_strike d f (n + n) (omega arith) ∙ ap (λ z. poly d f ⊞ z) (sym (monomial_square (𝔸 d) n a ∙ ap (monomial (𝔸 d) (n + n)) square ∙ monomial_is (n + n) _)))
            (sym (monomial_is n a))
            ∙ ap (λ z. poly d f ⊞ monomial (𝔸 d) n z · monomial (𝔸 d) n z ⊞ monomial (𝔸 d) n z) (root_of_coefficient f (n + n) root_is).stands;
      }

  -- g = a x³ + b x² + e x
  monomials_stand :
      {a b e : ℕ} {p q r : K d} → Is d a p → Is d b q → Is d e r
      → Stands d (0 ∷ e ∷ b ∷ a ∷ 0 ∷ 0 ∷ 0 ∷ 0 ∷ 0 ∷ 0 ∷ 0 ∷ 0 ∷ []) (monomial (𝔸 d) 3 p ⊞ monomial (𝔸 d) 2 q ⊞ monomial (𝔸 d) 1 r)
  unfolding monomial
  monomials_stand {a} {b} {e} a_is b_is e_is =
      stands_eq d
      (three_monomials (𝔸 d).ring (𝔸 d).x ((𝔸 d).con (el d a)) ((𝔸 d).con (el d b)) ((𝔸 d).con (el d e))
      ∙ ap₂ ◌⊞◌ (ap₂ (λ y z. monomial (𝔸 d) 3 y ⊞ monomial (𝔸 d) 2 z) a_is.stands b_is.stands) (ap (monomial (𝔸 d) 1) e_is.stands))
      (zero_stands d (cons_stands d e_is.in_range (cons_stands d b_is.in_range (last_stands d a_is.in_range (blank_stands d (seven_zeros d))))))

  module _ (f : List ℕ) {c : ℕ} (c_is : Is d c ((F d).root (el d (get_or f 5 0)))) where
    pub plain_c : Is d c (plain_change (𝔸 d) (poly d f)).c
    unfolding plain_change
    plain_c = root_of_coefficient f 5 c_is

    module _ {f₀ f₁ f₂ f₃ : List ℕ} {a b e : ℕ}
        (f₀_is : Stands d f₀ (shift (𝔸 d) (el d c) (poly d f)))
        (f₁_is : Stands d f₁ (cleared (𝔸 d) 3 (poly d f₀))) (a_is : Is d a ((F d).root ((𝔸 d).coeff (poly d f₀) 6)))
        (f₂_is : Stands d f₂ (cleared (𝔸 d) 2 (poly d f₁))) (b_is : Is d b ((F d).root ((𝔸 d).coeff (poly d f₁) 4)))
        (f₃_is : Stands d f₃ (cleared (𝔸 d) 1 (poly d f₂))) (e_is : Is d e ((F d).root ((𝔸 d).coeff (poly d f₂) 2))) where
      shifted : poly d f₀ ≡ shift (𝔸 d) ((F d).root ((𝔸 d).coeff (poly d f) 5)) (poly d f)
      shifted = f₀_is.stands ∙ ap (λ z. shift (𝔸 d) z (poly d f)) (root_of_coefficient f 5 c_is).stands

      once : poly d f₁ ≡ cleared (𝔸 d) 3 (shift (𝔸 d) ((F d).root ((𝔸 d).coeff (poly d f) 5)) (poly d f))
      once = f₁_is.stands ∙ ap (cleared (𝔸 d) 3) shifted

      twice : poly d f₂ ≡ cleared (𝔸 d) 2 (cleared (𝔸 d) 3 (shift (𝔸 d) ((F d).root ((𝔸 d).coeff (poly d f) 5)) (poly d f)))
      twice = f₂_is.stands ∙ ap (cleared (𝔸 d) 2) once

      pub plain_g : Stands d (0 ∷ e ∷ b ∷ a ∷ 0 ∷ 0 ∷ 0 ∷ 0 ∷ 0 ∷ 0 ∷ 0 ∷ 0 ∷ []) (plain_change (𝔸 d) (poly d f)).g
      unfolding plain_change clearing
      plain_g =
          stands_eq d
          (ap₂ ◌⊞◌ (ap₂ (λ y z. clearing (𝔸 d) 3 y ⊞ clearing (𝔸 d) 2 z) shifted once) (ap (clearing (𝔸 d) 1) twice))
          (monomials_stand a_is b_is e_is)

      pub plain_stands : Stands d f₃ (plain_f (𝔸 d) (poly d f))
      plain_stands = stands_eq d (ap (cleared (𝔸 d) 1) twice ∙ sym (plain_f_cleared (𝔸 d) (poly d f))) f₃_is
