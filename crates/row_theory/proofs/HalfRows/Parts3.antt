-- The promises of the functions of the half of degree 3.
-- `first_lift_stands`: the row of the first lift.
-- `second_square_stands`: the row of the square after the second lift.
-- `second_remainder_stands`: the row of the second polynomial of the half.
use Prim.Native.Nat.{ℕ, ◌≤◌, ◌<◌}
use mathlib.Core.{Path.◌≡◌, Path.sym, Path.◌∙◌, Path.ap, Path.ap₂, Path.subst, List.List}
use native.Mathlib.Omega.{arith}
use lib.ListN.{get_or}
use Rattle.char2_algebra.proofs.{Ring.𝟙_·, Degree.len_add, Degree.nonzero_of_len}
use Rattle.class_group.specs.Half.{quadratic, first_lift}
use Rattle.row_theory.specs.{Field.K, Field.F, Field.Poly, Field.𝔸, Field.el, Field.poly, internal.Elements.Is, Row.Stands, Row.row_len, internal.Elements.x_power}
use Rattle.row_theory.specs.internal.Halving.{even_quartic, second_square, second_remainder}
use Rattle.row_theory.proofs.{Rows.Elements.el_zero, Rows.Elements.el_one, Rows.Coefficients.coeff_poly, Rows.Coefficients.stands_eq}
use Rattle.row_theory.proofs.HalfRows.Degree3.{first_lift_is}

module _ (d : ℕ) where
  open (𝔸 d).ring use {add as ◌⊞◌, mul as ◌·◌, zero as 𝟘, one as 𝟙}

  infixl 60 ◌⊞◌
  infixl 70 ◌·◌
  pub first_lift_stands :
      (u w : List ℕ) {r : ℕ} {k m s : List ℕ}
      → Is d r ((F d).root (el d (get_or w 3 0)))
      → Stands d k (quadratic (𝔸 d) (el d 0) (el d 0) (el d r))
      → Stands d m (even_quartic (𝔸 d) (el d 0) (el d 0) (el d (get_or w 3 0)))
      → Stands d s (poly d w ⊞ poly d k ⊞ poly d m · poly d u)
      → Stands d s (first_lift (𝔸 d) (poly d u) (poly d w))
  first_lift_stands u w {r} hr hk hm =
      stands_eq d
      ((λ j.
      poly d w
      ⊞ (hk.stands ∙ λ i. quadratic (𝔸 d) (el_zero d i) (el_zero d i) ((hr.stands ∙ ap (F d).root w3) i)) j
      ⊞ (hm.stands ∙ λ i. even_quartic (𝔸 d) (el_zero d i) (el_zero d i) (w3 i)) j · poly d u)
      ∙ sym (first_lift_is (𝔸 d) (poly d u) (poly d w)))
    where
      w3 : el d (get_or w 3 0) ≡ (𝔸 d).coeff (poly d w) 3
      w3 = sym (coeff_poly d w 3)

  pub second_square_stands :
      (u s : List ℕ) (t q g : ℕ) {tq : ℕ} {k m eu p : List ℕ}
      → Is d tq ((F d).ring.mul (el d t) (el d q))
      → Stands d k (quadratic (𝔸 d) (el d 0) (el d t) (el d tq))
      → Stands d m (even_quartic (𝔸 d) (el d 0) (el d 1) (el d g))
      → Stands d eu ((𝔸 d).con (el d (get_or s 1 0)) · poly d u)
      → Stands d p (poly d eu ⊞ poly d k ⊞ poly d m · poly d s)
      → Stands d p (second_square (𝔸 d) (poly d u) (poly d s) (el d t) (el d q) (el d g))
  unfolding second_square
  second_square_stands u s t q g h hk hm he =
      stands_eq d
      (λ j.
      (he.stands ∙ ap (λ a. (𝔸 d).con a · poly d u) (sym (coeff_poly d s 1))) j
      ⊞ (hk.stands ∙ ap₂ (λ a b. quadratic (𝔸 d) a (el d t) b) (el_zero d) h.stands) j
      ⊞ (hm.stands ∙ ap₂ (λ a b. even_quartic (𝔸 d) a b (el d g)) (el_zero d) (el_one d)) j · poly d s)

  -- a divisor of length 4
  module _ (a : List ℕ) (l : row_len d a ≡ 4) where
    pub divisor_nonzero : ¬ (poly d a ≡ 𝟘)
    divisor_nonzero = nonzero_of_len (𝔸 d) (poly d a) (omega arith)

    pub remainder_len : {b : List ℕ} (p : Poly d) → Stands d b ((𝔸 d).rem p (poly d a)) → row_len d b ≤ 3
    remainder_len p s =
        subst (λ z. (𝔸 d).len z ≤ 3) (sym s.stands) (let h : (𝔸 d).len ((𝔸 d).rem p (poly d a)) < row_len d a = (𝔸 d).rem_len p (poly d a) divisor_nonzero in omega arith)

    pub sum_len : {h : List ℕ} (u : List ℕ) → Stands d h (poly d u ⊞ poly d a) → row_len d u ≤ 4 → row_len d h ≤ 4
    sum_len u s e = subst (λ z. (𝔸 d).len z ≤ 4) (sym s.stands) (len_add (𝔸 d) (poly d u) (poly d a) 4 e (omega arith))

  -- a + c x⁰ b
  scaled : (c : K d) (p : Poly d) → (𝔸 d).con c · (x_power d 0 · p) ≡ (𝔸 d).con c · p
  unfolding x_power
  scaled c p = ap (λ z. (𝔸 d).con c · z) (𝟙_· (𝔸 d).ring p)

  pub second_remainder_stands :
      (u v s a : List ℕ) (r i q : ℕ) {b y p z h l o : List ℕ}
      → Stands d b ((𝔸 d).rem (poly d s) (poly d a))
      → Stands d y (quadratic (𝔸 d) (el d 0) (el d 1) (el d q))
      → Stands d p (poly d y · poly d b)
      → Stands d z ((𝔸 d).rem (poly d p) (poly d a))
      → Stands d h (poly d u ⊞ poly d a)
      → Stands d l (poly d v ⊞ (𝔸 d).con (el d r) · (x_power d 0 · poly d h))
      → Stands d o (poly d l ⊞ (𝔸 d).con (el d i) · (x_power d 0 · poly d z))
      → Stands d o (second_remainder (𝔸 d) (poly d u) (poly d v) (poly d s) (poly d a) (el d r) (el d i) (el d q))
  unfolding second_remainder
  second_remainder_stands u v s a r i q {b} {y} {p} {z} {h} hb hy hp hz hh hl =
      stands_eq d
      (ap₂ ◌⊞◌
      (hl.stands ∙ ap (λ t. poly d v ⊞ t) (scaled (el d r) (poly d h) ∙ ap (λ t. (𝔸 d).con (el d r) · t) hh.stands))
      (scaled (el d i) (poly d z) ∙ ap (λ t. (𝔸 d).con (el d i) · t) (hz.stands ∙ ap (λ t. (𝔸 d).rem t (poly d a)) (hp.stands ∙ ap₂ ◌·◌ (hy.stands ∙ ap₂ (λ e f. quadratic (𝔸 d) e f (el d q)) (el_zero d) (el_one d)) hb.stands))))
