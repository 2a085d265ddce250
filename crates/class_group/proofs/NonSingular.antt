-- Curves y² + y = f(x) have no singular point (docs/SPECIFICATION.md, 2).
-- `derivative_by_y_is_one`: the derivative of y² + y + f(x) by y is 1 at every point.
-- `non_singular`: no point over a ring of characteristic 2 with 1 ≠ 0 is singular.
use mathlib.Core.{Path.◌≡◌, Path.sym, Path.◌∙◌, List.List}
use Rattle.field_laws.specs.{Ring.Ring2, Field.Field2}
use Rattle.char2_algebra.specs.Polynomials.{Polynomials}
use Rattle.char2_algebra.proofs.Ring.{ring2}
use Rattle.class_group.specs.{Curve.Curve, Multiples.multiple}
use Rattle.class_group.specs.NonSingular.{Over, weighted, derivative, evaluate, evaluate_at, derivative_by_y, equation, equation_over, Singular}

module _ {L : Type 0} (R : Ring2 L) where
  open R use {add as ◌⊞◌, mul as ◌·◌, zero as 𝟘, one as 𝟙}

  infixl 60 ◌⊞◌
  infixl 70 ◌·◌
  once_and_twice : (x y : L) → 𝟙 ⊞ 𝟘 ⊞ x · 𝟘 ⊞ y · (𝟙 ⊞ (𝟙 ⊞ 𝟘) ⊞ x · 𝟘 ⊞ y · 𝟘) ≡ 𝟙
  once_and_twice x y = simp (ring2, R)

  pub derivative_by_y_is_one : (f : List L) (x y : L) → evaluate_at R (derivative_by_y R (equation R f)) x y ≡ 𝟙
  unfolding weighted derivative evaluate multiple evaluate_at derivative_by_y equation
  derivative_by_y_is_one f x y = once_and_twice x y

module _ {K P : Type 0} {F : Field2 K} {A : Polynomials F P} (C : Curve A) where
  -- demand 3 ('on every accepted curve'): no curve has to be refused as singular
  pub non_singular : {L : Type 0} (E : Over K L) (x y : L) → ¬ Singular C E x y
  unfolding equation_over
  non_singular E x y s = E.one≢zero (sym (derivative_by_y_is_one E.ring _ x y) ∙ s.by_y)
