-- The half of degree 3, from the promises of the calls up to the first lift (`Computed3`).
-- `root_nonzero_3_square`: where t is 0, the root that v is divided by is not 0.
-- `result_3_square`: where t is 0, the pair is the half of the rule.
use Prim.Native.Nat.{ℕ, ◌≤◌}
use mathlib.Core.{Path.◌≡◌, Path.sym, Path.◌∙◌, Path.ap, Path.ap₂, Path.subst, List.List}
use native.Mathlib.Omega.{arith}
use lib.ListN.{get_or}
use Rattle.char2_algebra.specs.Square.{sqrt}
use Rattle.class_group.specs.Half.{Triple, quadratic, half_of_degree_3, first_lift}
use Rattle.row_theory.specs.{Field.F, Field.Poly, Field.𝔸, Field.el, Field.poly, internal.Elements.Is, Row.Stands, Row.row_len, internal.Halving.HalvingRows}
use Rattle.row_theory.specs.internal.Halving.{root_pair, rows_triple}
use Rattle.row_theory.proofs.{Rows.Elements.el_zero, Rows.Coefficients.coeff_poly, HalfRows.Degree3.first_lift_len, HalfRows.Degree3.pair_3_square}
use Rattle.row_theory.proofs.HalfRows.Degree3.{nonzero_3_square}

module _ (d : ℕ) (u v w : List ℕ) where
  open (𝔸 d).ring use {add as ◌⊞◌, mul as ◌·◌, zero as 𝟘, one as 𝟙}

  infixl 60 ◌⊞◌
  infixl 70 ◌·◌
  abbrev T : Triple (Poly d)
  T = record { u = poly d u; v = poly d v; w = poly d w }

  abbrev L : Poly d
  L = first_lift (𝔸 d) (poly d u) (poly d w)

  -- the first lift
  pub record Computed3 (r : ℕ) (s : List ℕ) (t : ℕ) : Type 0 where
    pub rows : HalvingRows d 4 u v w
    pub r_is : Is d r ((F d).root (el d (get_or w 3 0)))
    pub s_is : Stands d s L
    pub t_is : Is d t ((F d).root (el d (get_or s 1 0)))

  module _ {r t : ℕ} {s : List ℕ} (c : Computed3 r s t) where
    pub w_five : row_len d w ≡ 5
    w_five = omega (arith, c.rows.w_len)

    pub first_lift_short : row_len d s ≤ 5
    first_lift_short =
        subst (λ z. (𝔸 d).len z ≤ 5) (sym c.s_is.stands) (first_lift_len (𝔸 d) (poly d u) (poly d w) (omega (arith, c.rows.u_len)) (omega (arith, w_five)))

    pub r_path : el d r ≡ (F d).root ((𝔸 d).coeff (poly d w) 3)
    r_path = c.r_is.stands ∙ ap (F d).root (sym (coeff_poly d w 3))

    pub t_path : el d t ≡ (F d).root ((𝔸 d).coeff L 1)
    t_path = c.t_is.stands ∙ ap (F d).root (sym (coeff_poly d s 1) ∙ ap (λ p. (𝔸 d).coeff p 1) c.s_is.stands)

    -- the case t = 0, in which the first lift is a square
    module _ (z : t ≡ 0) where
      t_zero : (F d).root ((𝔸 d).coeff L 1) ≡ (F d).ring.zero
      t_zero = sym t_path ∙ ap (el d) z ∙ el_zero d

      pub root_nonzero_3_square : ¬ (sqrt (𝔸 d) (poly d s) ≡ 𝟘)
      root_nonzero_3_square e =
          nonzero_3_square (𝔸 d) T c.rows.u_len c.rows.u_monic w_five c.rows.w_monic t_zero (ap (sqrt (𝔸 d)) (sym c.s_is.stands) ∙ e)

      pub result_3_square :
          {k o : List ℕ}
          → Stands d k (quadratic (𝔸 d) (el d 0) (el d 0) (el d r))
          → Stands d o (poly d v ⊞ poly d k · poly d u ⊞ 𝟙)
          → root_pair (𝔸 d) (poly d s) (poly d o) ≡ half_of_degree_3 (𝔸 d) (rows_triple d u v w)
      unfolding rows_triple
      result_3_square hk ho =
          ap₂ (root_pair (𝔸 d)) c.s_is.stands (ho.stands ∙ ap (λ k. poly d v ⊞ k · poly d u ⊞ 𝟙) (hk.stands ∙ λ j. quadratic (𝔸 d) (el_zero d j) (el_zero d j) (r_path j)))
          ∙ sym (pair_3_square (𝔸 d) T t_zero)
