-- The half of degree 2, from the promises of its calls (`Computed2`).
-- `root_nonzero_2_square`, `root_nonzero_2`: the root that v is divided by is not 0, where u1 is 0 and where it is not.
-- `result_2_square`, `result_2`: the pair is the half of the rule, in these two cases.
use Prim.Native.Nat.{ℕ}
use mathlib.Core.{Path.◌≡◌, Path.sym, Path.◌∙◌, Path.ap, Path.ap₂, List.List}
use native.Mathlib.Omega.{arith}
use lib.ListN.{get_or}
use Rattle.field_laws.specs.{Division.inverse_of}
use Rattle.char2_algebra.specs.Square.{sqrt}
use Rattle.class_group.specs.Half.{Triple, quadratic, half_of_degree_2}
use Rattle.row_theory.specs.{Field.K, Field.F, Field.Poly, Field.𝔸, Field.el, Field.poly, internal.Elements.Is, internal.Elements.Inverts, Row.Stands, internal.Halving.HalvingRows}
use Rattle.row_theory.specs.internal.Halving.{even_quartic, root_pair, rows_triple}
use Rattle.row_theory.proofs.{Rows.Elements.el_zero, Rows.Elements.el_one, Rows.Elements.el_nonzero, Rows.Answers.inverts_is, Rows.Answers.inverts_eq, Rows.Coefficients.coeff_poly}
use Rattle.row_theory.proofs.HalfRows.Degrees12.{pair_2_square, nonzero_2_square, pair_2, nonzero_2, k_2, m_2}

module _ (d : ℕ) (u v w : List ℕ) where
  open (𝔸 d).ring use {add as ◌⊞◌, mul as ◌·◌, zero as 𝟘, one as 𝟙}

  infixl 60 ◌⊞◌
  infixl 70 ◌·◌
  pub record Computed2 (i k2 y k1 s z k0 : ℕ) (k m cw ck p q : List ℕ) : Type 0 where
    pub i_is : Inverts d i (el d (get_or u 1 0))
    pub k2_is : Is d k2 ((F d).root (el d i))
    pub y_is : Is d y ((F d).ring.mul (el d (get_or w 3 0)) (el d i))
    pub k1_is : Is d k1 ((F d).root (el d y))
    pub s_is : Is d s ((F d).ring.add (el d (get_or w 1 0)) (el d k1))
    pub z_is : Is d z ((F d).ring.mul (el d s) (el d i))
    pub k0_is : Is d k0 ((F d).root (el d z))
    pub k_is : Stands d k (quadratic (𝔸 d) (el d k2) (el d k1) (el d k0))
    pub m_is : Stands d m (even_quartic (𝔸 d) (el d 1) (el d (get_or w 3 0)) (el d s))
    pub cw_is : Stands d cw ((𝔸 d).con (el d (get_or u 1 0)) · poly d w)
    pub ck_is : Stands d ck ((𝔸 d).con (el d (get_or u 1 0)) · poly d k)
    pub p_is : Stands d p (poly d cw ⊞ poly d ck ⊞ poly d m · poly d u)
    pub q_is : Stands d q (poly d v ⊞ poly d k · poly d u ⊞ 𝟙)

  abbrev T : Triple (Poly d)
  T = record { u = poly d u; v = poly d v; w = poly d w }

  u_at : (i : ℕ) → el d (get_or u i 0) ≡ (𝔸 d).coeff (poly d u) i
  u_at i = sym (coeff_poly d u i)

  w_at : (i : ℕ) → el d (get_or w i 0) ≡ (𝔸 d).coeff (poly d w) i
  w_at i = sym (coeff_poly d w i)

  -- the case u1 = 0
  module _ (z : get_or u 1 0 ≡ 0) where
    u1_zero : (𝔸 d).coeff (poly d u) 1 ≡ (F d).ring.zero
    u1_zero = coeff_poly d u 1 ∙ ap (el d) z ∙ el_zero d

    pub root_nonzero_2_square : HalvingRows d 3 u v w → ¬ (sqrt (𝔸 d) (poly d u) ≡ 𝟘)
    root_nonzero_2_square h = nonzero_2_square (𝔸 d) T h.u_len h.u_monic u1_zero

    pub result_2_square : root_pair (𝔸 d) (poly d u) (poly d v) ≡ half_of_degree_2 (𝔸 d) (rows_triple d u v w)
    unfolding rows_triple
    result_2_square = sym (pair_2_square (𝔸 d) T u1_zero)

  -- the case u1 ≠ 0
  module _ {i k2 y k1 s z k0 : ℕ} {k m cw ck p q : List ℕ} (c : Computed2 i k2 y k1 s z k0 k m cw ck p q) (h : HalvingRows d 3 u v w) (n : ¬ (get_or u 1 0 ≡ 0)) where
    u1≢ : ¬ ((𝔸 d).coeff (poly d u) 1 ≡ (F d).ring.zero)
    u1≢ e = el_nonzero d (get_or u 1 0) (h.u_range 1) n (u_at 1 ∙ e)

    abbrev I : K d
    I = inverse_of (F d) ((𝔸 d).coeff (poly d u) 1) u1≢

    i_path : el d i ≡ I
    i_path = inverts_is d u1≢ (inverts_eq d (u_at 1) c.i_is)

    k1_path : el d k1 ≡ (F d).root ((F d).ring.mul ((𝔸 d).coeff (poly d w) 3) I)
    k1_path = c.k1_is.stands ∙ ap (F d).root (c.y_is.stands ∙ ap₂ (F d).ring.mul (w_at 3) i_path)

    s_path : el d s ≡ (F d).ring.add ((𝔸 d).coeff (poly d w) 1) ((F d).root ((F d).ring.mul ((𝔸 d).coeff (poly d w) 3) I))
    s_path = c.s_is.stands ∙ ap₂ (F d).ring.add (w_at 1) k1_path

    k0_path : el d k0 ≡ (F d).root ((F d).ring.mul ((F d).ring.add ((𝔸 d).coeff (poly d w) 1) ((F d).root ((F d).ring.mul ((𝔸 d).coeff (poly d w) 3) I))) I)
    k0_path = c.k0_is.stands ∙ ap (F d).root (c.z_is.stands ∙ ap₂ (F d).ring.mul s_path i_path)

    k_path : poly d k ≡ k_2 (𝔸 d) T u1≢
    k_path = c.k_is.stands ∙ λ j. quadratic (𝔸 d) ((c.k2_is.stands ∙ ap (F d).root i_path) j) (k1_path j) (k0_path j)

    m_path : poly d m ≡ m_2 (𝔸 d) T u1≢
    m_path = c.m_is.stands ∙ λ j. even_quartic (𝔸 d) (el_one d j) (w_at 3 j) (s_path j)

    p_path : poly d p ≡ (𝔸 d).con ((𝔸 d).coeff (poly d u) 1) · poly d w ⊞ (𝔸 d).con ((𝔸 d).coeff (poly d u) 1) · k_2 (𝔸 d) T u1≢ ⊞ m_2 (𝔸 d) T u1≢ · poly d u
    p_path =
        c.p_is.stands
        ∙ λ j. (c.cw_is.stands ∙ ap (λ a. (𝔸 d).con a · poly d w) (u_at 1)) j ⊞ (c.ck_is.stands ∙ ap₂ (λ a b. (𝔸 d).con a · b) (u_at 1) k_path) j ⊞ m_path j · poly d u

    q_path : poly d q ≡ poly d v ⊞ k_2 (𝔸 d) T u1≢ · poly d u ⊞ 𝟙
    q_path = c.q_is.stands ∙ ap (λ a. poly d v ⊞ a · poly d u ⊞ 𝟙) k_path

    pub root_nonzero_2 : ¬ (sqrt (𝔸 d) (poly d p) ≡ 𝟘)
    root_nonzero_2 e =
        nonzero_2 (𝔸 d) T u1≢ h.u_len h.u_monic (omega (arith, h.w_len)) h.w_monic (ap (sqrt (𝔸 d)) (sym p_path) ∙ e)

    pub result_2 : root_pair (𝔸 d) (poly d p) (poly d q) ≡ half_of_degree_2 (𝔸 d) (rows_triple d u v w)
    unfolding rows_triple
    result_2 = ap₂ (root_pair (𝔸 d)) p_path q_path ∙ sym (pair_2 (𝔸 d) T u1≢)
