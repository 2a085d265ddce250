-- The half of degree 1, from the promises of its calls (`Computed1`).
-- `root_nonzero_1`: the root that v is divided by is not 0.
-- `result_1`: the pair is the half of the rule.
use Prim.Native.Nat.{ℕ}
use mathlib.Core.{Path.◌≡◌, Path.sym, Path.◌∙◌, Path.ap, Path.ap₂, List.List}
use native.Mathlib.Omega.{arith}
use lib.ListN.{get_or}
use Rattle.char2_algebra.specs.Square.{sqrt}
use Rattle.class_group.specs.Half.{Triple, quadratic, half_of_degree_1}
use Rattle.row_theory.specs.{Field.F, Field.Poly, Field.𝔸, Field.el, Field.poly, internal.Elements.Is, Row.Stands, internal.Halving.HalvingRows}
use Rattle.row_theory.specs.internal.Halving.{even_quartic, root_pair, rows_triple}
use Rattle.row_theory.proofs.{Rows.Coefficients.coeff_poly, HalfRows.Degrees12.pair_1, HalfRows.Degrees12.nonzero_1, HalfRows.Degrees12.k_1}
use Rattle.row_theory.proofs.HalfRows.Degrees12.{m_1}

module _ (d : ℕ) (u v w : List ℕ) where
  open (𝔸 d).ring use {add as ◌⊞◌, mul as ◌·◌, zero as 𝟘, one as 𝟙}

  infixl 60 ◌⊞◌
  infixl 70 ◌·◌
  pub record Computed1 (k2 k1 s k0 : ℕ) (k m p q : List ℕ) : Type 0 where
    pub k2_is : Is d k2 ((F d).root (el d (get_or w 5 0)))
    pub k1_is : Is d k1 ((F d).root (el d (get_or w 3 0)))
    pub s_is : Is d s ((F d).ring.add (el d (get_or w 1 0)) (el d k1))
    pub k0_is : Is d k0 ((F d).root (el d s))
    pub k_is : Stands d k (quadratic (𝔸 d) (el d k2) (el d k1) (el d k0))
    pub m_is : Stands d m (even_quartic (𝔸 d) (el d (get_or w 5 0)) (el d (get_or w 3 0)) (el d s))
    pub p_is : Stands d p (poly d w ⊞ poly d k ⊞ poly d m · poly d u)
    pub q_is : Stands d q (poly d v ⊞ poly d k · poly d u ⊞ 𝟙)

  module _ {k2 k1 s k0 : ℕ} {k m p q : List ℕ} (c : Computed1 k2 k1 s k0 k m p q) where
    abbrev T : Triple (Poly d)
    T = record { u = poly d u; v = poly d v; w = poly d w }

    at : (i : ℕ) → el d (get_or w i 0) ≡ (𝔸 d).coeff (poly d w) i
    at i = sym (coeff_poly d w i)

    k1_path : el d k1 ≡ (F d).root ((𝔸 d).coeff (poly d w) 3)
    k1_path = c.k1_is.stands ∙ ap (F d).root (at 3)

    s_path : el d s ≡ (F d).ring.add ((𝔸 d).coeff (poly d w) 1) ((F d).root ((𝔸 d).coeff (poly d w) 3))
    s_path = c.s_is.stands ∙ ap₂ (F d).ring.add (at 1) k1_path

    k_path : poly d k ≡ k_1 (𝔸 d) T
    k_path = c.k_is.stands ∙ λ j. quadratic (𝔸 d) ((c.k2_is.stands ∙ ap (F d).root (at 5)) j) (k1_path j) ((c.k0_is.stands ∙ ap (F d).root s_path) j)

    m_path : poly d m ≡ m_1 (𝔸 d) T
    m_path = c.m_is.stands ∙ λ j. even_quartic (𝔸 d) (at 5 j) (at 3 j) (s_path j)

    p_path : poly d p ≡ poly d w ⊞ k_1 (𝔸 d) T ⊞ m_1 (𝔸 d) T · poly d u
    p_path = c.p_is.stands ∙ ap₂ (λ y z. poly d w ⊞ y ⊞ z · poly d u) k_path m_path

    q_path : poly d q ≡ poly d v ⊞ k_1 (𝔸 d) T · poly d u ⊞ 𝟙
    q_path = c.q_is.stands ∙ ap (λ y. poly d v ⊞ y · poly d u ⊞ 𝟙) k_path

    pub root_nonzero_1 : HalvingRows d 2 u v w → ¬ (sqrt (𝔸 d) (poly d p) ≡ 𝟘)
    root_nonzero_1 h e =
        nonzero_1 (𝔸 d) T h.u_len h.u_monic (omega (arith, h.w_len)) h.w_monic (ap (sqrt (𝔸 d)) (sym p_path) ∙ e)

    pub result_1 : root_pair (𝔸 d) (poly d p) (poly d q) ≡ half_of_degree_1 (𝔸 d) (rows_triple d u v w)
    unfolding rows_triple
    result_1 = ap₂ (root_pair (𝔸 d)) p_path q_path ∙ sym (pair_1 (𝔸 d) T)
