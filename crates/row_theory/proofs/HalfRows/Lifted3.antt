-- The half of degree 3 with a second lift, from the promises of its calls (`Lifted3`).
-- `root_len`: the root that v is divided by has degree 3.
-- `result_3`: the pair is the half of the rule.
use Prim.Native.Nat.{ℕ}
use mathlib.Core.{Path.◌≡◌, Path.sym, Path.◌∙◌, Path.ap, Path.ap₂, List.List}
use lib.ListN.{get_or}
use Rattle.field_laws.specs.Division.{inverse_of}
use Rattle.char2_algebra.specs.Square.{sqrt}
use Rattle.class_group.specs.{Mumford.Pair, Half.Triple, Half.half_of_degree_3, Half.first_lift}
use Rattle.row_theory.specs.{Field.K, Field.F, Field.Poly, Field.𝔸, Field.el, Field.poly, internal.Elements.Is, internal.Elements.Inverts, Row.Stands, Row.row_len, internal.Halving.second_square}
use Rattle.row_theory.specs.internal.Halving.{second_remainder, rows_triple}
use Rattle.row_theory.proofs.{Rows.Elements.el_nonzero, Rows.Answers.inverts_is, Rows.Answers.inverts_eq, Rows.Coefficients.coeff_poly, HalfRows.Degree3.pair_3, HalfRows.Degree3.a_len}
use Rattle.row_theory.proofs.HalfRows.Computed3.{Computed3, w_five, r_path, t_path}

module _ (d : ℕ) (u v w : List ℕ) where
  pub record Lifted3 (r : ℕ) (s : List ℕ) (t i g q : ℕ) (p a : List ℕ) : Type 0 where
    pub first : Computed3 d u v w r s t
    pub t_nonzero : ¬ (t ≡ 0)
    pub i_is : Inverts d i (el d t)
    pub g_is : Is d g ((F d).ring.add (el d (get_or u 1 0)) (el d i))
    pub q_is : Is d q ((F d).root (el d g))
    pub p_is : Stands d p (second_square (𝔸 d) (poly d u) (poly d s) (el d t) (el d q) (el d g))
    pub a_is : Stands d a (sqrt (𝔸 d) (poly d p))

  module _ {r t i g q : ℕ} {s p a : List ℕ} (c : Lifted3 r s t i g q p a) where
    abbrev L : Poly d
    L = first_lift (𝔸 d) (poly d u) (poly d w)

    abbrev T : Triple (Poly d)
    T = record { u = poly d u; v = poly d v; w = poly d w }

    abbrev t_el : K d
    t_el = (F d).root ((𝔸 d).coeff L 1)

    t_is : el d t ≡ t_el
    t_is = t_path d u v w c.first

    t≢ : ¬ (t_el ≡ (F d).ring.zero)
    t≢ e = el_nonzero d t c.first.t_is.in_range c.t_nonzero (t_is ∙ e)

    abbrev i_el : K d
    i_el = inverse_of (F d) t_el t≢

    abbrev g_el : K d
    g_el = (F d).ring.add ((𝔸 d).coeff (poly d u) 1) i_el

    i_path : el d i ≡ i_el
    i_path = inverts_is d t≢ (inverts_eq d t_is c.i_is)

    g_path : el d g ≡ g_el
    g_path = c.g_is.stands ∙ ap₂ (F d).ring.add (sym (coeff_poly d u 1)) i_path

    q_path : el d q ≡ (F d).root g_el
    q_path = c.q_is.stands ∙ ap (F d).root g_path

    a_path : poly d a ≡ sqrt (𝔸 d) (second_square (𝔸 d) (poly d u) L t_el ((F d).root g_el) g_el)
    a_path = c.a_is.stands ∙ ap (sqrt (𝔸 d)) (c.p_is.stands ∙ λ j. second_square (𝔸 d) (poly d u) (c.first.s_is.stands j) (t_is j) (q_path j) (g_path j))

    pub root_len : row_len d a ≡ 4
    root_len =
        ap (𝔸 d).len a_path
        ∙ a_len (𝔸 d) T t≢ c.first.rows.u_len c.first.rows.u_monic (w_five d u v w c.first) c.first.rows.w_monic c.first.rows.v_len

    pub result_3 :
        {o : List ℕ}
        → Stands d o (second_remainder (𝔸 d) (poly d u) (poly d v) (poly d s) (poly d a) (el d r) (el d i) (el d q))
        → record { u = poly d a; v = poly d o } ≡ half_of_degree_3 (𝔸 d) (rows_triple d u v w)
    unfolding rows_triple
    result_3 ho =
        ap₂ {C = Pair (Poly d)} (λ y z. record { u = y; v = z })
        a_path
        (ho.stands ∙ λ j. second_remainder (𝔸 d) (poly d u) (poly d v) (c.first.s_is.stands j) (a_path j) (r_path d u v w c.first j) (i_path j) (q_path j))
        ∙ sym (pair_3 (𝔸 d) T t≢ c.first.rows.u_len c.first.rows.u_monic (w_five d u v w c.first) c.first.rows.w_monic c.first.rows.v_len)
