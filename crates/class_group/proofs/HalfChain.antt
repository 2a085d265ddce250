-- The half of a reduced class, by the cases of the halving rule: a chain of lifts and steps leads from u, v, w to a
-- triple whose first polynomial is, up to a constant, the square of a monic a of degree at most 3; the half is
-- [a, v modulo a].
-- `value_len`, `value_monic`: v² + v + f is monic of degree 7 where v has degree at most 3.
-- `half_chain`: the half of every reduced class with u of degree at least 1 comes from such a chain.
use Prim.Native.Nat.{ℕ, zero, suc, ◌≤◌, ◌<◌, ◌+◌}
use mathlib.Core.Path.{◌≡◌, refl, sym, ◌∙◌, ap}
use native.Mathlib.Omega.{arith}
use Rattle.field_laws.specs.Field.{Field2}
use Rattle.char2_algebra.specs.Polynomials.{Polynomials}
use Rattle.char2_algebra.specs.Lead.{Monic}
use Rattle.char2_algebra.proofs.Degree.{len_add, len_add_less}
use Rattle.char2_algebra.proofs.Product.{len_mul, len_mul_le}
use Rattle.char2_algebra.proofs.Division.{quot_exact}
use Rattle.char2_algebra.proofs.Lead.{lead_add_less, monic_nonzero, monic_cofactor, monic_top}
use Rattle.class_group.specs.Curve.{Curve}
use Rattle.class_group.specs.Mumford.{Pair, Reduced, value}
use Rattle.class_group.specs.Half.{Triple, triple, lift, exchange, halved, half, half_by, half_of_degree_1, half_of_degree_2, half_of_degree_3, exchanged_of_degree_3, lifted_half_of_degree_2, lifted_half_of_degree_3}
use Rattle.class_group.proofs.Triple.{Meets, Chain, start, lifted, stepped}
use Rattle.class_group.proofs.Rows.{Even, row_1, row_2, row_2_square, row_3, row_3_square, second_lift, first_lift_nonzero}
use Rattle.class_group.specs.Half.{first_lift}
use Rattle.class_group.proofs.EvenRoot.{MonicRoot, even_root, even_nonzero}

module _ {K P : Type 0} {F : Field2 K} {A : Polynomials F P} (C : Curve A) where
  open A use {ring, coeff, con, len}
  open ring use {add as ◌⊞◌, mul as ◌·◌, zero as 𝟘, one as 𝟙}
  open C use {f, f_len, f_monic}

  infixl 60 ◌⊞◌
  infixl 70 ◌·◌
  short : (v : P) → len v ≤ 4 → len (v · v ⊞ v) < len f
  short v h =
      let e : len (v · v ⊞ v) ≤ 7 = len_add A (v · v) v 7 (len_mul_le A 3 4 v v h h) (omega arith) in
      let k : len f ≡ 8 = f_len in
      omega arith

  pub value_len : (v : P) → len v ≤ 4 → len (value C v) ≡ 8
  unfolding value
  value_len v h = len_add_less A (v · v ⊞ v) f (short v h) ∙ f_len

  pub value_monic : (v : P) → len v ≤ 4 → Monic A (value C v)
  unfolding value
  value_monic v h = lead_add_less A (v · v ⊞ v) f (short v h) ∙ f_monic

  -- the class D and its w
  module _ (D : Pair P) (r : Reduced C D) where
    u≢ : ¬ (D.u ≡ 𝟘)
    u≢ = monic_nonzero A D.u r.u_monic

    abbrev w : P
    w = A.quot (value C D.v) D.u

    pub triple_meets : Meets C (triple C D)
    unfolding triple
    triple_meets = quot_exact A D.u u≢ (value C D.v) r.divides

    v_short : len D.v ≤ 4
    v_short = let h : len D.v < len D.u = r.v_len in let k : len D.u ≤ 4 = r.u_len in omega arith

    uw : value C D.v ≡ w · D.u
    unfolding triple
    uw = triple_meets

    w_monic : Monic A w
    w_monic = monic_cofactor A w D.u (sym (ap (Rattle.char2_algebra.specs.Lead.lead A) uw) ∙ value_monic D.v v_short) r.u_monic

    w_len : len w + len D.u ≡ 9
    w_len = sym (len_mul A w D.u (monic_nonzero A w w_monic) u≢) ∙ ap (λ z. suc (len z)) (sym uw) ∙ ap suc (value_len D.v v_short)

    -- H is [a, v modulo a], where a chain leads from the triple of D to T, and a² is c times T's first polynomial
    pub record HalfChain (H : Pair P) : Type 0 where
      pub c : K
      pub m : ℕ
      pub T : Triple P
      pub chain : Chain C (triple C D) T
      pub root : MonicRoot A c m T.u H.u
      pub short : m ≤ 3
      pub v_is : H.v ≡ A.rem T.v H.u

    -- a case of the rule: c times the first polynomial of T is a square
    from_even : (c : K) (m : ℕ) (T : Triple P) → m ≤ 3 → Chain C (triple C D) T → Even A c m T.u → HalfChain (halved A c T)
    unfolding halved
    from_even c m T h k e =
        record { c = c; m = m; T = T; chain = k; root = even_root A c m T.u e; short = h; v_is = refl }

    degree_1 : len D.u ≡ 2 → HalfChain (half_of_degree_1 A (triple C D))
    unfolding half_of_degree_1 triple lift exchange
    degree_1 e =
        let row : Even A _ 3 _ =
        row_1 A D.u w e (monic_top A D.u 1 r.u_monic e) (omega (arith, w_len)) (monic_top A w 6 w_monic (omega (arith, w_len))) in
        from_even _ 3 _ (omega arith) (stepped (even_nonzero A row) (lifted _ start)) row

    degree_2 : len D.u ≡ 3 → HalfChain (half_of_degree_2 A (triple C D))
    unfolding half_of_degree_2 lifted_half_of_degree_2 triple lift exchange
    degree_2 e = go (F.discrete (coeff D.u 1) F.ring.zero)
      where
        u_top : coeff D.u 2 ≡ F.ring.one
        u_top = monic_top A D.u 2 r.u_monic e

        lifts : (n : ¬ (coeff D.u 1 ≡ F.ring.zero)) → HalfChain (lifted_half_of_degree_2 A (triple C D) n)
        lifts n =
            let row : Even A _ 3 _ = row_2 A D.u w e u_top (omega (arith, w_len)) (monic_top A w 5 w_monic (omega (arith, w_len))) _ (F.mul_inverse _ n) in
            from_even _ 3 _ (omega arith) (stepped (even_nonzero A row) (lifted _ start)) row

        go : (d : Dec (coeff D.u 1 ≡ F.ring.zero))
            → HalfChain (elim d as (λ _. Pair P) [ yes _ ↦ halved A F.ring.one (triple C D) | no n ↦ lifted_half_of_degree_2 A (triple C D) n ])
        go (yes z) = from_even _ 1 _ (omega arith) start (row_2_square A D.u e u_top z)
        go (no n) = lifts n

    degree_3 : len D.u ≡ 4 → HalfChain (half_of_degree_3 A (triple C D))
    unfolding half_of_degree_3 exchanged_of_degree_3 lifted_half_of_degree_3 triple lift exchange first_lift second_lift
    degree_3 e = go (F.discrete (F.root (coeff (first_lift A D.u w) 1)) F.ring.zero)
      where
        u_top : coeff D.u 3 ≡ F.ring.one
        u_top = monic_top A D.u 3 r.u_monic e

        w_top : coeff w 4 ≡ F.ring.one
        w_top = monic_top A w 4 w_monic (omega (arith, w_len))

        first≢ : ¬ (first_lift A D.u w ≡ 𝟘)
        first≢ = first_lift_nonzero A D.u w e u_top (omega (arith, w_len)) w_top

        lifts : (n : ¬ (F.root (coeff (first_lift A D.u w) 1) ≡ F.ring.zero)) → HalfChain (lifted_half_of_degree_3 A (triple C D) n)
        lifts n =
            let row : Even A _ 3 _ = row_3 A D.u w e u_top (omega (arith, w_len)) w_top _ (F.mul_inverse _ n) in
            from_even _ 3 _ (omega arith) (stepped (even_nonzero A row) (lifted _ (stepped first≢ (lifted _ start)))) row

        go : (d : Dec (F.root (coeff (first_lift A D.u w) 1) ≡ F.ring.zero))
            → HalfChain (elim d as (λ _. Pair P) [ yes _ ↦ halved A F.ring.one (exchanged_of_degree_3 A (triple C D)) | no n ↦ lifted_half_of_degree_3 A (triple C D) n ])
        go (yes z) = from_even _ 2 _ (omega arith) (stepped first≢ (lifted _ start)) (row_3_square A D.u w e u_top (omega (arith, w_len)) w_top z)
        go (no n) = lifts n

    pub half_chain : (1 < len D.u) → HalfChain (half C D)
    unfolding half half_by
    half_chain h = go (len D.u) refl
      where
        go : (n : ℕ) → len D.u ≡ n → HalfChain (half_by C n D)
        go zero e = absurd (omega arith)
        go (suc zero) e = absurd (omega arith)
        go (suc (suc zero)) e = degree_1 e
        go (suc (suc (suc zero))) e = degree_2 e
        go (suc (suc (suc (suc zero)))) e = degree_3 e
        go (suc (suc (suc (suc (suc n))))) e = absurd (let l : len D.u ≤ 4 = r.u_len in omega arith)
