-- The half of a class of degree 3.
-- `first_lift_is`, `first_lift_len`: the first lift by √w3, and its length.
-- `pair_3_square`, `nonzero_3_square`: the rule's pair where the first lift is a square, whose root is not 0.
-- `pair_3`: the rule's pair after the second lift. Its square needs no division, and the remainders of its second
-- polynomial are taken early, so that no product of degree 5 is divided.
-- `a_monic`, `a_len`, `a_nonzero`: the root of that square is monic of degree 3.
use Prim.Native.Nat.{ℕ, suc, ◌≤◌, ◌<◌}
use mathlib.Core.Path.{◌≡◌, refl, sym, ◌∙◌, ap, ap₂, subst}
use native.Mathlib.{Omega.arith, Decide.dec_le}
use Rattle.field_laws.specs.{Ring.Ring2, Field.Field2, Division.inverse_of}
use Rattle.char2_algebra.specs.{Polynomials.Polynomials, Lead.Monic, Square.sqrt}
use Rattle.char2_algebra.proofs.{Ring.ring2, Ring.by, Ring.both, Ring.combine, Ring.⊞_𝟘, Ring.·_𝟘, Ring.·_𝟙, Degree.len_add, Degree.len_bound}
use Rattle.char2_algebra.proofs.{Degree.len_con_le, Product.len_mul_le, Division.rem_is, Lead.monic_top, Lead.monic_nonzero}
use Rattle.class_group.specs.{Mumford.Pair, Half.Triple, Half.lift, Half.exchange, Half.halved, Half.quadratic, Half.half_of_degree_3, Half.first_lift}
use Rattle.class_group.specs.{Half.exchanged_of_degree_3, Half.lifted_half_of_degree_3}
use Rattle.class_group.proofs.{Rows.row_3, Rows.row_3_square, Rows.squares_one, Rows.second_lift, EvenRoot.MonicRoot, EvenRoot.even_root}
use Rattle.row_theory.specs.internal.Halving.{even_quartic, root_pair, second_square, second_remainder}
use Rattle.row_theory.proofs.HalfRows.Squares.{quartic_is, quadratic_is, square_of, square_of_one, one_times, one_square, constant, halved_pair, root_nonzero}

module _ {B : Type 0} (R : Ring2 B) where
  open R use {add as ◌⊞◌, mul as ◌·◌, zero as 𝟘, one as 𝟙}

  infixl 60 ◌⊞◌
  infixl 70 ◌·◌
  -- with t i = 1: t² k² and t² k for k = i x + q i
  scaled_root : (t i q g : B) → t · i ≡ 𝟙 → q · q ≡ g → t · t · (q · i · (q · i)) ≡ g
  scaled_root t i q g h e = combine R _ _ (both R (by R (q · q · (t · i ⊞ 𝟙)) h) (by R 𝟙 e)) (simp (ring2, R))

  scaled_first : (t i : B) → t · i ≡ 𝟙 → t · t · i ≡ t
  scaled_first t i h = combine R _ _ (by R t h) (simp (ring2, R))

  scaled_last : (t i q : B) → t · i ≡ 𝟙 → t · t · (q · i) ≡ t · q
  scaled_last t i q h = combine R _ _ (by R (t · q) h) (simp (ring2, R))

  -- v + r u + 1 + k s + 1 modulo a, where s = c a + b, y b = e a + z and k = i y
  remainder_identity :
      (v r u k s a i y b c e z : B)
      → k ≡ i · y
      → s ≡ c · a ⊞ b
      → y · b ≡ e · a ⊞ z
      → v ⊞ r · u ⊞ 𝟙 ⊞ k · s ⊞ 𝟙 ≡ (i · y · c ⊞ i · e ⊞ r) · a ⊞ (v ⊞ r · (u ⊞ a) ⊞ i · z)
  remainder_identity v r u k s a i y b c e z h1 h2 h3 =
      combine R _ _ (both R (by R s h1) (both R (by R (i · y) h2) (by R i h3))) (simp (ring2, R))

module _ {K P : Type 0} {F : Field2 K} (A : Polynomials F P) where
  open A use {ring, coeff, con, x, len, rem, quot}
  open ring use {add as ◌⊞◌, mul as ◌·◌, zero as 𝟘, one as 𝟙}
  open F.ring use {add as ◌⊞ₖ◌, mul as ◌·ₖ◌, zero as 𝟘ₖ, one as 𝟙ₖ}
  open F use {root}

  infixl 60 ◌⊞◌
  infixl 70 ◌·◌
  infixl 60 ◌⊞ₖ◌
  infixl 70 ◌·ₖ◌
  zero_square : (c : K) → c ·ₖ (𝟘ₖ ·ₖ 𝟘ₖ) ≡ 𝟘ₖ
  zero_square c = ap (λ z. c ·ₖ z) (·_𝟘 F.ring 𝟘ₖ) ∙ ·_𝟘 F.ring c

  -- the first lift, by √w3
  pub first_lift_is :
      (u w : P) → first_lift A u w ≡ w ⊞ quadratic A 𝟘ₖ 𝟘ₖ (root (coeff w 3)) ⊞ even_quartic A 𝟘ₖ 𝟘ₖ (coeff w 3) · u
  unfolding first_lift
  first_lift_is u w =
      sym (one_times A _)
      ∙ square_of_one A _ _ u w (quartic_is A 𝟙ₖ _ _ _ _ _ _ (zero_square 𝟙ₖ) (zero_square 𝟙ₖ) (one_square A _ _ (F.root_square _)))

  pub first_lift_len : (u w : P) → len u ≤ 5 → len w ≤ 5 → len (first_lift A u w) ≤ 5
  unfolding first_lift
  first_lift_len u w hu hw =
      subst (λ k. len (w ⊞ k ⊞ k · k · u) ≤ 5) (sym (constant A (root (coeff w 3))))
      (len_add A _ _ 5 (len_add A w _ 5 hw (omega (arith, len_con_le A (root (coeff w 3))))) (len_mul_le A 0 5 _ u (len_mul_le A 0 1 _ _ (len_con_le A _) (len_con_le A _)) hu))

  -- monic polynomials of the same length
  monic_sum : (p q : P) (n : ℕ) → len p ≡ suc n → len q ≡ suc n → Monic A p → Monic A q → len (p ⊞ q) ≤ n
  monic_sum p q n hp hq mp mq = len_bound A (p ⊞ q) n go
    where
      go : (i : ℕ) → n ≤ i → coeff (p ⊞ q) i ≡ 𝟘ₖ
      go i h =
          elim (dec_le (suc n) i) [
            | yes k ↦ A.coeff_add p q i ∙ ap₂ ◌⊞ₖ◌ (A.len_past p i (omega arith)) (A.len_past q i (omega arith)) ∙ ⊞_𝟘 F.ring 𝟘ₖ
            | no k ↦
                A.coeff_add p q i
                ∙ ap₂ ◌⊞ₖ◌ (monic_top A p i mp (omega arith)) (monic_top A q i mq (omega arith))
                ∙ F.ring.add_self 𝟙ₖ
          ]

  module _ (T : Triple P) where
    abbrev L : P
    L = first_lift A T.u T.w

    abbrev r : K
    r = root (coeff T.w 3)

    abbrev t : K
    t = root (coeff L 1)

    -- where the first lift is a square
    pub pair_3_square : t ≡ 𝟘ₖ → half_of_degree_3 A T ≡ root_pair A L (T.v ⊞ quadratic A 𝟘ₖ 𝟘ₖ r · T.u ⊞ 𝟙)
    unfolding half_of_degree_3 exchanged_of_degree_3 lift exchange first_lift
    pair_3_square z = go (F.discrete t 𝟘ₖ)
      where
        go : (d : Dec (t ≡ 𝟘ₖ)) → elim d as (λ _. Pair P) [ yes _ ↦ halved A 𝟙ₖ (exchanged_of_degree_3 A T) | no shown ↦ lifted_half_of_degree_3 A T shown ] ≡ root_pair A L (T.v ⊞ quadratic A 𝟘ₖ 𝟘ₖ r · T.u ⊞ 𝟙)
        go (yes _) = halved_pair A 𝟙ₖ (exchanged_of_degree_3 A T) _ _ (one_times A L) refl
        go (no n) = absurd (n z)

    pub nonzero_3_square : len T.u ≡ 4 → Monic A T.u → len T.w ≡ 5 → Monic A T.w → t ≡ 𝟘ₖ → ¬ (sqrt A L ≡ 𝟘)
    nonzero_3_square u_len u_monic w_len w_monic z =
        root_nonzero A 𝟙ₖ 2 _ _
        (row_3_square A T.u T.w u_len (monic_top A T.u 3 u_monic u_len) w_len (monic_top A T.w 4 w_monic w_len) z)
        (one_times A L)

    half_3_lifted : (n : ¬ (root (coeff (exchanged_of_degree_3 A T).u 1) ≡ 𝟘ₖ)) → half_of_degree_3 A T ≡ lifted_half_of_degree_3 A T n
    unfolding half_of_degree_3 lifted_half_of_degree_3 exchanged_of_degree_3 lift exchange first_lift
    half_3_lifted n = go (F.discrete t 𝟘ₖ)
      where
        go : (d : Dec (t ≡ 𝟘ₖ)) → elim d as (λ _. Pair P) [ yes _ ↦ halved A 𝟙ₖ (exchanged_of_degree_3 A T) | no shown ↦ lifted_half_of_degree_3 A T shown ] ≡ lifted_half_of_degree_3 A T n
        go (yes z) = absurd (n z)
        go (no _) = refl

    -- where it is not
    module _ (n : ¬ (t ≡ 𝟘ₖ)) where
      abbrev i : K
      i = inverse_of F t n

      abbrev q : K
      q = root (coeff T.u 1 ⊞ₖ i)

      abbrev k : P
      k = quadratic A 𝟘ₖ i (q ·ₖ i)

      abbrev M : P
      M = T.u ⊞ k ⊞ k · k · L

      -- t² u + t x + t q + (x² + q²) L
      abbrev pub square : P
      square = second_square A T.u L t q (coeff T.u 1 ⊞ₖ i)

      square_is : con (t ·ₖ t) · M ≡ square
      unfolding second_square
      square_is =
          square_of A (t ·ₖ t) k _ L T.u
          (quartic_is A (t ·ₖ t) _ _ _ _ _ _ (zero_square _) (squares_one F.ring t i inverts) (scaled_root F.ring t i q _ inverts (F.root_square _)))
          ∙ ap₂
          (λ y z. y ⊞ z ⊞ even_quartic A 𝟘ₖ 𝟙ₖ (coeff T.u 1 ⊞ₖ i) · L)
          (ap (λ z. con z · T.u) (F.root_square (coeff L 1)))
          (quadratic_is A (t ·ₖ t) _ _ _ _ _ _ (·_𝟘 F.ring _) (scaled_first F.ring t i inverts) (scaled_last F.ring t i q inverts))
        where
          inverts : t ·ₖ i ≡ 𝟙ₖ
          inverts = F.mul_inverse t n

      abbrev pub a : P
      a = sqrt A square

      -- the second polynomial of the half
      abbrev pub v_3 : P
      v_3 = second_remainder A T.u T.v L a r i q

      module _ (u_len : len T.u ≡ 4) (u_monic : Monic A T.u) (w_len : len T.w ≡ 5) (w_monic : Monic A T.w) (v_len : len T.v < 4) where
        a_root : MonicRoot A (t ·ₖ t) 3 M (sqrt A (con (t ·ₖ t) · M))
        unfolding second_lift
        a_root =
            even_root A (t ·ₖ t) 3 M
            (row_3 A T.u T.w u_len (monic_top A T.u 3 u_monic u_len) w_len (monic_top A T.w 4 w_monic w_len) i (F.mul_inverse t n))

        pub a_monic : Monic A a
        a_monic = subst (λ p. Monic A (sqrt A p)) square_is a_root.monic

        pub a_len : len a ≡ 4
        a_len = ap (λ p. len (sqrt A p)) (sym square_is) ∙ a_root.length

        pub a_nonzero : ¬ (a ≡ 𝟘)
        a_nonzero = monic_nonzero A a a_monic

        v_is : rem (T.v ⊞ quadratic A 𝟘ₖ 𝟘ₖ r · T.u ⊞ 𝟙 ⊞ k · L ⊞ 𝟙) a ≡ v_3
        unfolding second_remainder
        v_is =
            ap (λ z. rem (T.v ⊞ z · T.u ⊞ 𝟙 ⊞ k · L ⊞ 𝟙) a) (constant A r)
            ∙ rem_is A _ a (con i · y · quot L a ⊞ con i · quot (y · rem L a) a ⊞ con r) v_3 short
            (remainder_identity ring T.v (con r) T.u k L a (con i) y (rem L a) (quot L a) (quot (y · rem L a) a) (rem (y · rem L a) a) k_is (A.division L a a_nonzero) (A.division (y · rem L a) a a_nonzero))
          where
            y : P
            y = quadratic A 𝟘ₖ 𝟙ₖ q

            k_is : k ≡ con i · quadratic A 𝟘ₖ 𝟙ₖ q
            k_is = sym (quadratic_is A i 𝟘ₖ 𝟙ₖ q 𝟘ₖ i (q ·ₖ i) (·_𝟘 F.ring i) (·_𝟙 F.ring i) (F.ring.mul_comm i q))

            three : len (T.u ⊞ a) ≤ 3
            three = monic_sum T.u a 3 u_len a_len u_monic a_monic

            z_len : len (rem (quadratic A 𝟘ₖ 𝟙ₖ q · rem L a) a) < 4
            z_len = subst (λ m. len (rem (quadratic A 𝟘ₖ 𝟙ₖ q · rem L a) a) < m) a_len (A.rem_len _ a a_nonzero)

            short : len v_3 < len a
            short =
                let e : len v_3 ≤ 3 =
                len_add A _ _ 3
                (len_add A T.v _ 3 (omega arith) (len_mul_le A 0 3 (con r) _ (len_con_le A r) three))
                (len_mul_le A 0 3 (con i) _ (len_con_le A i) (omega (arith, z_len))) in
                omega (arith, a_len)

        pub pair_3 : half_of_degree_3 A T ≡ record { u = a; v = v_3 }
        unfolding lifted_half_of_degree_3 exchanged_of_degree_3 lift exchange first_lift root_pair
        pair_3 =
            half_3_lifted n
            ∙ halved_pair A (t ·ₖ t) (exchange A (lift A k (exchanged_of_degree_3 A T))) _ _ square_is refl
            ∙ ap {B = Pair P} (λ z. record { u = a; v = z }) v_is
