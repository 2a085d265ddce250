-- The half of a class of degree 1 or 2 without a division by a constant.
-- `pair_1`, `pair_2_square`, `pair_2`: the rule's pair has the square root of a polynomial that needs no such division.
-- `nonzero_1`, `nonzero_2_square`, `nonzero_2`: this root is not 0.
-- `square_1`, `square_2`: the square of the rule, multiplied out.
-- `half_2_lifted`: where u1 is not 0, the half of degree 2 is the lifted one.
use mathlib.Core.Path.{◌≡◌, refl, ◌∙◌, ap}
use Rattle.field_laws.specs.{Ring.Ring2, Field.Field2, Division.inverse_of}
use Rattle.char2_algebra.specs.{Polynomials.Polynomials, Lead.Monic, Square.sqrt}
use Rattle.char2_algebra.proofs.{Ring.ring2, Ring.by, Ring.both, Ring.combine, Lead.monic_top}
use Rattle.class_group.specs.{Mumford.Pair, Half.Triple, Half.lift, Half.exchange, Half.halved, Half.quadratic, Half.half_of_degree_1}
use Rattle.class_group.specs.{Half.half_of_degree_2, Half.lifted_half_of_degree_2}
use Rattle.class_group.proofs.Rows.{row_1, row_2, row_2_square}
use Rattle.row_theory.specs.internal.Halving.{even_quartic, root_pair}
use Rattle.row_theory.proofs.HalfRows.Squares.{quartic_is, square_of, square_of_one, one_times, one_square, halved_pair, root_nonzero}

module _ {B : Type 0} (R : Ring2 B) where
  open R use {add as ◌⊞◌, mul as ◌·◌, one as 𝟙}

  infixl 60 ◌⊞◌
  infixl 70 ◌·◌
  undivided : (u i s z : B) → u · i ≡ 𝟙 → z ≡ s · i → u · z ≡ s
  undivided u i s z h e = combine R _ _ (both R (by R s h) (by R u e)) (simp (ring2, R))

module _ {K P : Type 0} {F : Field2 K} (A : Polynomials F P) where
  open A use {ring, coeff, con, len}
  open ring use {add as ◌⊞◌, mul as ◌·◌, zero as 𝟘, one as 𝟙}
  open F.ring use {add as ◌⊞ₖ◌, mul as ◌·ₖ◌, zero as 𝟘ₖ, one as 𝟙ₖ}
  open F use {root}

  infixl 60 ◌⊞◌
  infixl 70 ◌·◌
  infixl 60 ◌⊞ₖ◌
  infixl 70 ◌·ₖ◌
  -- degree 1
  module _ (T : Triple P) where
    abbrev pub k_1 : P
    k_1 = quadratic A (root (coeff T.w 5)) (root (coeff T.w 3)) (root (coeff T.w 1 ⊞ₖ root (coeff T.w 3)))

    abbrev pub m_1 : P
    m_1 = even_quartic A (coeff T.w 5) (coeff T.w 3) (coeff T.w 1 ⊞ₖ root (coeff T.w 3))

    pub square_1 : con 𝟙ₖ · (T.w ⊞ k_1 ⊞ k_1 · k_1 · T.u) ≡ T.w ⊞ k_1 ⊞ m_1 · T.u
    square_1 =
        square_of_one A k_1 m_1 T.u T.w
        (quartic_is A 𝟙ₖ _ _ _ _ _ _ (one_square A _ _ (F.root_square _)) (one_square A _ _ (F.root_square _)) (one_square A _ _ (F.root_square _)))

    pub pair_1 : half_of_degree_1 A T ≡ root_pair A (T.w ⊞ k_1 ⊞ m_1 · T.u) (T.v ⊞ k_1 · T.u ⊞ 𝟙)
    unfolding half_of_degree_1 exchange lift
    pair_1 = halved_pair A 𝟙ₖ (exchange A (lift A k_1 T)) _ _ square_1 refl

    pub nonzero_1 :
        len T.u ≡ 2
        → Monic A T.u
        → len T.w ≡ 7
        → Monic A T.w
        → ¬ (sqrt A (T.w ⊞ k_1 ⊞ m_1 · T.u) ≡ 𝟘)
    nonzero_1 u_len u_monic w_len w_monic =
        root_nonzero A 𝟙ₖ 3 _ _ (row_1 A T.u T.w u_len (monic_top A T.u 1 u_monic u_len) w_len (monic_top A T.w 6 w_monic w_len)) square_1

  -- degree 2, u1 = 0
  pub pair_2_square : (T : Triple P) → coeff T.u 1 ≡ 𝟘ₖ → half_of_degree_2 A T ≡ root_pair A T.u T.v
  unfolding half_of_degree_2
  pair_2_square T z = go (F.discrete (coeff T.u 1) 𝟘ₖ)
    where
      go : (d : Dec (coeff T.u 1 ≡ 𝟘ₖ)) → elim d as (λ _. Pair P) [ yes _ ↦ halved A 𝟙ₖ T | no shown ↦ lifted_half_of_degree_2 A T shown ] ≡ root_pair A T.u T.v
      go (yes _) = halved_pair A 𝟙ₖ T _ _ (one_times A T.u) refl
      go (no n) = absurd (n z)

  pub nonzero_2_square : (T : Triple P) → len T.u ≡ 3 → Monic A T.u → coeff T.u 1 ≡ 𝟘ₖ → ¬ (sqrt A T.u ≡ 𝟘)
  nonzero_2_square T u_len u_monic z =
      root_nonzero A 𝟙ₖ 1 _ _ (row_2_square A T.u u_len (monic_top A T.u 2 u_monic u_len) z) (one_times A T.u)

  -- degree 2, u1 ≠ 0
  pub half_2_lifted : (T : Triple P) (n : ¬ (coeff T.u 1 ≡ 𝟘ₖ)) → half_of_degree_2 A T ≡ lifted_half_of_degree_2 A T n
  unfolding half_of_degree_2 lifted_half_of_degree_2
  half_2_lifted T n = go (F.discrete (coeff T.u 1) 𝟘ₖ)
    where
      go : (d : Dec (coeff T.u 1 ≡ 𝟘ₖ)) → elim d as (λ _. Pair P) [ yes _ ↦ halved A 𝟙ₖ T | no shown ↦ lifted_half_of_degree_2 A T shown ] ≡ lifted_half_of_degree_2 A T n
      go (yes z) = absurd (n z)
      go (no _) = refl

  module _ (T : Triple P) (n : ¬ (coeff T.u 1 ≡ 𝟘ₖ)) where
    abbrev u1 : K
    u1 = coeff T.u 1

    abbrev i : K
    i = inverse_of F u1 n

    abbrev k1 : K
    k1 = root (coeff T.w 3 ·ₖ i)

    abbrev pub k_2 : P
    k_2 = quadratic A (root i) k1 (root ((coeff T.w 1 ⊞ₖ k1) ·ₖ i))

    abbrev pub m_2 : P
    m_2 = even_quartic A 𝟙ₖ (coeff T.w 3) (coeff T.w 1 ⊞ₖ k1)

    pub square_2 : con u1 · (T.w ⊞ k_2 ⊞ k_2 · k_2 · T.u) ≡ con u1 · T.w ⊞ con u1 · k_2 ⊞ m_2 · T.u
    square_2 =
        square_of A u1 k_2 m_2 T.u T.w
        (quartic_is A u1 _ _ _ _ _ _
        (ap (λ z. u1 ·ₖ z) (F.root_square _) ∙ F.mul_inverse _ n)
        (undivided F.ring _ i _ _ (F.mul_inverse _ n) (F.root_square _))
        (undivided F.ring _ i _ _ (F.mul_inverse _ n) (F.root_square _)))

    pub pair_2 : half_of_degree_2 A T ≡ root_pair A (con u1 · T.w ⊞ con u1 · k_2 ⊞ m_2 · T.u) (T.v ⊞ k_2 · T.u ⊞ 𝟙)
    unfolding lifted_half_of_degree_2 exchange lift
    pair_2 = half_2_lifted T n ∙ halved_pair A u1 (exchange A (lift A k_2 T)) _ _ square_2 refl

    pub nonzero_2 :
        len T.u ≡ 3
        → Monic A T.u
        → len T.w ≡ 6
        → Monic A T.w
        → ¬ (sqrt A (con u1 · T.w ⊞ con u1 · k_2 ⊞ m_2 · T.u) ≡ 𝟘)
    nonzero_2 u_len u_monic w_len w_monic =
        root_nonzero A u1 3 _ _
        (row_2 A T.u T.w u_len (monic_top A T.u 2 u_monic u_len) w_len (monic_top A T.w 5 w_monic w_len) i (F.mul_inverse _ n))
        square_2
