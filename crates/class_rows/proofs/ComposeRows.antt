-- Composition by rows: what the functions of a composition require of each other, and what they promise.
use Prim.Native.Nat.{ℕ, suc, ◌+◌, ◌≤◌, ◌<◌}
use mathlib.Core.{Path.◌≡◌, Path.sym, Path.◌∙◌, Path.ap, Path.ap₂, Path.subst, List.List}
use native.Mathlib.Omega.{arith}
use Rattle.char2_algebra.specs.{Divides.Divides, Euclid.IsBezout}
use Rattle.char2_algebra.proofs.{Degree.len_add, Degree.len_one, Product.mul_nonzero, Product.len_mul_le, Lead.monic_nonzero, Divides.divides_trans}
use Rattle.char2_algebra.proofs.{Division.divides_len, Division.len_quot_le, Division.quot_exact_nonzero}
use Rattle.class_group.specs.Curve as Theory
use Rattle.class_group.specs.{Mumford.value, Composition.compose, Composition.joined}
use Rattle.class_group.proofs.{Norm.value_len, Joined.compose_coprime, Joined.compose_common}
use Rattle.row_theory.specs.{Field.𝔸, Field.Poly, Field.poly, Row.Stands, Row.row_len, internal.Bezout.BezoutRows, internal.Compose.Short, internal.Compose.multiple}
use Rattle.class_rows.specs.{Pair.StandsPair, Pair.rows_pair, Core.OnCurve, Core.ReducedRows, internal.Cofactor.CofactorRow, declared.row.RowPair.RowPair}
use Rattle.row_theory.proofs.{Rows.Coefficients.stands_eq, Rows.Coefficients.stands_len}
use Rattle.class_rows.proofs.{ReductionRows.reduced_on, DoubleRows.reduced_len}

module _ (d : ℕ) where
  open 𝔸 d use {ring as R, len, quot, rem}
  open (𝔸 d).ring use {add as ◌⊞◌, mul as ◌·◌, zero as 𝟘, one as 𝟙}

  infixl 60 ◌⊞◌
  infixl 70 ◌·◌
  -- the joined pair
  module _ (d₁ d₂ m : List ℕ) {u k : List ℕ} (U : Stands d u (poly d d₁ · poly d d₂)) (h₁ : ¬ (poly d d₁ ≡ 𝟘)) (h₂ : ¬ (poly d d₂ ≡ 𝟘)) (K : Stands d k (rem (poly d m) (poly d d₂))) where
    pub joined_nonzero : ¬ (poly d u ≡ 𝟘)
    joined_nonzero z = mul_nonzero (𝔸 d) (poly d d₁) (poly d d₂) h₁ h₂ (sym U.stands ∙ z)

    pub joined_less : row_len d k < row_len d d₂
    joined_less = omega (arith, stands_len d K, (𝔸 d).rem_len (poly d m) (poly d d₂) h₂)

    pub joined_stands : (v₁ : List ℕ) {p s v : List ℕ} → Stands d p (poly d d₁ · poly d k) → Stands d s (poly d v₁ ⊞ poly d p) → Stands d v (rem (poly d s) (poly d u))
        → StandsPair d (record { u = u; v = v }) (joined (𝔸 d) (poly d d₁) (poly d d₂) (poly d v₁) (poly d m))
    unfolding joined
    joined_stands v₁ P S W = record {
      u_stands = U;
      v_stands =
          stands_eq d
          (ap₂ rem (S.stands ∙ ap (λ z. poly d v₁ ⊞ z) (P.stands ∙ ap (λ z. poly d d₁ · z) K.stands)) U.stands) W;
    }

  -- lengths of products
  pub product_len : {r : List ℕ} (p q : Poly d) (m n : ℕ) → Stands d r (p · q) → len p ≤ suc m → len q ≤ n → row_len d r ≤ m + n
  product_len p q m n s h k = omega (arith, stands_len d s, len_mul_le (𝔸 d) m n p q h k)

  pub multiple_stands : (sum w s s' t' : List ℕ) {s₁ p q r : List ℕ} → Stands d s₁ (poly d s' · poly d s) → Stands d p (poly d s₁ · poly d sum)
      → Stands d q (poly d t' · poly d w) → Stands d r (poly d p ⊞ poly d q) → Stands d r (multiple d sum w s s' t')
  unfolding multiple
  multiple_stands sum w s s' t' S P Q = stands_eq d (ap₂ ◌⊞◌ (P.stands ∙ ap (λ z. z · poly d sum) S.stands) Q.stands)

  -- a reduced pair of rows
  module _ {f : List ℕ} {a : RowPair} (A : ReducedRows d f a) where
    pub u_nonzero : ¬ (poly d a.u ≡ 𝟘)
    unfolding rows_pair
    u_nonzero = monic_nonzero (𝔸 d) (poly d a.u) A.reduced.u_monic

    pub u_short : Short d 4 a.u
    u_short = record { in_range = A.u_range; len_le = (reduced_len d A).0 }

    pub cofactor_short : {w : List ℕ} → CofactorRow d f a w → Short d 8 w
    unfolding value
    cofactor_short w =
        let l = reduced_len d A in
        let C = A.C in
        let s = stands_len d (w C A.on_curve) in
        let n = value_len (𝔸 d) C.f C.f_len (poly d a.v) in
        let m = len_quot_le (𝔸 d) (value C (poly d a.v)) (poly d a.u) u_nonzero in
        record { in_range = (w C A.on_curve).in_range; len_le = omega (arith, l.0, l.1, s, n, m) }

    -- a common divisor of u and another polynomial
    module _ {b g s t : List ℕ} (B : BezoutRows d a.u b g s t) where
      pub divisor_len : row_len d g ≤ 4
      divisor_len =
          let l = divides_len (𝔸 d) B.bezout.divides_first u_nonzero in
          omega (arith, l, (reduced_len d A).0)

      pub divisor_nonzero : ¬ (poly d g ≡ 𝟘)
      divisor_nonzero = monic_nonzero (𝔸 d) _ (B.bezout.monic (λ z. u_nonzero z.0))

    -- u divided by a divisor of it
    module _ (g : List ℕ) {q : List ℕ} (h : ¬ (poly d g ≡ 𝟘)) (Q : Stands d q (quot (poly d a.u) (poly d g))) where
      pub part_len : row_len d q ≤ 4
      part_len = omega (arith, stands_len d Q, len_quot_le (𝔸 d) (poly d a.u) (poly d g) h, (reduced_len d A).0)

      pub part_nonzero : Divides R (poly d g) (poly d a.u) → ¬ (poly d q ≡ 𝟘)
      part_nonzero D z = quot_exact_nonzero (𝔸 d) (poly d g) h (poly d a.u) u_nonzero D (sym Q.stands ∙ z)

  module _ {f : List ℕ} {a b : RowPair} (A : ReducedRows d f a) (B : ReducedRows d f b) {g s t : List ℕ} (I : BezoutRows d a.u b.u g s t)
      {sum : List ℕ} (S : Stands d sum (poly d a.v ⊞ poly d b.v)) where
    -- the lengths of v1 + v2 and of s
    pub sum_len : row_len d sum ≤ 3
    sum_len =
        let l = reduced_len d A in
        let m = reduced_len d B in
        let n = len_add (𝔸 d) (poly d a.v) (poly d b.v) 3 (omega (arith, l.0, l.1)) (omega (arith, m.0, m.1)) in
        omega (arith, stands_len d S, n)

    pub first_len : row_len d s ≤ 4
    first_len = omega (arith, I.s_len, (reduced_len d B).0)

    -- u1 and u2 without a common divisor
    pub coprime_stands : {m : List ℕ} {r : RowPair} → row_len d g ≤ 1 → Stands d m (poly d s · poly d sum)
        → StandsPair d r (joined (𝔸 d) (poly d a.u) (poly d b.u) (poly d a.v) (poly d m))
        → (C : Theory.Curve (𝔸 d)) → OnCurve d f C → StandsPair d r (compose C (rows_pair d a) (rows_pair d b))
    unfolding rows_pair
    coprime_stands {r = r} h M J C on =
        subst (StandsPair d r)
        (ap (joined (𝔸 d) (poly d a.u) (poly d b.u) (poly d a.v)) (M.stands ∙ ap (λ z. poly d s · z) S.stands)
        ∙ sym (compose_coprime C (reduced_on d A on) (reduced_on d B on) I.bezout h))
        J

  -- u1 and u2 with a common divisor: the rows of u1, u2, v1 + v2, 1 and v1 + v2 + 1, and Euclid's rule used twice
  pub record Common (f : List ℕ) (a b : RowPair) (g s t sum one c e s' t' : List ℕ) : Type 0 where
    pub reduced₁ : ReducedRows d f a
    pub reduced₂ : ReducedRows d f b
    pub first_is : BezoutRows d a.u b.u g s t
    pub sum_is : Stands d sum (poly d a.v ⊞ poly d b.v)
    pub one_is : Stands d one 𝟙
    pub third_is : Stands d c (poly d sum ⊞ poly d one)
    pub second_is : BezoutRows d g c e s' t'

  pub third_len : (sum : List ℕ) {one c : List ℕ} → Stands d one 𝟙 → Stands d c (poly d sum ⊞ poly d one) → row_len d sum ≤ 3 → row_len d c ≤ 3
  third_len sum {one} O T h =
      let n = len_add (𝔸 d) (poly d sum) (poly d one) 3 h (omega (arith, stands_len d O, len_one (𝔸 d))) in
      omega (arith, stands_len d T, n)

module _ {d : ℕ} {f : List ℕ} {a b : RowPair} {g s t sum one c e s' t' : List ℕ} (k : Common d f a b g s t sum one c e s' t') where
  open 𝔸 d use {ring as R, quot}
  open (𝔸 d).ring use {add as ◌⊞◌, mul as ◌·◌, zero as 𝟘, one as 𝟙}
  open k use {reduced₁ as A, reduced₂ as B, first_is as I, sum_is as S, second_is as J}

  infixl 60 ◌⊞◌
  infixl 70 ◌·◌
  pub sum_short : Short d 3 sum
  sum_short = record { in_range = S.in_range; len_le = sum_len d A B I S }

  pub first_short : Short d 4 s
  first_short = record { in_range = I.s_range; len_le = first_len d A B I S }

  pub second_s_short : Short d 4 s'
  second_s_short = record { in_range = J.s_range; len_le = omega (arith, J.s_len, third_len d sum k.one_is k.third_is sum_short.len_le) }

  pub second_t_short : Short d 4 t'
  second_t_short = record { in_range = J.t_range; len_le = omega (arith, J.t_len, divisor_len d A I) }

  pub e_nonzero : ¬ (poly d e ≡ 𝟘)
  e_nonzero = monic_nonzero (𝔸 d) _ (J.bezout.monic (λ z. divisor_nonzero d A I z.0))

  -- u1 / e and u2 / e
  module _ {d₁ d₂ : List ℕ} (D : Stands d d₁ (quot (poly d a.u) (poly d e))) (E : Stands d d₂ (quot (poly d b.u) (poly d e))) where
    pub part₁_short : Short d 4 d₁
    part₁_short = record { in_range = D.in_range; len_le = part_len d A e e_nonzero D }

    pub part₂_short : Short d 4 d₂
    part₂_short = record { in_range = E.in_range; len_le = part_len d B e e_nonzero E }

    pub part₁_nonzero : ¬ (poly d d₁ ≡ 𝟘)
    part₁_nonzero = part_nonzero d A e e_nonzero D (divides_trans R J.bezout.divides_first I.bezout.divides_first)

    pub part₂_nonzero : ¬ (poly d d₂ ≡ 𝟘)
    part₂_nonzero = part_nonzero d B e e_nonzero E (divides_trans R J.bezout.divides_first I.bezout.divides_second)

    pub common_stands : {w m : List ℕ} {r : RowPair} → CofactorRow d f a w
        → Stands d m (multiple d sum w s s' t')
        → StandsPair d r (joined (𝔸 d) (poly d d₁) (poly d d₂) (poly d a.v) (poly d m))
        → (C : Theory.Curve (𝔸 d)) → OnCurve d f C → StandsPair d r (compose C (rows_pair d a) (rows_pair d b))
    unfolding rows_pair multiple
    common_stands {r = r} W M Z C on =
        let c_is : poly d c ≡ poly d a.v ⊞ poly d b.v ⊞ 𝟙 = k.third_is.stands ∙ ap₂ ◌⊞◌ S.stands k.one_is.stands in
        let i = subst (λ z. IsBezout (𝔸 d) (poly d g) z (record { g = poly d e; s = poly d s'; t = poly d t' })) c_is J.bezout in
        let m_is = M.stands ∙ ap₂ (λ y z. poly d s' · poly d s · y ⊞ poly d t' · z) S.stands (W C on).stands in
        subst (StandsPair d r)
        ((λ j. joined (𝔸 d) (D.stands j) (E.stands j) (poly d a.v) (m_is j))
        ∙ sym (compose_common C (reduced_on d A on) (reduced_on d B on) I.bezout i))
        Z
