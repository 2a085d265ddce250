-- The rows of the halving rule with the constant multiplied out: the square c (w + k + k² u) as c w + c k + (c k²) u.
-- c k² has only even powers, so that no coefficient is squared or divided.
use Prim.Native.Nat.{ℕ, ◌≤◌}
use mathlib.Core.Path.{◌≡◌, sym, ◌∙◌, ap, ap₂}
use native.Mathlib.Omega.{arith}
use Rattle.field_laws.specs.{Ring.Ring2, Field.Field2}
use Rattle.char2_algebra.specs.{Polynomials.Polynomials, Square.sqrt}
use Rattle.char2_algebra.proofs.{Ring.ring2, Ring.by, Ring.combine, Ring.⊞_𝟘, Ring.·_𝟘, Ring.𝟙_·, Degree.con_mul, Degree.con_one, Degree.con_of_zero}
use Rattle.char2_algebra.proofs.{Degree.len_add, Degree.len_con_le, Degree.len_x_mul_le, Lead.monic_nonzero}
use Rattle.class_group.proofs.{Rows.Even, EvenRoot.even_root}
use Rattle.class_group.specs.Half.{Triple, halved, quadratic}
use Rattle.row_theory.specs.internal.Halving.{even_quartic, root_pair}

module _ {B : Type 0} (R : Ring2 B) where
  open R use {add as ◌⊞◌, mul as ◌·◌, one as 𝟙}

  infixl 60 ◌⊞◌
  infixl 70 ◌·◌
  -- c (w + k + k² u)
  scaled_lift : (c w k m u : B) → c · (k · k) ≡ m → c · w ⊞ c · k ⊞ m · u ≡ c · (w ⊞ k ⊞ k · k · u)
  scaled_lift c w k m u h = combine R _ _ (by R u h) (simp (ring2, R))

  scaled_square :
      (c x k0 k1 k2 : B)
      → c · ((k0 ⊞ x · (k1 ⊞ x · k2)) · (k0 ⊞ x · (k1 ⊞ x · k2)))
      ≡ c · (k0 · k0) ⊞ x · (x · (c · (k1 · k1) ⊞ x · (x · (c · (k2 · k2)))))
  scaled_square c x k0 k1 k2 = simp (ring2, R)

  scaled_quadratic : (c x k0 k1 k2 : B) → c · (k0 ⊞ x · (k1 ⊞ x · k2)) ≡ c · k0 ⊞ x · (c · k1 ⊞ x · (c · k2))
  scaled_quadratic c x k0 k1 k2 = simp (ring2, R)

module _ {K P : Type 0} {F : Field2 K} (A : Polynomials F P) where
  open A use {ring, coeff, con, x, len}
  open ring use {add as ◌⊞◌, mul as ◌·◌, zero as 𝟘, one as 𝟙}
  open F.ring use {add as ◌⊞ₖ◌, mul as ◌·ₖ◌, zero as 𝟘ₖ, one as 𝟙ₖ}
  open F use {root, inverse}

  infixl 60 ◌⊞◌
  infixl 70 ◌·◌
  infixl 60 ◌⊞ₖ◌
  infixl 70 ◌·ₖ◌
  con_square : (c k m : K) → c ·ₖ (k ·ₖ k) ≡ m → con c · (con k · con k) ≡ con m
  con_square c k m e = ap (λ z. con c · z) (sym (con_mul A k k)) ∙ sym (con_mul A c (k ·ₖ k)) ∙ ap con e

  pub constant : (c : K) → quadratic A 𝟘ₖ 𝟘ₖ c ≡ con c
  unfolding quadratic
  constant c =
      ap₂ (λ y z. con c ⊞ x · (y ⊞ x · z)) (con_of_zero A) (con_of_zero A)
      ∙ ap (λ z. con c ⊞ x · (𝟘 ⊞ z)) (·_𝟘 ring x)
      ∙ ap (λ z. con c ⊞ x · z) (⊞_𝟘 ring 𝟘)
      ∙ ap (λ z. con c ⊞ z) (·_𝟘 ring x)
      ∙ ⊞_𝟘 ring (con c)

  -- c k² for k = k2 x² + k1 x + k0
  pub quartic_is :
      (c k2 k1 k0 m2 m1 m0 : K)
      → c ·ₖ (k2 ·ₖ k2) ≡ m2
      → c ·ₖ (k1 ·ₖ k1) ≡ m1
      → c ·ₖ (k0 ·ₖ k0) ≡ m0
      → con c · (quadratic A k2 k1 k0 · quadratic A k2 k1 k0) ≡ even_quartic A m2 m1 m0
  unfolding quadratic even_quartic
  quartic_is c k2 k1 k0 m2 m1 m0 e2 e1 e0 =
      scaled_square ring (con c) x (con k0) (con k1) (con k2)
      ∙ ap₂
      (λ y z. y ⊞ x · (x · z))
      (con_square c k0 m0 e0)
      (ap₂ (λ y z. y ⊞ x · (x · z)) (con_square c k1 m1 e1) (con_square c k2 m2 e2))

  pub quadratic_is :
      (c k2 k1 k0 l2 l1 l0 : K) → c ·ₖ k2 ≡ l2 → c ·ₖ k1 ≡ l1 → c ·ₖ k0 ≡ l0 → con c · quadratic A k2 k1 k0 ≡ quadratic A l2 l1 l0
  unfolding quadratic
  quadratic_is c k2 k1 k0 l2 l1 l0 e2 e1 e0 =
      scaled_quadratic ring (con c) x (con k0) (con k1) (con k2)
      ∙ ap₂
      (λ y z. y ⊞ x · z)
      (sym (con_mul A c k0) ∙ ap con e0)
      (ap₂ (λ y z. y ⊞ x · z) (sym (con_mul A c k1) ∙ ap con e1) (sym (con_mul A c k2) ∙ ap con e2))

  -- the square, multiplied out
  pub square_of : (c : K) (k m u w : P) → con c · (k · k) ≡ m → con c · (w ⊞ k ⊞ k · k · u) ≡ con c · w ⊞ con c · k ⊞ m · u
  square_of c k m u w e = sym (scaled_lift ring (con c) w k m u e)

  pub one_times : (p : P) → con 𝟙ₖ · p ≡ p
  one_times p = ap (λ z. z · p) (con_one A) ∙ 𝟙_· ring p

  pub square_of_one : (k m u w : P) → con 𝟙ₖ · (k · k) ≡ m → con 𝟙ₖ · (w ⊞ k ⊞ k · k · u) ≡ w ⊞ k ⊞ m · u
  square_of_one k m u w e = square_of 𝟙ₖ k m u w e ∙ ap₂ (λ y z. y ⊞ z ⊞ m · u) (one_times w) (one_times k)

  pub one_square : (k m : K) → k ·ₖ k ≡ m → 𝟙ₖ ·ₖ (k ·ₖ k) ≡ m
  one_square k m e = 𝟙_· F.ring (k ·ₖ k) ∙ e

  -- the pair [a, v modulo a], where c times the first polynomial is a square p = a²
  pub halved_pair : (c : K) (T : Triple P) (p v : P) → con c · T.u ≡ p → T.v ≡ v → halved A c T ≡ root_pair A p v
  unfolding halved root_pair
  halved_pair c T p v e h = ap₂ (root_pair A) e h

  -- c p is the square of a monic a, so that it can be divided by a
  pub root_nonzero : (c : K) (m : ℕ) (p q : P) → Even A c m p → con c · p ≡ q → ¬ (sqrt A q ≡ 𝟘)
  root_nonzero c m p q e h z = monic_nonzero A _ (even_root A c m p e).monic (ap (sqrt A) h ∙ z)

  pub quadratic_len : (k2 k1 k0 : K) → len (quadratic A k2 k1 k0) ≤ 3
  unfolding quadratic
  quadratic_len k2 k1 k0 =
      len_add A _ _ 3 (omega (arith, len_con_le A k0))
      (len_x_mul_le A _ 2 (len_add A _ _ 2 (omega (arith, len_con_le A k1)) (len_x_mul_le A _ 1 (len_con_le A k2))))

  pub quartic_len : (m2 m1 m0 : K) → len (even_quartic A m2 m1 m0) ≤ 5
  unfolding even_quartic
  quartic_len m2 m1 m0 =
      len_add A _ _ 5 (omega (arith, len_con_le A m0))
      (len_x_mul_le A _ 4 (len_x_mul_le A _ 3 (len_add A _ _ 3 (omega (arith, len_con_le A m1)) (len_x_mul_le A _ 2 (len_x_mul_le A _ 1 (len_con_le A m2))))))
