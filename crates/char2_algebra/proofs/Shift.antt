-- A polynomial with x replaced by x + c, `shift`.
-- `shift_to_enough`: as many terms as the polynomial has coefficients are enough.
-- `shift_split`, `shift_con_add_x_mul`: p₀ + x p' becomes p₀ + (x + c) p'(x + c).
-- `shift_zero`, `shift_con`, `shift_one`, `shift_x`: 0, constants, 1 and x.
-- `shift_add`, `shift_mul`: sums become sums and products become products.
-- `shift_shift`: the shift by c undoes itself. `shift_none`: the shift by zero changes nothing.
-- `len_shift`, `lead_shift`: length and leading coefficient stay.
-- `coeff_shift_zero`, `coeff_shift_suc`, `coeff_shift_top`: the lowest, the other and the highest coefficients.
use Prim.Native.Nat.{ℕ, zero, suc, ◌+◌, ◌≤◌}
use mathlib.Core.Path.{◌≡◌, refl, sym, ◌∙◌, ap, ap₂, subst}
use native.Mathlib.Omega.{arith}
use Rattle.field_laws.specs.{Ring.Ring2, Field.Field2}
use Rattle.char2_algebra.specs.{Polynomials.Polynomials, Lead.lead, Square.tail, Shift.shift_to, Shift.shift}
use Rattle.char2_algebra.proofs.{Ring.ring2, Ring.⊞_𝟘, Ring.𝟘_⊞, Ring.⊞_·, Ring.·_𝟙, Ring.·_𝟘, Ring.𝟘_·, Lead.lead_is}
use Rattle.char2_algebra.proofs.Degree.{split, coeff_tail, len_tail, len_zero, len_of_zero, len_add, len_con_le, len_x, con_add, con_mul, con_of_zero, coeff_con_add_x_mul, coeff_con_add_x_mul_suc}
use Rattle.char2_algebra.proofs.Product.{len_mul_le}

module _ {B : Type 0} (R : Ring2 B) where
  open R use {add as ◌⊞◌, mul as ◌·◌, zero as 𝟘}

  infixl 60 ◌⊞◌
  infixl 70 ◌·◌
  sum_of_splits : (x a b p q : B) → (a ⊞ x · p) ⊞ (b ⊞ x · q) ≡ (a ⊞ b) ⊞ x · (p ⊞ q)
  sum_of_splits x a b p q = simp (ring2, R)

  multiple_of_split : (x a b p : B) → a · (b ⊞ x · p) ≡ a · b ⊞ x · (a · p)
  multiple_of_split x a b p = simp (ring2, R)

  product_of_split : (x a p q : B) → (a ⊞ x · p) · q ≡ a · q ⊞ x · (p · q)
  product_of_split x a p q = simp (ring2, R)

  vanishes : (a c : B) → a ⊞ c · 𝟘 ≡ a
  vanishes a c = simp (ring2, R)

  back_again : (x c : B) → x ⊞ c ⊞ c ≡ x
  back_again x c = simp (ring2, R)

module _ {K P : Type 0} {F : Field2 K} (A : Polynomials F P) where
  open A use {ring as R, coeff, con, x, len}
  open A.ring use {add as ◌⊞◌, mul as ◌·◌, zero as 𝟘, one as 𝟙}
  open F.ring use {add as ◌⊞ₖ◌, mul as ◌·ₖ◌, zero as 𝟘ₖ, one as 𝟙ₖ}

  infixl 60 ◌⊞◌
  infixl 70 ◌·◌
  infixl 60 ◌⊞ₖ◌
  infixl 70 ◌·ₖ◌
  -- what holds of 0, and of a + x p where it holds of p, holds of all polynomials
  induct : (Q : P → Type 0) → Q 𝟘 → ((a : K) (p : P) → Q p → Q (con a ⊞ x · p)) → (p : P) → Q p
  induct Q none more p = go (len p) p (omega arith)
    where
      go : (n : ℕ) (p : P) → len p ≤ n → Q p
      go zero p h = subst Q (sym (len_zero A p (omega arith))) none
      go (suc n) p h = subst Q (sym (split A p)) (more (coeff p 0) (tail A p) (go n (tail A p) (len_tail A p n h)))

  tail_con_add_x_mul : (a : K) (p : P) → tail A (con a ⊞ x · p) ≡ p
  tail_con_add_x_mul a p = A.ext _ _ (λ i. coeff_tail A _ i ∙ coeff_con_add_x_mul_suc A a p i)

  con_alone : (a : K) → con a ≡ con a ⊞ x · 𝟘
  con_alone a = sym (⊞_𝟘 R (con a)) ∙ ap (λ z. con a ⊞ z) (sym (·_𝟘 R x))

  with_zero : (p : P) → p ≡ con 𝟘ₖ ⊞ p
  with_zero p = sym (𝟘_⊞ R p) ∙ ap (λ z. z ⊞ p) (sym (con_of_zero A))

  module _ (c : K) where
    -- p(x + c)
    abbrev σ : P → P
    σ = shift A c

    shift_to_zero : (n : ℕ) (p : P) → len p ≤ 0 → shift_to A c n p ≡ 𝟘
    unfolding shift_to
    shift_to_zero zero p h = refl
    shift_to_zero (suc n) p h =
        ap₂ (λ a z. con a ⊞ (x ⊞ con c) · z) (A.len_past p 0 h) (shift_to_zero n (tail A p) (len_tail A p 0 (omega arith)))
        ∙ ap₂ ◌⊞◌ (con_of_zero A) (·_𝟘 R _)
        ∙ ⊞_𝟘 R 𝟘

    shift_to_agrees : (m n : ℕ) (p : P) → len p ≤ m → len p ≤ n → shift_to A c m p ≡ shift_to A c n p
    unfolding shift_to
    shift_to_agrees zero n p h k = sym (shift_to_zero n p h)
    shift_to_agrees (suc m) zero p h k = shift_to_zero (suc m) p k
    shift_to_agrees (suc m) (suc n) p h k =
        ap (λ z. con (coeff p 0) ⊞ (x ⊞ con c) · z) (shift_to_agrees m n (tail A p) (len_tail A p m h) (len_tail A p n k))

    pub shift_to_enough : (n : ℕ) (p : P) → len p ≤ n → shift_to A c n p ≡ σ p
    unfolding shift
    shift_to_enough n p h = shift_to_agrees n (len p) p h (omega arith)

    pub shift_split : (p : P) → σ p ≡ con (coeff p 0) ⊞ (x ⊞ con c) · σ (tail A p)
    unfolding shift_to
    shift_split p =
        sym (shift_to_enough (suc (len p)) p (omega arith))
        ∙ ap (λ z. con (coeff p 0) ⊞ (x ⊞ con c) · z) (shift_to_enough (len p) (tail A p) (len_tail A p (len p) (omega arith)))

    pub shift_con_add_x_mul : (a : K) (p : P) → σ (con a ⊞ x · p) ≡ con a ⊞ (x ⊞ con c) · σ p
    shift_con_add_x_mul a p =
        shift_split _ ∙ ap₂ (λ b z. con b ⊞ (x ⊞ con c) · σ z) (coeff_con_add_x_mul A a p) (tail_con_add_x_mul a p)

    pub shift_zero : σ 𝟘 ≡ 𝟘
    unfolding shift
    shift_zero = shift_to_zero (len 𝟘) 𝟘 (let l : len 𝟘 ≡ 0 = len_of_zero A in omega arith)

    pub shift_con : (a : K) → σ (con a) ≡ con a
    shift_con a =
        ap σ (con_alone a) ∙ shift_con_add_x_mul a 𝟘 ∙ ap (λ z. con a ⊞ (x ⊞ con c) · z) shift_zero ∙ ap (λ z. con a ⊞ z) (·_𝟘 R _) ∙ ⊞_𝟘 R (con a)

    pub shift_one : σ 𝟙 ≡ 𝟙
    shift_one = ap σ A.one_con ∙ shift_con 𝟙ₖ ∙ sym A.one_con

    pub shift_add : (p q : P) → σ (p ⊞ q) ≡ σ p ⊞ σ q
    shift_add = induct (λ p. (q : P) → σ (p ⊞ q) ≡ σ p ⊞ σ q)
        (λ q. ap σ (𝟘_⊞ R q) ∙ sym (𝟘_⊞ R (σ q)) ∙ ap (λ z. z ⊞ σ q) (sym shift_zero))
        (λ a p ih q.
        ap (λ z. σ (con a ⊞ x · p ⊞ z)) (split A q)
        ∙ ap σ (sum_of_splits R x (con a) (con (coeff q 0)) p (tail A q) ∙ ap (λ z. z ⊞ x · (p ⊞ tail A q)) (sym (con_add A a (coeff q 0))))
        ∙ shift_con_add_x_mul (a ⊞ₖ coeff q 0) (p ⊞ tail A q)
        ∙ ap₂ (λ y z. y ⊞ (x ⊞ con c) · z) (con_add A a (coeff q 0)) (ih (tail A q))
        ∙ sym (sum_of_splits R (x ⊞ con c) (con a) (con (coeff q 0)) (σ p) (σ (tail A q)))
        ∙ ap₂ ◌⊞◌ (sym (shift_con_add_x_mul a p)) (sym (shift_split q)))

    shift_x_mul : (p : P) → σ (x · p) ≡ (x ⊞ con c) · σ p
    shift_x_mul p = ap σ (with_zero (x · p)) ∙ shift_con_add_x_mul 𝟘ₖ p ∙ sym (with_zero ((x ⊞ con c) · σ p))

    pub shift_x : σ x ≡ x ⊞ con c
    shift_x = ap σ (sym (·_𝟙 R x)) ∙ shift_x_mul 𝟙 ∙ ap (λ z. (x ⊞ con c) · z) shift_one ∙ ·_𝟙 R (x ⊞ con c)

    shift_con_mul : (a : K) (p : P) → σ (con a · p) ≡ con a · σ p
    shift_con_mul a = induct (λ p. σ (con a · p) ≡ con a · σ p)
        (ap σ (·_𝟘 R (con a)) ∙ shift_zero ∙ sym (ap (λ z. con a · z) shift_zero ∙ ·_𝟘 R (con a)))
        (λ b p ih.
        ap σ (multiple_of_split R x (con a) (con b) p ∙ ap (λ z. z ⊞ x · (con a · p)) (sym (con_mul A a b)))
        ∙ shift_con_add_x_mul (a ·ₖ b) (con a · p)
        ∙ ap₂ (λ y z. y ⊞ (x ⊞ con c) · z) (con_mul A a b) ih
        ∙ sym (multiple_of_split R (x ⊞ con c) (con a) (con b) (σ p))
        ∙ ap (λ z. con a · z) (sym (shift_con_add_x_mul b p)))

    pub shift_mul : (p q : P) → σ (p · q) ≡ σ p · σ q
    shift_mul p q = induct (λ p. σ (p · q) ≡ σ p · σ q)
        (ap σ (𝟘_· R q) ∙ shift_zero ∙ sym (ap (λ z. z · σ q) shift_zero ∙ 𝟘_· R (σ q)))
        (λ a p ih.
        ap σ (product_of_split R x (con a) p q)
        ∙ shift_add (con a · q) (x · (p · q))
        ∙ ap₂ ◌⊞◌ (shift_con_mul a q) (shift_x_mul (p · q) ∙ ap (λ z. (x ⊞ con c) · z) ih)
        ∙ sym (product_of_split R (x ⊞ con c) (con a) (σ p) (σ q))
        ∙ ap (λ z. z · σ q) (sym (shift_con_add_x_mul a p)))
        p

    pub shift_shift : (p : P) → σ (σ p) ≡ p
    shift_shift = induct (λ p. σ (σ p) ≡ p)
        (ap σ shift_zero ∙ shift_zero)
        (λ a p ih.
        ap σ (shift_con_add_x_mul a p)
        ∙ shift_add (con a) ((x ⊞ con c) · σ p)
        ∙ ap₂ ◌⊞◌ (shift_con a) (shift_mul (x ⊞ con c) (σ p) ∙ ap₂ ◌·◌ (shift_add x (con c) ∙ ap₂ ◌⊞◌ shift_x (shift_con c) ∙ back_again R x (con c)) ih))

    len_shift_to : (n : ℕ) (p : P) → len (shift_to A c n p) ≤ n
    unfolding shift_to
    len_shift_to zero p = let l : len 𝟘 ≡ 0 = len_of_zero A in omega arith
    len_shift_to (suc n) p =
        let k : len (con c) ≤ 1 = len_con_le A c in
        let e : len x ≡ 2 = len_x A in
        let a : len (con (coeff p 0)) ≤ 1 = len_con_le A (coeff p 0) in
        let m : len ((x ⊞ con c) · shift_to A c n (tail A p)) ≤ 1 + n = len_mul_le A 1 n _ _ (len_add A x (con c) 2 (omega arith) (omega arith)) (len_shift_to n (tail A p)) in
        len_add A _ _ (suc n) (omega arith) (omega arith)

    len_shift_le : (p : P) → len (σ p) ≤ len p
    unfolding shift
    len_shift_le p = len_shift_to (len p) p

    pub len_shift : (p : P) → len (σ p) ≡ len p
    len_shift p =
        let h : len (σ p) ≤ len p = len_shift_le p in
        let k : len (σ (σ p)) ≤ len (σ p) = len_shift_le (σ p) in
        let e : len (σ (σ p)) ≡ len p = ap len (shift_shift p) in
        omega arith

    coeff_linear_mul : (p : P) (i : ℕ) → coeff ((x ⊞ con c) · p) i ≡ coeff (x · p) i ⊞ₖ c ·ₖ coeff p i
    coeff_linear_mul p i = ap (λ z. coeff z i) (⊞_· R x (con c) p) ∙ A.coeff_add _ _ i ∙ ap (λ z. coeff (x · p) i ⊞ₖ z) (A.coeff_con_mul c p i)

    pub coeff_shift_zero : (p : P) → coeff (σ p) 0 ≡ coeff p 0 ⊞ₖ c ·ₖ coeff (σ (tail A p)) 0
    coeff_shift_zero p =
        ap (λ z. coeff z 0) (shift_split p)
        ∙ A.coeff_add _ _ 0
        ∙ ap₂ ◌⊞ₖ◌ (A.coeff_con _) (coeff_linear_mul _ 0 ∙ ap (λ z. z ⊞ₖ c ·ₖ coeff (σ (tail A p)) 0) (A.coeff_x_mul _) ∙ 𝟘_⊞ F.ring _)

    pub coeff_shift_suc : (p : P) (i : ℕ) → coeff (σ p) (suc i) ≡ coeff (σ (tail A p)) i ⊞ₖ c ·ₖ coeff (σ (tail A p)) (suc i)
    coeff_shift_suc p i =
        ap (λ z. coeff z (suc i)) (shift_split p)
        ∙ A.coeff_add _ _ (suc i)
        ∙ ap₂ ◌⊞ₖ◌ (A.coeff_con_suc _ i) (coeff_linear_mul _ (suc i) ∙ ap (λ z. z ⊞ₖ c ·ₖ coeff (σ (tail A p)) (suc i)) (A.coeff_x_mul_suc _ i))
        ∙ 𝟘_⊞ F.ring _

    shift_past : (p : P) (i : ℕ) → len p ≤ i → coeff (σ p) i ≡ 𝟘ₖ
    shift_past p i h = A.len_past (σ p) i (let l : len (σ p) ≡ len p = len_shift p in omega arith)

    pub coeff_shift_top : (n : ℕ) (p : P) → len p ≤ suc n → coeff (σ p) n ≡ coeff p n
    coeff_shift_top zero p h =
        coeff_shift_zero p ∙ ap (λ z. coeff p 0 ⊞ₖ c ·ₖ z) (shift_past (tail A p) 0 (len_tail A p 0 h)) ∙ vanishes F.ring _ _
    coeff_shift_top (suc n) p h =
        coeff_shift_suc p n
        ∙ ap₂ (λ y z. y ⊞ₖ c ·ₖ z) (coeff_shift_top n (tail A p) (len_tail A p (suc n) h)) (shift_past (tail A p) (suc n) (len_tail A p (suc n) h))
        ∙ vanishes F.ring _ _
        ∙ coeff_tail A p n

    pub lead_shift : (p : P) → lead A (σ p) ≡ lead A p
    lead_shift p = go (len p) refl
      where
        go : (n : ℕ) → len p ≡ n → lead A (σ p) ≡ lead A p
        go zero e = ap (lead A) (ap σ (len_zero A p e) ∙ shift_zero ∙ sym (len_zero A p e))
        go (suc n) e = lead_is A (σ p) n (len_shift p ∙ e) ∙ coeff_shift_top n p (omega arith) ∙ sym (lead_is A p n e)

  pub shift_none : (p : P) → shift A 𝟘ₖ p ≡ p
  shift_none = induct (λ p. shift A 𝟘ₖ p ≡ p)
      (shift_zero 𝟘ₖ)
      (λ a p ih. shift_con_add_x_mul 𝟘ₖ a p ∙ ap₂ (λ y z. con a ⊞ y · z) (ap (λ z. x ⊞ z) (con_of_zero A) ∙ ⊞_𝟘 R x) ih)
