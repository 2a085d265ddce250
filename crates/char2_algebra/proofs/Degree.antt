-- Coefficients and length (degree plus one) of 0, of sums, of constants, of x and of multiples of x.
-- `len_bound`: the length is at most n if the coefficients from n on are zero.
-- `len_zero`, `len_nonzero`, `nonzero_of_len`: a polynomial is 0 exactly if its length is 0.
-- `len_is`: the highest coefficient that is not zero determines the length.
-- `len_add`, `len_add_less`: the length of a sum.
-- `len_con`, `con_of_len`: the polynomials of length at most 1 are the constants.
-- `con_injective`, `con_of_zero`, `con_one`, `con_add`, `con_mul`: the constants are the field's elements.
-- `len_x_mul`: the length of a multiple of x.
-- `split`: a polynomial is its lowest coefficient plus x times the rest, its tail.
-- `coeff_tail`, `len_tail`: coefficients and length of the tail.
use Prim.Native.Nat.{ℕ, zero, suc, ◌≤◌, ◌<◌}
use mathlib.Core.Path.{◌≡◌, refl, sym, ◌∙◌, ap, ap₂}
use native.Mathlib.{Omega.arith, Decide.dec_le}
use Rattle.field_laws.specs.{Field.Field2}
use Rattle.char2_algebra.specs.{Polynomials.Polynomials, Square.tail}
use Rattle.char2_algebra.proofs.Ring.{⊞_comm, ⊞_𝟘, 𝟘_⊞, ⊞_self, ·_comm, ·_𝟙, ·_𝟘}

module _ {K P : Type 0} {F : Field2 K} (A : Polynomials F P) where
  open A use {ring as R, coeff, con, x, len, quot, rem}
  open A.ring use {add as ◌⊞◌, mul as ◌·◌, zero as 𝟘, one as 𝟙}
  open F.ring use {add as ◌⊞ₖ◌, mul as ◌·ₖ◌, zero as 𝟘ₖ, one as 𝟙ₖ}

  infixl 60 ◌⊞◌
  infixl 70 ◌·◌
  infixl 60 ◌⊞ₖ◌
  infixl 70 ◌·ₖ◌
  pub coeff_zero : (i : ℕ) → coeff 𝟘 i ≡ 𝟘ₖ
  coeff_zero i = ap (λ z. coeff z i) (sym (⊞_self R 𝟘)) ∙ A.coeff_add 𝟘 𝟘 i ∙ ⊞_self F.ring (coeff 𝟘 i)

  pub len_bound : (p : P) (n : ℕ) → ((i : ℕ) → n ≤ i → coeff p i ≡ 𝟘ₖ) → len p ≤ n
  len_bound p n h = go (len p) refl
    where
      go : (k : ℕ) → len p ≡ k → len p ≤ n
      go zero e = omega arith
      go (suc k) e = elim (dec_le (suc k) n) [ yes l ↦ omega arith | no m ↦ absurd (A.len_top p k e (h k (omega arith))) ]

  pub len_zero : (p : P) → len p ≡ 0 → p ≡ 𝟘
  len_zero p e = A.ext p 𝟘 (λ i. A.len_past p i (omega arith) ∙ sym (coeff_zero i))

  pub len_of_zero : len 𝟘 ≡ 0
  len_of_zero = let h : len 𝟘 ≤ 0 = len_bound 𝟘 0 (λ i _. coeff_zero i) in omega arith

  pub len_nonzero : (p : P) → ¬ (p ≡ 𝟘) → 0 < len p
  len_nonzero p h = elim (dec_le 1 (len p)) [ yes l ↦ l | no m ↦ absurd (h (len_zero p (omega arith))) ]

  pub nonzero_of_len : (p : P) → 0 < len p → ¬ (p ≡ 𝟘)
  nonzero_of_len p h e = let k : len p ≡ 0 = ap len e ∙ len_of_zero in omega arith

  pub len_is : (p : P) (n : ℕ) → len p ≤ suc n → ¬ (coeff p n ≡ 𝟘ₖ) → len p ≡ suc n
  len_is p n h t = elim (dec_le (len p) n) [ yes l ↦ absurd (t (A.len_past p n l)) | no m ↦ omega arith ]

  -- sums
  pub len_add : (p q : P) (n : ℕ) → len p ≤ n → len q ≤ n → len (p ⊞ q) ≤ n
  len_add p q n h k =
      len_bound (p ⊞ q) n (λ i l. A.coeff_add p q i ∙ ap₂ ◌⊞ₖ◌ (A.len_past p i (omega arith)) (A.len_past q i (omega arith)) ∙ ⊞_self F.ring 𝟘ₖ)

  pub len_add_less : (p q : P) → len p < len q → len (p ⊞ q) ≡ len q
  len_add_less p q h = go (len q) refl
    where
      go : (n : ℕ) → len q ≡ n → len (p ⊞ q) ≡ len q
      go zero e = omega arith
      go (suc n) e =
          len_is
          (p ⊞ q)
          n
          (len_add p q (suc n) (omega arith) (omega arith))
          (λ z. A.len_top q n e (sym (𝟘_⊞ F.ring _) ∙ ap (λ a. a ⊞ₖ coeff q n) (sym (A.len_past p n (omega arith))) ∙ sym (A.coeff_add p q n) ∙ z))
          ∙ sym e

  -- constants
  pub len_con_le : (a : K) → len (con a) ≤ 1
  len_con_le a = len_bound (con a) 1 go
    where
      go : (i : ℕ) → 1 ≤ i → coeff (con a) i ≡ 𝟘ₖ
      go zero h = absurd (omega arith)
      go (suc i) h = A.coeff_con_suc a i

  pub len_con : (a : K) → ¬ (a ≡ 𝟘ₖ) → len (con a) ≡ 1
  len_con a h = len_is (con a) 0 (len_con_le a) (λ e. h (sym (A.coeff_con a) ∙ e))

  pub con_of_len : (p : P) → len p ≤ 1 → p ≡ con (coeff p 0)
  con_of_len p h = A.ext p (con (coeff p 0)) go
    where
      go : (i : ℕ) → coeff p i ≡ coeff (con (coeff p 0)) i
      go zero = sym (A.coeff_con (coeff p 0))
      go (suc i) = A.len_past p (suc i) (omega arith) ∙ sym (A.coeff_con_suc (coeff p 0) i)

  pub con_injective : (a b : K) → con a ≡ con b → a ≡ b
  con_injective a b e = sym (A.coeff_con a) ∙ ap (λ p. coeff p 0) e ∙ A.coeff_con b

  pub con_of_zero : con 𝟘ₖ ≡ 𝟘
  con_of_zero = A.ext (con 𝟘ₖ) 𝟘 go
    where
      go : (i : ℕ) → coeff (con 𝟘ₖ) i ≡ coeff 𝟘 i
      go zero = A.coeff_con 𝟘ₖ ∙ sym (coeff_zero 0)
      go (suc i) = A.coeff_con_suc 𝟘ₖ i ∙ sym (coeff_zero (suc i))

  pub con_one : con 𝟙ₖ ≡ 𝟙
  con_one = sym A.one_con

  pub con_add : (a b : K) → con (a ⊞ₖ b) ≡ con a ⊞ con b
  con_add a b = A.ext (con (a ⊞ₖ b)) (con a ⊞ con b) go
    where
      go : (i : ℕ) → coeff (con (a ⊞ₖ b)) i ≡ coeff (con a ⊞ con b) i
      go zero = A.coeff_con _ ∙ sym (A.coeff_add _ _ 0 ∙ ap₂ ◌⊞ₖ◌ (A.coeff_con a) (A.coeff_con b))
      go (suc i) = A.coeff_con_suc _ i ∙ sym (A.coeff_add _ _ (suc i) ∙ ap₂ ◌⊞ₖ◌ (A.coeff_con_suc a i) (A.coeff_con_suc b i) ∙ ⊞_𝟘 F.ring 𝟘ₖ)

  pub con_mul : (a b : K) → con (a ·ₖ b) ≡ con a · con b
  con_mul a b = A.ext (con (a ·ₖ b)) (con a · con b) go
    where
      go : (i : ℕ) → coeff (con (a ·ₖ b)) i ≡ coeff (con a · con b) i
      go zero = A.coeff_con (a ·ₖ b) ∙ sym (A.coeff_con_mul a (con b) 0 ∙ ap (λ z. a ·ₖ z) (A.coeff_con b))
      go (suc i) = A.coeff_con_suc (a ·ₖ b) i ∙ sym (A.coeff_con_mul a (con b) (suc i) ∙ ap (λ z. a ·ₖ z) (A.coeff_con_suc b i) ∙ ·_𝟘 F.ring a)

  pub con_nonzero : (a : K) → ¬ (a ≡ 𝟘ₖ) → ¬ (con a ≡ 𝟘)
  con_nonzero a h e = h (con_injective a 𝟘ₖ (e ∙ sym con_of_zero))

  pub len_one : len 𝟙 ≡ 1
  len_one = ap len A.one_con ∙ len_con 𝟙ₖ F.one≢zero

  pub one_nonzero : ¬ (𝟙 ≡ 𝟘)
  one_nonzero = nonzero_of_len 𝟙 (let h : len 𝟙 ≡ 1 = len_one in omega arith)

  pub coeff_one : coeff 𝟙 0 ≡ 𝟙ₖ
  coeff_one = ap (λ p. coeff p 0) A.one_con ∙ A.coeff_con 𝟙ₖ

  pub coeff_one_suc : (i : ℕ) → coeff 𝟙 (suc i) ≡ 𝟘ₖ
  coeff_one_suc i = ap (λ p. coeff p (suc i)) A.one_con ∙ A.coeff_con_suc 𝟙ₖ i

  pub len_x_mul_le : (p : P) (n : ℕ) → len p ≤ n → len (x · p) ≤ suc n
  len_x_mul_le p n h = len_bound (x · p) (suc n) go
    where
      go : (i : ℕ) → suc n ≤ i → coeff (x · p) i ≡ 𝟘ₖ
      go zero l = absurd (omega arith)
      go (suc i) l = A.coeff_x_mul_suc p i ∙ A.len_past p i (omega arith)

  pub len_x_mul : (p : P) → ¬ (p ≡ 𝟘) → len (x · p) ≡ suc (len p)
  len_x_mul p h = go (len p) refl
    where
      go : (n : ℕ) → len p ≡ n → len (x · p) ≡ suc (len p)
      go zero e = absurd (h (len_zero p e))
      go (suc n) e = len_is (x · p) (suc n) (len_x_mul_le p (suc n) (omega arith)) (λ z. A.len_top p n e (sym (A.coeff_x_mul_suc p n) ∙ z)) ∙ ap suc (sym e)

  pub len_x : len x ≡ 2
  len_x = ap len (sym (·_𝟙 R x)) ∙ len_x_mul 𝟙 one_nonzero ∙ ap suc len_one

  pub x_nonzero : ¬ (x ≡ 𝟘)
  x_nonzero = nonzero_of_len x (let h : len x ≡ 2 = len_x in omega arith)

  -- whether a polynomial is 0 is decided by its length
  unfoldable pub is_zero : (p : P) → Dec (p ≡ 𝟘)
  is_zero p = go (len p) refl
    where
      go : (n : ℕ) → len p ≡ n → Dec (p ≡ 𝟘)
      go zero e = yes (len_zero p e)
      go (suc n) e = no (nonzero_of_len p (omega arith))

  -- the tail: the polynomial without its lowest coefficient, divided by x
  rem_x : (p : P) → rem p x ≡ con (coeff p 0)
  rem_x p =
      con_of_len (rem p x) (let h : len (rem p x) < len x = A.rem_len p x x_nonzero in let e : len x ≡ 2 = len_x in omega arith)
      ∙ ap con (sym (𝟘_⊞ F.ring _) ∙ ap (λ z. z ⊞ₖ coeff (rem p x) 0) (sym (A.coeff_x_mul (quot p x)) ∙ ap (λ z. coeff z 0) (·_comm R x (quot p x))) ∙ sym (A.coeff_add _ _ 0) ∙ ap (λ z. coeff z 0) (sym (A.division p x x_nonzero)))

  pub split : (p : P) → p ≡ con (coeff p 0) ⊞ x · tail A p
  unfolding tail
  split p = A.division p x x_nonzero ∙ ap₂ ◌⊞◌ (·_comm R (quot p x) x) (rem_x p) ∙ ⊞_comm R (x · quot p x) (con (coeff p 0))

  pub coeff_con_add_x_mul : (a : K) (p : P) → coeff (con a ⊞ x · p) 0 ≡ a
  coeff_con_add_x_mul a p = A.coeff_add _ _ 0 ∙ ap₂ ◌⊞ₖ◌ (A.coeff_con a) (A.coeff_x_mul p) ∙ ⊞_𝟘 F.ring a

  pub coeff_con_add_x_mul_suc : (a : K) (p : P) (i : ℕ) → coeff (con a ⊞ x · p) (suc i) ≡ coeff p i
  coeff_con_add_x_mul_suc a p i = A.coeff_add _ _ (suc i) ∙ ap₂ ◌⊞ₖ◌ (A.coeff_con_suc a i) (A.coeff_x_mul_suc p i) ∙ 𝟘_⊞ F.ring (coeff p i)

  pub coeff_tail : (p : P) (i : ℕ) → coeff (tail A p) i ≡ coeff p (suc i)
  coeff_tail p i = sym (coeff_con_add_x_mul_suc (coeff p 0) (tail A p) i) ∙ ap (λ z. coeff z (suc i)) (sym (split p))

  pub len_tail : (p : P) (n : ℕ) → len p ≤ suc n → len (tail A p) ≤ n
  len_tail p n h = len_bound (tail A p) n (λ i l. coeff_tail p i ∙ A.len_past p (suc i) (omega arith))
