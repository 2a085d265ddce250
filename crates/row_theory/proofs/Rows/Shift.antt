-- Powers of x: the coefficients of x^n and of x^n p, products of powers, and what a store adds to a row's polynomial.
use Prim.Native.Nat.{ℕ, zero, suc, ◌+◌, ◌≤◌, ◌<◌}
use mathlib.Core.{Path.◌≡◌, Path.refl, Path.sym, Path.◌∙◌, Path.ap, Path.ap₂, List.List}
use native.Mathlib.{Omega.arith, Decide.ℕ_discrete}
use lib.{ListN.length, ListN.get_or, ListN.set, Seq.get_or-set_same, Seq.get_or-set_other}
use Rattle.char2_algebra.proofs.{Ring.⊞_𝟘, Ring.𝟘_⊞, Ring.·_𝟙, Ring.𝟙_·, Ring.·_𝟘, Ring.·_assoc, Degree.coeff_one, Degree.coeff_one_suc}
use Rattle.row_theory.specs.{Field.K, Field.F, Field.Poly, Field.𝔸, Field.el, Field.poly, internal.Elements.x_power}
use Rattle.row_theory.proofs.{Rows.Elements.el_zero, Rows.Coefficients.coeff_poly, Rows.Coefficients.poly_is}

module _ (d : ℕ) where
  -- the coefficients of x^n p
  pub coeff_shift : (n i : ℕ) (p : Poly d) → (𝔸 d).coeff ((𝔸 d).ring.mul (x_power d n) p) (n + i) ≡ (𝔸 d).coeff p i
  unfolding x_power
  coeff_shift zero i p = ap₂ (𝔸 d).coeff (𝟙_· (𝔸 d).ring p) (omega arith)
  coeff_shift (suc n) i p =
      ap₂ (𝔸 d).coeff (·_assoc (𝔸 d).ring (𝔸 d).x (x_power d n) p) (omega arith) ∙ (𝔸 d).coeff_x_mul_suc ((𝔸 d).ring.mul (x_power d n) p) (n + i) ∙ coeff_shift n i p

  pub coeff_shift_below : (n i : ℕ) (p : Poly d) → i < n → (𝔸 d).coeff ((𝔸 d).ring.mul (x_power d n) p) i ≡ (F d).ring.zero
  unfolding x_power
  coeff_shift_below zero i p h = absurd (omega arith)
  coeff_shift_below (suc n) zero p h = ap (λ z. (𝔸 d).coeff z 0) (·_assoc (𝔸 d).ring (𝔸 d).x (x_power d n) p) ∙ (𝔸 d).coeff_x_mul ((𝔸 d).ring.mul (x_power d n) p)
  coeff_shift_below (suc n) (suc i) p h =
      ap (λ z. (𝔸 d).coeff z (suc i)) (·_assoc (𝔸 d).ring (𝔸 d).x (x_power d n) p) ∙ (𝔸 d).coeff_x_mul_suc ((𝔸 d).ring.mul (x_power d n) p) i ∙ coeff_shift_below n i p (omega arith)

  -- at and past n + m, where p has no coefficient at and past m
  pub coeff_shift_past : (n m i : ℕ) (p : Poly d) → (𝔸 d).len p ≤ m → n + m ≤ i → (𝔸 d).coeff ((𝔸 d).ring.mul (x_power d n) p) i ≡ (F d).ring.zero
  unfolding x_power
  coeff_shift_past zero m i p h k = ap (λ z. (𝔸 d).coeff z i) (𝟙_· (𝔸 d).ring p) ∙ (𝔸 d).len_past p i (omega arith)
  coeff_shift_past (suc n) m zero p h k = absurd (omega arith)
  coeff_shift_past (suc n) m (suc i) p h k =
      ap (λ z. (𝔸 d).coeff z (suc i)) (·_assoc (𝔸 d).ring (𝔸 d).x (x_power d n) p) ∙ (𝔸 d).coeff_x_mul_suc ((𝔸 d).ring.mul (x_power d n) p) i ∙ coeff_shift_past n m i p h (omega arith)

  -- the coefficients of x^n
  pub x_power_at : (n : ℕ) → (𝔸 d).coeff (x_power d n) n ≡ (F d).ring.one
  unfolding x_power
  x_power_at zero = coeff_one (𝔸 d)
  x_power_at (suc n) = (𝔸 d).coeff_x_mul_suc (x_power d n) n ∙ x_power_at n

  pub x_power_off : (n i : ℕ) → ¬ (i ≡ n) → (𝔸 d).coeff (x_power d n) i ≡ (F d).ring.zero
  unfolding x_power
  x_power_off zero zero h = absurd (h refl)
  x_power_off zero (suc i) h = coeff_one_suc (𝔸 d) i
  x_power_off (suc n) zero h = (𝔸 d).coeff_x_mul (x_power d n)
  x_power_off (suc n) (suc i) h = (𝔸 d).coeff_x_mul_suc (x_power d n) i ∙ x_power_off n i (λ e. h (ap suc e))

  pub x_power_add : (m n : ℕ) → x_power d (m + n) ≡ (𝔸 d).ring.mul (x_power d m) (x_power d n)
  unfolding x_power
  x_power_add zero n = let e : 0 + n ≡ n = omega arith in ap (x_power d) e ∙ sym (𝟙_· (𝔸 d).ring (x_power d n))
  x_power_add (suc m) n =
      let e : suc m + n ≡ suc (m + n) = omega arith in
      ap (x_power d) e ∙ ap ((𝔸 d).ring.mul (𝔸 d).x) (x_power_add m n) ∙ sym (·_assoc (𝔸 d).ring (𝔸 d).x (x_power d m) (x_power d n))

  -- the coefficients of c x^n
  pub monomial_at : (a : K d) (n : ℕ) → (𝔸 d).coeff ((𝔸 d).ring.mul ((𝔸 d).con a) (x_power d n)) n ≡ a
  monomial_at a n = (𝔸 d).coeff_con_mul a (x_power d n) n ∙ ap ((F d).ring.mul a) (x_power_at n) ∙ ·_𝟙 (F d).ring a

  pub monomial_off : (a : K d) (n i : ℕ) → ¬ (i ≡ n) → (𝔸 d).coeff ((𝔸 d).ring.mul ((𝔸 d).con a) (x_power d n)) i ≡ (F d).ring.zero
  monomial_off a n i h = (𝔸 d).coeff_con_mul a (x_power d n) i ∙ ap ((F d).ring.mul a) (x_power_off n i h) ∙ ·_𝟘 (F d).ring a

  -- a store adds a multiple of a power of x
  pub poly_set :
      (r : List ℕ) (i v : ℕ) (a : K d)
      → i < length r
      → el d v ≡ (F d).ring.add (el d (get_or r i 0)) a
      → poly d (set r i v) ≡ (𝔸 d).ring.add (poly d r) ((𝔸 d).ring.mul ((𝔸 d).con a) (x_power d i))
  poly_set r i v a h e = poly_is d (set r i v) _ (λ j. go j (ℕ_discrete j i) ∙ sym ((𝔸 d).coeff_add _ _ j))
    where
      go : (j : ℕ) → Dec (j ≡ i) → el d (get_or (set r i v) j 0) ≡ (F d).ring.add ((𝔸 d).coeff (poly d r) j) ((𝔸 d).coeff ((𝔸 d).ring.mul ((𝔸 d).con a) (x_power d i)) j)
      go j (yes w) = rw w (ap (el d) (get_or-set_same r i v 0 h) ∙ e ∙ ap₂ (F d).ring.add (sym (coeff_poly d r i)) (sym (monomial_at a i)))
      go j (no w) = ap (el d) (get_or-set_other r i j v 0 w) ∙ sym (coeff_poly d r j) ∙ sym (⊞_𝟘 (F d).ring _) ∙ ap ((F d).ring.add ((𝔸 d).coeff (poly d r) j)) (sym (monomial_off a i j w))

  -- a number stored where 0 was adds its multiple of a power of x
  pub poly_set_zero :
      (r : List ℕ) (i v : ℕ)
      → i < length r
      → get_or r i 0 ≡ 0
      → poly d (set r i v) ≡ (𝔸 d).ring.add (poly d r) ((𝔸 d).ring.mul ((𝔸 d).con (el d v)) (x_power d i))
  poly_set_zero r i v h e = poly_set r i v (el d v) h (sym (ap (λ z. (F d).ring.add z (el d v)) (ap (el d) e ∙ el_zero d) ∙ 𝟘_⊞ (F d).ring (el d v)))

  -- 0 stored in place of a number takes away its multiple of a power of x
  pub poly_strike :
      (r : List ℕ) (i : ℕ)
      → i < length r
      → poly d (set r i 0) ≡ (𝔸 d).ring.add (poly d r) ((𝔸 d).ring.mul ((𝔸 d).con (el d (get_or r i 0))) (x_power d i))
  poly_strike r i h = poly_set r i 0 (el d (get_or r i 0)) h (el_zero d ∙ sym ((F d).ring.add_self (el d (get_or r i 0))))
