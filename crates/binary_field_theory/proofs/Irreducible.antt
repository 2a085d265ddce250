-- Both moduli are irreducible polynomials over GF(2).
-- `degree`: a polynomial other than 0 has a degree.
-- `degree_lt`: a polynomial of degree i is a number below 2^(i+1).
-- `degree_le`: it is at least 2^i.
-- `clmul_degree`: the degree of a product is the sum of the degrees.
-- `irreducible`: if a product of two polynomials is the modulus, one of them is 1.
use Prim.Native.Nat.{ℕ, zero, suc, ◌+◌, ◌*◌, ◌/◌, ◌%◌, ◌^◌, ◌≤◌, ◌<◌}
use mathlib.Core.{Path.◌≡◌, Path.refl, Path.sym, Path.ap, Path.ap₂, Path.◌∙◌, Logic.◌⊎◌, Logic.inl, Logic.inr}
use native.Mathlib.Nat.{div-one, zero-add, suc-add, zero-mul, one-mul, pow-succ', div-div-eq-div-mul, div-lt_iff_lt-mul, le-div_iff_mul-le, div-eq_of_lt}
use native.Mathlib.{Decide.ℕ_discrete, Decide.dec_lt, Omega.arith}
use lib.{Arith.bin_ind, Pow.pow_pos, Pow.pow_mono}
use Rattle.binary_field_theory.specs.{Carryless.◌⊕◌, Carryless.clmul, Carryless.remainder, Element.Accepted, Element.low, Element.modulus, Element.product}
use Rattle.binary_field_theory.proofs.{Sums.bit_cases, Sums.bit_lt, Sums.zero_sum, Sums.sum_half, Sums.sum_shr, Clmul.clmul_step, Clmul.zero_clmul, Clmul.clmul_zero, Clmul.one_clmul, Remainder.remainder_modulus, Certificate.Certified, Certificate.certified, Inverses.product_cancel}

-- n has degree i
abbrev pub Degree : ℕ → ℕ → Type 0
Degree i n = n / 2 ^ i ≡ 1

pub degree_lt : (i n : ℕ) → Degree i n → n < 2 ^ suc i
degree_lt i n e = let g : n < 2 * 2 ^ i = (div-lt_iff_lt-mul (pow_pos i)).0 (rw e (omega arith)) in omega arith

pub degree_le : (i n : ℕ) → Degree i n → 2 ^ i ≤ n
degree_le i n e = let g : 1 * 2 ^ i ≤ n = (le-div_iff_mul-le (pow_pos i)).0 (rw e (omega arith)) in omega arith

shr_suc : (n i : ℕ) → n / 2 ^ suc i ≡ n / 2 / 2 ^ i
shr_suc n i = ap (λ x. n / x) (pow-succ' 2 i) ∙ sym (div-div-eq-div-mul n 2 (2 ^ i))

pub degree : (n : ℕ) → ¬ (n ≡ 0) → (i : ℕ) × Degree i n
degree = bin_ind (λ n. ¬ (n ≡ 0) → (i : ℕ) × Degree i n) (λ ne. absurd (ne refl)) (λ n ih ne. next n ih ne (ℕ_discrete (n / 2) 0))
  where
    next : (n : ℕ) → (¬ (n / 2 ≡ 0) → (i : ℕ) × Degree i (n / 2)) → ¬ (n ≡ 0) → Dec (n / 2 ≡ 0) → (i : ℕ) × Degree i n
    next n ih ne (yes z) = (0, div-one n ∙ omega arith)
    next n ih ne (no g) = let r = ih g in (suc r.0, shr_suc n r.0 ∙ r.1)

pub clmul_degree : (i j p q : ℕ) → Degree i p → Degree j q → Degree (i + j) (clmul p q)
clmul_degree zero j p q hp hq =
    rw (zero-add, sym (div-one p) ∙ hp, one_clmul) hq
clmul_degree (suc i) j p q hp hq =
    ap (λ k. clmul p q / 2 ^ k) (suc-add i j) ∙ shr_suc (clmul p q) (i + j) ∙ ap (λ x. x / 2 ^ (i + j)) half
    ∙ sum_shr (p % 2 * q / 2) (clmul (p / 2) q) (i + j)
    ∙ ap₂ ◌⊕◌ (div-eq_of_lt (small (p % 2) (bit_lt p))) (clmul_degree i j (p / 2) q (sym (shr_suc p i) ∙ hp) hq)
    ∙ zero_sum 1
  where
    half : clmul p q / 2 ≡ (p % 2 * q / 2) ⊕ clmul (p / 2) q
    half =
        let e : 2 * clmul (p / 2) q / 2 ≡ clmul (p / 2) q = omega arith in
        ap (λ x. x / 2) (clmul_step p q) ∙ sum_half (p % 2 * q) (2 * clmul (p / 2) q) ∙ ap (λ x. (p % 2 * q / 2) ⊕ x) e

    small : (x : ℕ) → x < 2 → x * q / 2 < 2 ^ (i + j)
    small =
        let le : 2 ^ j ≤ 2 ^ (i + j) = pow_mono (omega arith) in
        bit_cases (λ x. x * q / 2 < 2 ^ (i + j)) (rw zero-mul (pow_pos (i + j)))
        (rw one-mul (omega (arith, degree_lt j q hq)))

-- two factors of the modulus, neither of them 1, have degrees below d: as elements their product is 0
module _ (d : ℕ) (c : Certified d) (p q : ℕ) (e : clmul p q ≡ modulus d) where
  modulus_nonzero : ¬ (modulus d ≡ 0)
  unfolding modulus
  modulus_nonzero z = omega (arith, pow_pos d)

  left_nonzero : ¬ (p ≡ 0)
  left_nonzero z = modulus_nonzero (sym e ∙ ap (λ x. clmul x q) z ∙ zero_clmul q)

  right_nonzero : ¬ (q ≡ 0)
  right_nonzero z = modulus_nonzero (sym e ∙ ap (clmul p) z ∙ clmul_zero p)

  i : ℕ
  i = (degree p left_nonzero).0

  j : ℕ
  j = (degree q right_nonzero).0

  degrees_le : i + j ≤ d
  unfolding i j modulus
  degrees_le = within (dec_lt d (i + j))
    where
      top : 2 ^ (i + j) ≤ 2 ^ d + low d
      top = rw e at (degree_le (i + j) (clmul p q) (clmul_degree i j p q (degree p left_nonzero).1 (degree q right_nonzero).1))

      within : Dec (d < i + j) → i + j ≤ d
      within (yes g) = let le : 2 ^ suc d ≤ 2 ^ (i + j) = pow_mono g in absurd (omega (arith, c.fits, top))
      within (no g) = omega arith

  -- a factor other than 1 has a degree other than 0
  degree_pos : (n k : ℕ) → Degree k n → ¬ (n ≡ 1) → 0 < k
  degree_pos n zero g ne = absurd (ne (sym (div-one n) ∙ g))
  degree_pos n (suc k) g ne = omega arith

  factors_absurd : ¬ (p ≡ 1) → ¬ (q ≡ 1) → ⊥
  unfolding i j product modulus
  factors_absurd f g =
      let hi : 0 < i = degree_pos p i (degree p left_nonzero).1 f in
      let hj : 0 < j = degree_pos q j (degree q right_nonzero).1 g in
      let li : 2 ^ suc i ≤ 2 ^ d = pow_mono (omega (arith, degrees_le)) in
      let lj : 2 ^ suc j ≤ 2 ^ d = pow_mono (omega (arith, degrees_le)) in
      right_nonzero
      (product_cancel d c p q (omega (arith, degree_lt i p (degree p left_nonzero).1))
      (omega (arith, degree_lt j q (degree q right_nonzero).1))
      (ap (remainder d (low d)) e ∙ remainder_modulus d (low d) c.fits) left_nonzero)

pub irreducible : (d : ℕ) → Accepted d → (p q : ℕ) → clmul p q ≡ modulus d → (p ≡ 1) ⊎ (q ≡ 1)
irreducible d ok p q e = factor (ℕ_discrete p 1) (ℕ_discrete q 1)
  where
    factor : Dec (p ≡ 1) → Dec (q ≡ 1) → (p ≡ 1) ⊎ (q ≡ 1)
    factor (yes f) g = inl f
    factor (no f) (yes g) = inr g
    factor (no f) (no g) = absurd (factors_absurd d (certified d ok) p q e f g)
