-- Additive maps on polynomials over GF(2).
-- `basis`: two additive maps that agree on t^0 .. t^(d-1) agree below 2^d.
-- `same_at`: the test `same` shows that two maps agree there.
-- `combine_additive`: the map with given values at t^0, t^1, .. is additive.
-- `combine_drop`, `combine_at`: its values at a shifted number and at a power of t.
use Prim.Native.Nat.{ℕ, zero, suc, ◌*◌, ◌/◌, ◌%◌, ◌^◌, ◌<◌}
use mathlib.Core.{Path.◌≡◌, Path.refl, Path.sym, Path.ap, Path.ap₂, Path.subst, Path.◌∙◌, Bool.Bool, Bool.true, Bool.false, Bool.◌&&◌, List.List, List.[], List.◌∷◌}
use native.Mathlib.{Nat.zero-mul, Nat.one-mul, Nat.mul-one, Nat.pow-suc, Nat.mod-lt, Nat.le_refl, Nat.div-lt_iff_lt-mul, Decide.dec_lt, Omega.arith}
use lib.{Arith.lt-one, Dec.T, Dec.eqb, Dec.eqb→eq, ListN.get_or, ListN.drop, Pow.pow_pos}
use Rattle.binary_field_theory.specs.Carryless.{◌⊕◌}
use Rattle.binary_field_theory.proofs.Sums.{bit_cases, bit_lt, sum_self, sum_zero, zero_sum, sum_half, sum_odd, sum_split, sum_middle, bit_sum_mul}

-- f of a sum is the sum of the values of f
abbrev pub Additive : (ℕ → ℕ) → Type 0
Additive f = (a b : ℕ) → f (a ⊕ b) ≡ f a ⊕ f b

pub additive_zero : (f : ℕ → ℕ) → Additive f → f 0 ≡ 0
additive_zero f hf = ap f (sym (sum_self 0)) ∙ hf 0 0 ∙ sum_self (f 0)

pub basis : (f g : ℕ → ℕ) → Additive f → Additive g → (d : ℕ) → ((i : ℕ) → i < d → f (2 ^ i) ≡ g (2 ^ i))
    → (a : ℕ) → a < 2 ^ d → f a ≡ g a
basis f g hf hg zero e a ha = rw (lt-one ha, additive_zero f hf, additive_zero g hg)
basis f g hf hg (suc d) e a ha =
    ap f (sum_split a d) ∙ hf (a / 2 ^ d * 2 ^ d) (a % 2 ^ d)
    ∙ ap₂ ◌⊕◌ (top (a / 2 ^ d) ((div-lt_iff_lt-mul (pow_pos d)).1 (omega arith)))
    (basis f g hf hg d (λ i hi. e i (omega arith)) (a % 2 ^ d) (mod-lt a (pow_pos d)))
    ∙ sym (ap g (sum_split a d) ∙ hg (a / 2 ^ d * 2 ^ d) (a % 2 ^ d))
  where
    top : (x : ℕ) → x < 2 → f (x * 2 ^ d) ≡ g (x * 2 ^ d)
    top = bit_cases (λ x. f (x * 2 ^ d) ≡ g (x * 2 ^ d))
        (rw (zero-mul, additive_zero f hf, additive_zero g hg)) (rw one-mul (e d (le_refl (suc d))))

pub both : (x y : Bool) → T (x && y) → T x × T y
both true y t = (tt, t)
both false y t = absurd t

-- a computed test that two maps agree on t^0 .. t^(d-1)
unfoldable pub same : (ℕ → ℕ) → (ℕ → ℕ) → ℕ → Bool
same f g zero = true
same f g (suc k) = eqb (f (2 ^ k)) (g (2 ^ k)) && same f g k

pub same_at : (f g : ℕ → ℕ) (k : ℕ) → T (same f g k) → (i : ℕ) → i < k → f (2 ^ i) ≡ g (2 ^ i)
unfolding same
same_at f g zero t i h = absurd (omega arith)
same_at f g (suc k) t i h = at (both (eqb (f (2 ^ k)) (g (2 ^ k))) (same f g k) t) (same_at f g k) (dec_lt i k)
  where
    at : T (eqb (f (2 ^ k)) (g (2 ^ k))) × T (same f g k)
        → (T (same f g k) → (j : ℕ) → j < k → f (2 ^ j) ≡ g (2 ^ j)) → Dec (i < k) → f (2 ^ i) ≡ g (2 ^ i)
    at p rec (yes l) = rec p.1 i l
    at p rec (no l) = let e : k ≡ i = omega arith in subst (λ (j : ℕ). f (2 ^ j) ≡ g (2 ^ j)) e (eqb→eq _ _ p.0)

-- the map with given values at t^0, t^1, ..: the sum of the values at the digits 1 of n
unfoldable pub combine : List ℕ → ℕ → ℕ
combine [] n = 0
combine (c ∷ cs) zero = 0
combine (c ∷ cs) (suc n) = (suc n % 2) * c ⊕ combine cs (suc n / 2)

combine_zero : (cs : List ℕ) → combine cs 0 ≡ 0
unfolding combine
combine_zero [] = refl
combine_zero (c ∷ cs) = refl

combine_step : (c : ℕ) (cs : List ℕ) (n : ℕ) → combine (c ∷ cs) n ≡ (n % 2) * c ⊕ combine cs (n / 2)
unfolding combine
combine_step c cs zero = sym (ap₂ ◌⊕◌ (zero-mul c) (combine_zero cs) ∙ sum_zero 0)
combine_step c cs (suc n) = refl

pub combine_additive : (cs : List ℕ) → Additive (combine cs)
unfolding combine
combine_additive [] a b = sym (sum_zero 0)
combine_additive (c ∷ cs) a b =
    rw (
      combine_step c cs (a ⊕ b),
      combine_step c cs a,
      combine_step c cs b,
      sum_half,
      sum_odd,
      combine_additive cs (a / 2) (b / 2),
      bit_sum_mul (a % 2) (b % 2) c (bit_lt a) (bit_lt b),
    )
    (sum_middle _ _ _ _)

pub combine_drop : (k : ℕ) (cs : List ℕ) (n : ℕ) → combine (drop k cs) n ≡ combine cs (n * 2 ^ k)
unfolding combine
combine_drop zero cs n = ap (combine cs) (sym (mul-one n))
combine_drop (suc k) [] n = refl
combine_drop (suc k) (c ∷ cs) n =
    let p : n * 2 ^ suc k ≡ 2 * (n * 2 ^ k) = rw (pow-suc 2 k) (omega arith) in
    let e : n * 2 ^ suc k % 2 ≡ 0 = omega arith in
    let h : n * 2 ^ suc k / 2 ≡ n * 2 ^ k = omega arith in
    rw (combine_step c cs (n * 2 ^ suc k), e, h, zero-mul, zero_sum) (combine_drop k cs n)

pub combine_at : (cs : List ℕ) (k : ℕ) → combine cs (2 ^ k) ≡ get_or cs k 0
unfolding combine
combine_at [] k = refl
combine_at (c ∷ cs) zero = combine_step c cs 1 ∙ ap₂ ◌⊕◌ (one-mul c) (combine_zero cs) ∙ sum_zero c
combine_at (c ∷ cs) (suc k) =
    let e : 2 ^ suc k % 2 ≡ 0 = omega arith in
    let h : 2 ^ suc k / 2 ≡ 2 ^ k = omega arith in
    rw (combine_step c cs (2 ^ suc k), e, h, zero-mul, zero_sum) (combine_at cs k)
