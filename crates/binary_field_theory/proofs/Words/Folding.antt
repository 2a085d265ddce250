-- Reduction modulo t^d + low in two rounds of folding, where d = e + k.
-- The digits from position d + k on are multiplied by low first: the part of the multiple below d is added there,
-- and the part from d on is added to the remaining digits, which are multiplied by low in the second round.
-- `two_rounds`: both rounds give the remainder, if the multiple of the second round is below 2^d.
-- `left_61`: for degree 61, at most 56 bits are left for the second round.
-- `fold_61`: the code's two rounds give the remainder for degree 61.
-- `left_5`: for degree 5, at most two bits are left for the second round.
-- `fold_5`: the code's two rounds give the remainder for degree 5.
use mathlib.Core.Path.{◌≡◌, sym, ap, ap₂, ◌∙◌}
use Prim.Native.Nat.{ℕ, ◌+◌, ◌-◌, ◌*◌, ◌/◌, ◌%◌, ◌^◌, ◌<◌}
use native.Mathlib.{Omega.arith, Nat.add_comm, Nat.add-zero, Nat.lt_of_lt_of_le}
use lib.{Dec.lit<, Dec.lit≤, Pow.high, Pow.low, Pow.shl-shr, Pow.shr-shr, Pow.mod-pow-add, Pow.pow_pos, Bits.bit_and, Bits.and_mask, Bits.mask_lt}
use Rattle.binary_field_theory.specs.Carryless.{◌⊕◌, clmul, remainder}
use Rattle.binary_field_theory.proofs.Sums.{sums, zero_sum, sum_lt, sum_split}
use Rattle.binary_field_theory.proofs.{Clmul.sum_clmul, Clmul.shl_clmul, Remainder.remainder_fold, Remainder.remainder_sum, Remainder.remainder_small, Words.Sizes.clmul_lt}

-- digits shifted up by k: those from position e + k on, and those below
moved_high : (e k n : ℕ) → n * 2 ^ k / 2 ^ (e + k) ≡ n / 2 ^ e
moved_high e k n =
    ap (λ j. n * 2 ^ k / 2 ^ j) (add_comm e k) ∙ sym (shr-shr (n * 2 ^ k) k e) ∙ ap (λ x. x / 2 ^ e) (shl-shr n k)

moved_low : (e k n : ℕ) → n * 2 ^ k % 2 ^ (e + k) ≡ n % 2 ^ e * 2 ^ k
moved_low e k n =
    mod-pow-add (n * 2 ^ k) e k
    ∙ ap₂ (λ x y. x % 2 ^ e * 2 ^ k + y) (shl-shr n k) (ap (λ x. x % 2 ^ k) (sym (add-zero (n * 2 ^ k))) ∙ low n k (pow_pos k))
    ∙ add-zero _

module _ (e k m : ℕ) (l : m < 2 ^ (e + k)) where
  -- the first round: the digits of hi from k on, and those below
  first_round : (hi : ℕ)
      → remainder (e + k) m (clmul hi m)
      ≡ remainder (e + k) m (clmul (hi % 2 ^ k ⊕ clmul (hi / 2 ^ k) m / 2 ^ e) m) ⊕ clmul (hi / 2 ^ k) m % 2 ^ e * 2 ^ k
  first_round hi =
      let first : ℕ = clmul (hi / 2 ^ k) m in
      let split : clmul hi m ≡ first * 2 ^ k ⊕ clmul (hi % 2 ^ k) m =
      ap (λ x. clmul x m) (sum_split hi k) ∙ sum_clmul (hi / 2 ^ k * 2 ^ k) (hi % 2 ^ k) m
      ∙ ap (λ x. x ⊕ clmul (hi % 2 ^ k) m) (shl_clmul (hi / 2 ^ k) m k) in
      let moved : remainder (e + k) m (first * 2 ^ k) ≡ remainder (e + k) m (clmul (first / 2 ^ e) m) ⊕ first % 2 ^ e * 2 ^ k =
      remainder_fold (e + k) m l (first * 2 ^ k)
      ∙ ap₂ (λ x y. remainder (e + k) m (clmul x m) ⊕ y) (moved_high e k first) (moved_low e k first) in
      ap (remainder (e + k) m) split ∙ remainder_sum (e + k) m l (first * 2 ^ k) (clmul (hi % 2 ^ k) m)
      ∙ ap (λ x. x ⊕ remainder (e + k) m (clmul (hi % 2 ^ k) m)) moved
      ∙ simp (sum_clmul, remainder_sum (e + k) m l, sums)

  pub two_rounds : (hi lo : ℕ) {first second : ℕ} → lo < 2 ^ (e + k) → first ≡ clmul (hi / 2 ^ k) m
      → second ≡ clmul (hi % 2 ^ k ⊕ first / 2 ^ e) m → second < 2 ^ (e + k)
      → (lo ⊕ first % 2 ^ e * 2 ^ k) ⊕ second ≡ remainder (e + k) m (hi * 2 ^ (e + k) + lo)
  two_rounds hi lo {first} {second} hl ef es hs =
      let small : remainder (e + k) m second ≡ second = remainder_small (e + k) m l second hs in
      sym
      (remainder_fold (e + k) m l (hi * 2 ^ (e + k) + lo)
      ∙ ap₂ (λ x y. remainder (e + k) m (clmul x m) ⊕ y) (high hi (e + k) hl) (low hi (e + k) hl)
      ∙ ap (λ x. x ⊕ lo) (first_round hi)
      ∙ rw (← ef, ← es, small) (simp sums))

-- ---- degree 61: the bits from t^117 on are folded first
module _ (hi first : ℕ) (hh : hi < 2 ^ 61) (ef : first ≡ clmul (hi / 2 ^ 56) 39) where
  pub left_61 : bit_and hi (2 ^ 56 - 1) ⊕ first / 2 ^ 5 < 2 ^ 56
  left_61 =
      let l : first < 2 ^ 10 = rw ef (clmul_lt 5 5 (hi / 2 ^ 56) 39 (omega arith) (lit< tt)) in
      sum_lt 56 _ _ (mask_lt hi 56) (omega arith)

  pub fold_61 : (lo : ℕ) {second : ℕ} → lo < 2 ^ 61 → second ≡ clmul (bit_and hi (2 ^ 56 - 1) ⊕ first / 2 ^ 5) 39
      → (lo ⊕ bit_and first (2 ^ 5 - 1) * 2 ^ 56 % 2 ^ 64) ⊕ second ≡ remainder 61 39 (hi * 2 ^ 61 + lo)
  fold_61 lo {second} hl es =
      let p : bit_and first (2 ^ 5 - 1) * 2 ^ 56 % 2 ^ 64 ≡ first % 2 ^ 5 * 2 ^ 56 = rw (and_mask first 5) (omega arith) in
      ap (λ x. (lo ⊕ x) ⊕ second) p
      ∙ two_rounds 5 56 39 (lit< tt) hi lo hl ef (rw (and_mask hi 56) at es) (rw es (clmul_lt 56 5 _ 39 left_61 (lit< tt)))

-- ---- degree 5: all bits from t^5 on are folded first
module _ (n first : ℕ) (hn : n < 2 ^ 10) (ef : first ≡ clmul (n / 2 ^ 5) 5) where
  pub left_5 : first / 2 ^ 5 < 2 ^ 2
  left_5 = let l : first < 2 ^ 7 = rw ef (clmul_lt 5 2 (n / 2 ^ 5) 5 (omega arith) (lit< tt)) in omega arith

  pub fold_5 : {second : ℕ} → second ≡ clmul (first / 2 ^ 5) 5
      → (bit_and n (2 ^ 5 - 1) ⊕ bit_and first (2 ^ 5 - 1)) ⊕ second ≡ remainder 5 5 n
  fold_5 {second} es =
      let none : n / 2 ^ 5 % 2 ^ 0 ≡ 0 = omega arith in
      let all : n / 2 ^ 5 / 2 ^ 0 ≡ n / 2 ^ 5 = omega arith in
      let p : bit_and first (2 ^ 5 - 1) ≡ first % 2 ^ 5 * 2 ^ 0 = rw (and_mask first 5) (omega arith) in
      let q : n / 2 ^ 5 * 2 ^ 5 + n % 2 ^ 5 ≡ n = omega arith in
      ap₂ (λ x y. (x ⊕ y) ⊕ second) (and_mask n 5) p
      ∙ two_rounds 5 0 5 (lit< tt) (n / 2 ^ 5) (n % 2 ^ 5) (omega arith) (rw all ef) (rw (none, zero_sum) es)
      (rw es (lt_of_lt_of_le (clmul_lt 2 2 _ 5 left_5 (lit< tt)) (lit≤ tt)))
      ∙ ap (remainder 5 5) q
