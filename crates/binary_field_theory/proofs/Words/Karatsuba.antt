-- Karatsuba's rule for carry-less products (`karatsuba`), and its result as two words of 61 bits (`words`).
use mathlib.Core.Path.{◌≡◌, sym, ap, ap₂, ◌∙◌}
use Prim.Native.Nat.{ℕ, ◌+◌, ◌-◌, ◌*◌, ◌/◌, ◌%◌, ◌^◌, ◌<◌}
use native.Mathlib.{Omega.arith, Nat.div-eq_of_lt, Nat.lt_of_lt_of_le}
use lib.{Dec.lit≤, Pow.split, Pow.mod-mod-pow, Bits.bit_and, Bits.and_mask, Bits.mask_lt}
use Rattle.binary_field_theory.specs.Carryless.{◌⊕◌, clmul}
use Rattle.binary_field_theory.proofs.Sums.{sums, sum_shr, sum_mod, sum_shl, sum_zero, zero_sum, sum_comm, sum_split}
use Rattle.binary_field_theory.proofs.{Words.Sizes.clmul_lt, Clmul.clmul_sum, Clmul.sum_clmul, Clmul.clmul_shl, Clmul.shl_clmul}

pub karatsuba : (k a0 a1 b0 b1 : ℕ)
    → clmul (a1 * 2 ^ k ⊕ a0) (b1 * 2 ^ k ⊕ b0)
    ≡ clmul a1 b1 * 2 ^ k * 2 ^ k ⊕ ((clmul (a0 ⊕ a1) (b0 ⊕ b1) ⊕ (clmul a0 b0 ⊕ clmul a1 b1)) * 2 ^ k ⊕ clmul a0 b0)
karatsuba k a0 a1 b0 b1 = simp (clmul_sum, sum_clmul, clmul_shl, shl_clmul, sum_shl, sums)

-- the high word: the digits from position 61 on
high : (l m h : ℕ) → l < 2 ^ 61 → h < 2 ^ 63
    → (h * 2 ^ 31 * 2 ^ 31 ⊕ (m * 2 ^ 31 ⊕ l)) / 2 ^ 61 ≡ (m / 2 ^ 30) ⊕ (h * 2 ^ 1 % 2 ^ 64)
high l m h hl hh =
    let p : h * 2 ^ 31 * 2 ^ 31 / 2 ^ 61 ≡ h * 2 ^ 1 % 2 ^ 64 = omega arith in
    let q : m * 2 ^ 31 / 2 ^ 61 ≡ m / 2 ^ 30 = omega arith in
    sum_shr (h * 2 ^ 31 * 2 ^ 31) (m * 2 ^ 31 ⊕ l) 61
    ∙ ap₂ ◌⊕◌ p (sum_shr (m * 2 ^ 31) l 61 ∙ ap₂ ◌⊕◌ q (div-eq_of_lt hl) ∙ sum_zero (m / 2 ^ 30))
    ∙ sum_comm (h * 2 ^ 1 % 2 ^ 64) (m / 2 ^ 30)

-- the low word: the digits below position 61
low : (l m h : ℕ) → (h * 2 ^ 31 * 2 ^ 31 ⊕ (m * 2 ^ 31 ⊕ l)) % 2 ^ 61 ≡ bit_and (l ⊕ (m * 2 ^ 31 % 2 ^ 64)) (2 ^ 61 - 1)
low l m h =
    let p : h * 2 ^ 31 * 2 ^ 31 % 2 ^ 61 ≡ 0 = omega arith in
    sum_mod (h * 2 ^ 31 * 2 ^ 31) (m * 2 ^ 31 ⊕ l) 61
    ∙ ap₂ ◌⊕◌ p (sum_mod (m * 2 ^ 31) l 61 ∙ ap (λ x. x ⊕ l % 2 ^ 61) (sym (mod-mod-pow (m * 2 ^ 31) 3 61)))
    ∙ zero_sum _ ∙ sum_comm (m * 2 ^ 31 % 2 ^ 64 % 2 ^ 61) (l % 2 ^ 61)
    ∙ sym (sum_mod l (m * 2 ^ 31 % 2 ^ 64) 61) ∙ sym (and_mask (l ⊕ (m * 2 ^ 31 % 2 ^ 64)) 61)

halves : (a : ℕ) → (a / 2 ^ 31 * 2 ^ 31) ⊕ bit_and a (2 ^ 31 - 1) ≡ a
halves a = ap (λ x. a / 2 ^ 31 * 2 ^ 31 ⊕ x) (and_mask a 31) ∙ sym (sum_split a 31)

-- the result of wide_product: l, h and s are the products of the low halves, of the high halves and of their sums
module _ (a b l h s : ℕ) (ha : a < 2 ^ 61) (hb : b < 2 ^ 61)
    (el : l ≡ clmul (bit_and a (2 ^ 31 - 1)) (bit_and b (2 ^ 31 - 1))) (eh : h ≡ clmul (a / 2 ^ 31) (b / 2 ^ 31))
    (es : s ≡ clmul (bit_and a (2 ^ 31 - 1) ⊕ a / 2 ^ 31) (bit_and b (2 ^ 31 - 1) ⊕ b / 2 ^ 31)) where
  abbrev middle : ℕ
  middle = s ⊕ (l ⊕ h)

  low_lt : l < 2 ^ 61
  low_lt = rw el (clmul_lt 31 30 _ _ (mask_lt a 31) (mask_lt b 31))

  high_lt : h < 2 ^ 63
  high_lt = rw eh (lt_of_lt_of_le (clmul_lt 30 29 (a / 2 ^ 31) (b / 2 ^ 31) (omega arith) (omega arith)) (lit≤ tt))

  joined : ((middle / 2 ^ 30) ⊕ (h * 2 ^ 1 % 2 ^ 64)) * 2 ^ 61 + bit_and (l ⊕ (middle * 2 ^ 31 % 2 ^ 64)) (2 ^ 61 - 1) ≡ clmul a b
  joined =
      let n : ℕ = h * 2 ^ 31 * 2 ^ 31 ⊕ (middle * 2 ^ 31 ⊕ l) in
      sym (ap₂ (λ x y. x * 2 ^ 61 + y) (high l middle h low_lt high_lt) (low l middle h)) ∙ split n 61
      ∙ rw (el, eh, es) (sym (karatsuba 31 (bit_and a (2 ^ 31 - 1)) (a / 2 ^ 31) (bit_and b (2 ^ 31 - 1)) (b / 2 ^ 31)))
      ∙ ap₂ clmul (halves a) (halves b)

  pub words : (bit_and (l ⊕ (middle * 2 ^ 31 % 2 ^ 64)) (2 ^ 61 - 1) < 2 ^ 61)
      × (((middle / 2 ^ 30) ⊕ (h * 2 ^ 1 % 2 ^ 64)) * 2 ^ 61 + bit_and (l ⊕ (middle * 2 ^ 31 % 2 ^ 64)) (2 ^ 61 - 1) ≡ clmul a b)
  words = (mask_lt (l ⊕ (middle * 2 ^ 31 % 2 ^ 64)) 61, joined)
