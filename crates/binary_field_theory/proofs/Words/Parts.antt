-- The parts of a 32-bit number: the bits at the positions that are i modulo 4, which a mask selects.
-- `near`, `far`: the integer product of two parts, masked, is their carry-less product.
use mathlib.Core.Path.{◌≡◌, sym, ap, ap₂, ◌∙◌}
use Prim.Native.Nat.{ℕ, zero, suc, ◌+◌, ◌*◌, ◌/◌, ◌%◌, ◌^◌}
use native.Mathlib.{Omega.arith, Nat.mod-lt, Nat.add-zero}
use lib.{Dec.lit<, Dec.lit≤, Pow.split, Pow.shl-shr, Pow.pow_pos, Pow.pow-add, Bits.bit_and, Bits.and_block, Bits.and_mask, Bits.and_zero_r}
use Rattle.binary_field_theory.specs.Carryless.{clmul}
use Rattle.binary_field_theory.proofs.Clmul.{clmul_shl, shl_clmul}
use Rattle.binary_field_theory.proofs.Words.Sixteens.{lows, Digits, lows_digits, digits_more, lows_shift, product_carryless}

-- the number with k base-16 digits, all 1
unfoldable pub ones : ℕ → ℕ
ones zero = 0
ones (suc k) = ones k * 16 + 1

-- the bits of n at the positions i, i + 4, .., i + 28
unfoldable pub part : ℕ → ℕ → ℕ
part i n = bit_and n (ones 8 * 2 ^ i)

and_ones : (k n : ℕ) → bit_and n (ones k) ≡ lows k n
unfolding ones lows
and_ones zero n = and_zero_r n
and_ones (suc k) n =
    let e : n ≡ n / 16 * 2 ^ 4 + n % 16 = omega arith in
    let f : n % 16 % 2 ≡ n % 2 = omega arith in
    ap (λ v. bit_and v (ones k * 16 + 1)) e
    ∙ and_block 4 (n / 16) (ones k) (n % 16) 1 (mod-lt n (lit< tt)) (lit< tt)
    ∙ ap₂ (λ u v. u * 16 + v) (and_ones k (n / 16)) (and_mask (n % 16) 1 ∙ f)
    ∙ omega arith

-- a mask of k ones, four apart, from bit i on
and_part : (k i n : ℕ) → bit_and n (ones k * 2 ^ i) ≡ lows k (n / 2 ^ i) * 2 ^ i
and_part k i n =
    ap₂ bit_and (sym (split n i)) (sym (add-zero (ones k * 2 ^ i)))
    ∙ and_block i (n / 2 ^ i) (ones k) (n % 2 ^ i) 0 (mod-lt n (pow_pos i)) (pow_pos i)
    ∙ ap₂ (λ u v. u * 2 ^ i + v) (and_ones k (n / 2 ^ i)) (and_zero_r (n % 2 ^ i))
    ∙ add-zero _

part_lows : (i n : ℕ) → part i n ≡ lows 8 (n / 2 ^ i) * 2 ^ i
unfolding part
part_lows i n = and_part 8 i n

shift_both : (i j a b : ℕ) → clmul (a * 2 ^ i) (b * 2 ^ j) ≡ clmul a b * 2 ^ (i + j)
shift_both i j a b = shl_clmul a (b * 2 ^ j) i ∙ ap (λ v. v * 2 ^ i) (clmul_shl a b j) ∙ rw (pow-add 2 i j) (omega arith)

swap : (a b i j : ℕ) → (a * 2 ^ i) * (b * 2 ^ j) ≡ a * b * 2 ^ (i + j)
swap a b i j = rw (pow-add 2 i j) (omega arith)

sixteen : (v s c : ℕ) → s ≡ c + 4 → v * 2 ^ s ≡ 16 * v * 2 ^ c
sixteen v s c e = rw (e, pow-add 2 c 4) (omega arith)

module _ (i j a b : ℕ) (da : Digits 1 8 a) (db : Digits 1 8 b) where
  -- the positions i and j of the two parts add up to that of the mask
  near_lows : bit_and ((a * 2 ^ i) * (b * 2 ^ j)) (ones 16 * 2 ^ (i + j)) ≡ clmul (a * 2 ^ i) (b * 2 ^ j)
  near_lows =
      ap (λ v. bit_and v (ones 16 * 2 ^ (i + j))) (swap a b i j)
      ∙ and_part 16 (i + j) (a * b * 2 ^ (i + j))
      ∙ ap (λ v. v * 2 ^ (i + j))
      (ap (lows 16) (shl-shr (a * b) (i + j)) ∙ (product_carryless 8 8 a b (lit≤ tt) da (digits_more 1 8 b db)).lowest)
      ∙ sym (shift_both i j a b)

  -- the positions i and j add up to that of the mask plus one base-16 digit
  far_lows : (c : ℕ) → i + j ≡ c + 4 → bit_and ((a * 2 ^ i) * (b * 2 ^ j)) (ones 16 * 2 ^ c) ≡ clmul (a * 2 ^ i) (b * 2 ^ j)
  far_lows c e =
      ap (λ v. bit_and v (ones 16 * 2 ^ c)) (swap a b i j ∙ sixteen (a * b) (i + j) c e)
      ∙ and_part 16 c (16 * (a * b) * 2 ^ c)
      ∙ ap (λ v. v * 2 ^ c)
      (ap (lows 16) (shl-shr (16 * (a * b)) c) ∙ lows_shift 15 (a * b)
      ∙ ap (λ v. 16 * v) (product_carryless 8 7 a b (lit≤ tt) da db).lowest)
      ∙ sym (shift_both i j a b ∙ sixteen (clmul a b) (i + j) c e)

-- the same for the parts of any two numbers
module _ (a b i j : ℕ) where
  pub near : bit_and (part i a * part j b) (ones 16 * 2 ^ (i + j)) ≡ clmul (part i a) (part j b)
  near =
      ap₂ (λ x y. bit_and (x * y) (ones 16 * 2 ^ (i + j))) (part_lows i a) (part_lows j b)
      ∙ near_lows i j _ _ (lows_digits 8 (a / 2 ^ i)) (lows_digits 8 (b / 2 ^ j))
      ∙ sym (ap₂ clmul (part_lows i a) (part_lows j b))

  pub far : (c : ℕ) → i + j ≡ c + 4 → bit_and (part i a * part j b) (ones 16 * 2 ^ c) ≡ clmul (part i a) (part j b)
  far c e =
      ap₂ (λ x y. bit_and (x * y) (ones 16 * 2 ^ c)) (part_lows i a) (part_lows j b)
      ∙ far_lows i j _ _ (lows_digits 8 (a / 2 ^ i)) (lows_digits 8 (b / 2 ^ j)) c e
      ∙ sym (ap₂ clmul (part_lows i a) (part_lows j b))
