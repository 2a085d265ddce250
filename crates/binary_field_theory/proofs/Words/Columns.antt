-- Products of two 32-bit numbers by their parts.
-- `joined`: the sixteen products of parts, added and masked by their position modulo 4, give the carry-less product.
use mathlib.Core.Path.{◌≡◌, refl, sym, ap₂, ◌∙◌}
use Prim.Native.Nat.{ℕ, ◌*◌, ◌^◌, ◌<◌}
use native.Mathlib.Nat.{mod-eq_of_lt}
use lib.Bits.{bit_and, and_mask}
use Rattle.binary_field_theory.specs.Carryless.{◌⊕◌, clmul}
use Rattle.binary_field_theory.proofs.{Sums.sums, Sums.and_sum, Sums.sum_mask, Clmul.clmul_sum, Clmul.sum_clmul}
use Rattle.binary_field_theory.proofs.Words.Parts.{ones, part, near, far}

-- a number of 32 bits is the sum of its four parts
parts : (a : ℕ) → a < 2 ^ 32 → a ≡ (part 0 a ⊕ part 1 a) ⊕ (part 2 a ⊕ part 3 a)
unfolding ◌⊕◌ part ones
parts a h =
    sym (mod-eq_of_lt h) ∙ sym (and_mask a 32) ∙ sum_mask a 0x3333_3333 0xcccc_cccc
    ∙ ap₂ ◌⊕◌ (sum_mask a 0x1111_1111 0x2222_2222) (sum_mask a 0x4444_4444 0x8888_8888)

-- the sum of one term for each part of the first number
abbrev pub column : (ℕ → ℕ → ℕ) → ℕ → ℕ → ℕ → ℕ → ℕ
column f i j k l = (f 0 i ⊕ f 1 j) ⊕ (f 2 k ⊕ f 3 l)

masked : (m : ℕ) (f g : ℕ → ℕ → ℕ) (i j k l : ℕ) → bit_and (f 0 i) m ≡ g 0 i → bit_and (f 1 j) m ≡ g 1 j → bit_and (f 2 k) m ≡ g 2 k
    → bit_and (f 3 l) m ≡ g 3 l → bit_and (column f i j k l) m ≡ column g i j k l
masked m f g i j k l p q r s = simp and_sum (ap₂ ◌⊕◌ (ap₂ ◌⊕◌ p q) (ap₂ ◌⊕◌ r s))

-- the product of two sums of four terms
expand : (f g : ℕ → ℕ)
    → (column (λ i j. clmul (f i) (g j)) 0 3 2 1 ⊕ column (λ i j. clmul (f i) (g j)) 1 0 3 2)
    ⊕ (column (λ i j. clmul (f i) (g j)) 2 1 0 3 ⊕ column (λ i j. clmul (f i) (g j)) 3 2 1 0)
    ≡ clmul ((f 0 ⊕ f 1) ⊕ (f 2 ⊕ f 3)) ((g 0 ⊕ g 1) ⊕ (g 2 ⊕ g 3))
expand f g = simp (clmul_sum, sum_clmul, sums)

module _ (a b : ℕ) where
  -- the integer product of a part of a and a part of b
  abbrev pub whole : ℕ → ℕ → ℕ
  whole i j = part i a * part j b

  -- their carry-less product
  abbrev carryless : ℕ → ℕ → ℕ
  carryless i j = clmul (part i a) (part j b)

  pub joined : a < 2 ^ 32 → b < 2 ^ 32
      → (bit_and (column whole 0 3 2 1) (ones 16 * 2 ^ 0) ⊕ bit_and (column whole 1 0 3 2) (ones 16 * 2 ^ 1))
      ⊕ (bit_and (column whole 2 1 0 3) (ones 16 * 2 ^ 2) ⊕ bit_and (column whole 3 2 1 0) (ones 16 * 2 ^ 3))
      ≡ clmul a b
  joined ha hb =
      ap₂ ◌⊕◌
      (ap₂ ◌⊕◌
      (masked (ones 16 * 2 ^ 0) whole carryless 0 3 2 1 (near a b 0 0) (far a b 1 3 0 refl) (far a b 2 2 0 refl) (far a b 3 1 0 refl))
      (masked (ones 16 * 2 ^ 1) whole carryless 1 0 3 2 (near a b 0 1) (near a b 1 0) (far a b 2 3 1 refl) (far a b 3 2 1 refl)))
      (ap₂ ◌⊕◌
      (masked (ones 16 * 2 ^ 2) whole carryless 2 1 0 3 (near a b 0 2) (near a b 1 1) (near a b 2 0) (far a b 3 3 2 refl))
      (masked (ones 16 * 2 ^ 3) whole carryless 3 2 1 0 (near a b 0 3) (near a b 1 2) (near a b 2 1) (near a b 3 0)))
      ∙ expand (λ i. part i a) (λ j. part j b) ∙ sym (ap₂ clmul (parts a ha) (parts b hb))
