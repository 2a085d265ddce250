-- The carry-less product of a number and the root of t, as the code computes it in two words (`wide_words`).
-- The root has a run of 32 powers, computed by factors 1 + t, 1 + t^2, .. and a shift, and four other powers.
-- Both sides are additive maps, which are compared at each power of t.
use mathlib.Core.Path.{◌≡◌, ap, sym, ◌∙◌}
use Prim.Native.Nat.{ℕ, ◌+◌, ◌-◌, ◌*◌, ◌/◌, ◌%◌, ◌^◌, ◌<◌}
use lib.Bits.{bit_and, mask_lt}
use Rattle.binary_field_theory.specs.Carryless.{◌⊕◌, clmul, digits, digits_to}
use Rattle.binary_field_theory.proofs.{Sums.sum_shl, Sums.sum_mod, Sums.sum_shr, Sums.sum_middle, Sums.sum_shifted, Sums.and_sum, Clmul.sum_clmul}
use Rattle.binary_field_theory.proofs.Linear.{Additive, basis, same, same_at}

-- n shifted up by k bits in a word
unfoldable pub up : ℕ → ℕ → ℕ
up k n = n * 2 ^ k % 2 ^ 64

up_additive : (k : ℕ) → Additive (up k)
unfolding up
up_additive k a b = ap (λ x. x % 2 ^ 64) (sum_shl a b k) ∙ sum_mod (a * 2 ^ k) (b * 2 ^ k) 64

-- n times 1 + t^k in a word
unfoldable pub doubled : ℕ → ℕ → ℕ
doubled k n = n ⊕ up k n

doubled_additive : (k : ℕ) → Additive (doubled k)
unfolding doubled
doubled_additive k a b = rw (up_additive k a b) (sum_middle a b (up k a) (up k b))

-- n times 1 + t + .. + t^31 in a word
unfoldable pub run : ℕ → ℕ
run n = doubled 16 (doubled 8 (doubled 4 (doubled 2 (doubled 1 n))))

run_additive : Additive run
unfolding run
run_additive a b = rw (doubled_additive 1, doubled_additive 2, doubled_additive 4, doubled_additive 8, doubled_additive 16)

-- n times the other powers of the root, t + t^4 + t^5 + t^6, in a word
unfoldable pub rest : ℕ → ℕ
rest n = (up 1 n ⊕ up 4 n) ⊕ (up 5 n ⊕ up 6 n)

rest_additive : Additive rest
unfolding rest
rest_additive a b =
    rw (up_additive 1, up_additive 4, up_additive 5, up_additive 6, sum_middle (up 1 a), sum_middle (up 5 a)) (sum_middle _ _ _ _)

-- the 61 lowest bits of the product
unfoldable pub low_word : ℕ → ℕ
low_word n = bit_and (up 31 (run n) ⊕ rest n) (2 ^ 61 - 1)

low_word_additive : Additive low_word
unfolding low_word
low_word_additive a b =
    rw (run_additive a b, rest_additive a b, up_additive 31, sum_middle (up 31 (run a)) (up 31 (run b)) (rest a) (rest b), and_sum)

words : ℕ → ℕ
words n = run n / 2 ^ 30 * 2 ^ 61 ⊕ low_word n

words_additive : Additive words
unfolding words
words_additive a b =
    rw (run_additive a b, sum_shr (run a) (run b) 30, sum_shl (run a / 2 ^ 30) (run b / 2 ^ 30) 61, low_word_additive a b) (sum_middle _ _ _ _)

words_product : (n : ℕ) → n < 2 ^ 30 → words n ≡ clmul n 0x7fff_ffff_8000_0072
unfolding same words low_word rest run doubled up clmul digits digits_to ◌⊕◌
words_product =
    basis words (λ (a : ℕ). clmul a 0x7fff_ffff_8000_0072) words_additive (λ a b. sum_clmul a b 0x7fff_ffff_8000_0072) 30
    (same_at words (λ (a : ℕ). clmul a 0x7fff_ffff_8000_0072) 30 tt)

low_word_lt : (n : ℕ) → low_word n < 2 ^ 61
unfolding low_word
low_word_lt n = mask_lt (up 31 (run n) ⊕ rest n) 61

pub wide_words : (n : ℕ) → n < 2 ^ 30 → (low_word n < 2 ^ 61) × (run n / 2 ^ 30 * 2 ^ 61 + low_word n ≡ clmul n 0x7fff_ffff_8000_0072)
unfolding words
wide_words n h = (low_word_lt n, sym (sum_shifted (run n / 2 ^ 30) 61 (low_word n) (low_word_lt n)) ∙ words_product n h)
