-- The table of the elements squared six times.
-- `by_tests`: the rule holds if two computed tests pass. Squaring is additive, so that the rule is tested at the powers
-- of t alone, which are the digits 1, 2, 4 and 8 at each position: each value is t^64 times the one before it.
-- Every other entry is tested to be the sum of those.
-- `no_digit`, `place_lt`, `one_digit_more`: the loop over the digits, the lowest first.
use mathlib.Core.{Path.◌≡◌, Path.refl, Path.ap, Path.sym, Path.◌∙◌, Bool.Bool, Bool.true, Bool.◌&&◌, List.List, List.[], List.◌∷◌}
use Prim.Native.Nat.{ℕ, zero, suc, ◌+◌, ◌*◌, ◌/◌, ◌%◌, ◌^◌, ◌<◌}
use native.Mathlib.{Nat.mod-lt, Nat.lt_of_lt_of_le, Nat.add-zero, Nat.zero-add, Nat.le_of_suc-le-suc, Nat.not-suc-le-zero, Omega.arith}
use lib.{Dec.T, Dec.eqb, Dec.eqb→eq, Bits.bit_xor, Bits.bit_and, Bits.and_mask, Bits.mask_lt, Pow.pow_pos, Pow.pow_mono, Pow.shl_lt, Pow.mod-pow-add}
use lib.ListN.{length, get_or, drop}
use Rattle.binary_field_theory.specs.{Carryless.◌⊕◌, Carryless.digits_to, Carryless.digits, Carryless.spread, Carryless.reduce, Carryless.remainder, Element.low, Element.product, Element.squarings, Chain.spreadings, Spreading.every, Multisquaring.Multisquares}
use Rattle.binary_field_theory.proofs.{Sums.sum_comm, Sums.sum_shifted, Linear.additive_zero, Linear.basis, Linear.both, Linear.combine, Linear.combine_additive, Linear.combine_at, Linear.combine_drop, Chain.spreadings_squarings, Products.low_lt, Products.two_product, Power.squarings_sum, Power.squarings_one, Power.squarings_product, Power.squarings_remainder, Words.Table.each_entry}

-- the entries of the digits 1, 2, 4 and 8 at k positions
unfoldable pub powers : ℕ → List ℕ → List ℕ
powers zero xs = []
powers (suc k) xs = get_or xs 1 0 ∷ get_or xs 2 0 ∷ get_or xs 4 0 ∷ get_or xs 8 0 ∷ powers k (drop 16 xs)

-- the number that entry n squares six times: a digit at its position
digit : ℕ → ℕ
digit n = n % 16 * 2 ^ (4 * (n / 16))

digit_lt : (n : ℕ) → n < 256 → digit n < 2 ^ 64
unfolding digit
digit_lt n h =
    lt_of_lt_of_le (shl_lt 4 (4 * (n / 16)) (omega arith)) (pow_mono {j = 64} (omega arith))

-- the test at the powers of t: the first value is v, and each is 0x138, which is t^64, times the one before it
unfoldable pub powers_test : ℕ → List ℕ → Bool
powers_test v [] = true
powers_test v (x ∷ xs) = eqb x v && powers_test (product 61 0x138 x) xs

-- the test of all entries: each is the sum of the entries of its digit's bits
unfoldable pub sums_test : List ℕ → Bool
sums_test xs = let vs = powers 16 xs in every (λ n. combine (drop (4 * (n / 16)) vs) (n % 16)) 0 xs

two_squared : squarings 61 6 2 ≡ 0x138
unfolding spreadings low spread remainder reduce digits digits_to ◌⊕◌
two_squared = sym (spreadings_squarings 61 6 2) ∙ refl

next_power : (a : ℕ) → product 61 0x138 (squarings 61 6 a) ≡ squarings 61 6 (2 * a)
next_power a =
    rw (← two_squared)
    (sym (squarings_product 61 (low_lt 61 tt) 6 2 a) ∙ ap (squarings 61 6) (two_product 61 (low_lt 61 tt) a)
    ∙ squarings_remainder 61 (low_lt 61 tt) 5 (2 * a))

powers_at : (vs : List ℕ) (i : ℕ) {v : ℕ} → v ≡ squarings 61 6 (2 ^ i) → T (powers_test v vs)
    → (k : ℕ) → k < length vs → get_or vs k 0 ≡ squarings 61 6 (2 ^ (i + k))
unfolding powers_test
powers_at [] i e t k h = absurd (not-suc-le-zero h)
powers_at (x ∷ xs) i {v} e t zero h = rw add-zero (eqb→eq x v (both (eqb x v) _ t).0 ∙ e)
powers_at (x ∷ xs) i {v} e t (suc k) h =
    let p = both (eqb x v) (powers_test (product 61 0x138 x) xs) t in
    let g : 2 * 2 ^ i ≡ 2 ^ suc i = omega arith in
    let s : suc i + k ≡ i + suc k = omega arith in
    powers_at xs (suc i) (ap (product 61 0x138) (eqb→eq x v p.0 ∙ e) ∙ next_power (2 ^ i) ∙ ap (squarings 61 6) g) p.1 k (le_of_suc-le-suc h)
    ∙ ap (λ j. squarings 61 6 (2 ^ j)) s

module _ (xs : List ℕ) (e : length xs ≡ 256) (t : T (powers_test 1 (powers 16 xs))) (u : T (sums_test xs)) where
  combined : (a : ℕ) → a < 2 ^ 64 → squarings 61 6 a ≡ combine (powers 16 xs) a
  unfolding powers
  combined =
      basis (squarings 61 6) (combine (powers 16 xs)) (squarings_sum 61 (low_lt 61 tt) 6) (combine_additive (powers 16 xs)) 64
      (λ i h. sym (combine_at (powers 16 xs) i ∙ powers_at (powers 16 xs) 0 (sym (squarings_one 61 (low_lt 61 tt) 6)) t i h ∙ ap (λ j. squarings 61 6 (2 ^ j)) (zero-add i)))

  pub by_tests : Multisquares xs
  unfolding digit sums_test
  by_tests =
      record {
        entry = λ n h.
            each_entry (λ n. combine (drop (4 * (n / 16)) (powers 16 xs)) (n % 16)) xs 256 e u n h
            ∙ combine_drop (4 * (n / 16)) (powers 16 xs) (n % 16) ∙ sym (combined (digit n) (digit_lt n h));
      }

-- ---- the loop over the digits
pub no_digit : (a : ℕ) → 0 ≡ squarings 61 6 (a % 2 ^ (4 * 0))
no_digit a =
    let e : a % 2 ^ 0 ≡ 0 = omega arith in
    rw e (sym (additive_zero (squarings 61 6) (squarings_sum 61 (low_lt 61 tt) 6)))

digit_added : (a k : ℕ)
    → squarings 61 6 (a % 2 ^ (4 + k)) ≡ squarings 61 6 (a % 2 ^ k) ⊕ squarings 61 6 (bit_and (a / 2 ^ k) 15 * 2 ^ k)
digit_added a k =
    ap (squarings 61 6)
    (mod-pow-add a 4 k ∙ sym (sum_shifted (a / 2 ^ k % 2 ^ 4) k (a % 2 ^ k) (mod-lt a (pow_pos k)))
    ∙ ap (λ x. x * 2 ^ k ⊕ (a % 2 ^ k)) (sym (and_mask (a / 2 ^ k) 4)) ∙ sum_comm (bit_and (a / 2 ^ k) 15 * 2 ^ k) (a % 2 ^ k))
    ∙ squarings_sum 61 (low_lt 61 tt) 6 (a % 2 ^ k) (bit_and (a / 2 ^ k) 15 * 2 ^ k)

pub place_lt : (a i : ℕ) → i < 16 → 16 * i + bit_and a 15 < 256
place_lt a i h = omega (arith, mask_lt a 4)

pub one_digit_more : (a i : ℕ) {xs : List ℕ} {r : ℕ} → Multisquares xs → i < 16 → r ≡ squarings 61 6 (a % 2 ^ (4 * i))
    → bit_xor r (get_or xs (16 * i + bit_and (a / 2 ^ (4 * i)) 15) 0) ≡ squarings 61 6 (a % 2 ^ (4 * (i + 1)))
unfolding ◌⊕◌
one_digit_more a i {xs} {r} m h e =
    let x = bit_and (a / 2 ^ (4 * i)) 15 in
    let b : x < 16 = mask_lt (a / 2 ^ (4 * i)) 4 in
    let p : (16 * i + x) % 16 ≡ x = omega arith in
    let q : (16 * i + x) / 16 ≡ i = omega arith in
    let k : 4 * (i + 1) ≡ 4 + 4 * i = omega arith in
    let g = rw (p, q) at (m.entry (16 * i + x) (place_lt (a / 2 ^ (4 * i)) i h)) in
    rw (e, g, k) (sym (digit_added a (4 * i)))
