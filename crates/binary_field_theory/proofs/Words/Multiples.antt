-- Integer products of numbers whose ones are far apart.
-- `no_carry`: if the ones of a mask are more than b positions apart, the integer product of the masked number with a
-- number of b + 1 bits carries nothing, and is their carry-less product.
-- `parts_joined`, `all_picked`: such products for masks that together select all bits of a number add up to the
-- carry-less product of the two.
use mathlib.Core.{Path.◌≡◌, Path.sym, Path.ap, Path.ap₂, Path.◌∙◌, Bool.Bool, Bool.◌&&◌, Bool.◌||◌, Logic.◌⊎◌, Logic.inl, Logic.inr}
use Prim.Native.Nat.{ℕ, zero, suc, ◌+◌, ◌-◌, ◌*◌, ◌/◌, ◌%◌, ◌^◌, ◌<◌}
use native.Mathlib.{Omega.arith, Nat.zero-mul, Nat.mod-eq_of_lt, Nat.pow-suc}
use lib.{Dec.T, Dec.eqb, Dec.eqb→eq, Pow.split, Bits.bit_and, Bits.and_mask, Bits.and_zero_r, Bits.and_shr, Bits.and_mod}
use mir.Facts.{and_yes, or_yes}
use Rattle.binary_field_theory.specs.Carryless.{◌⊕◌, clmul}
use Rattle.binary_field_theory.proofs.{Sums.bit_lt, Sums.bit_cases, Sums.sum_comm, Sums.sum_shifted, Sums.zero_sum, Sums.sum_mask, Clmul.clmul_step, Clmul.zero_clmul, Clmul.sum_clmul}

-- n has at most k bits, and each one is followed by at least b zeros
unfoldable pub apart : ℕ → ℕ → ℕ → Bool
apart b zero n = eqb n 0
apart b (suc k) n = (eqb (n % 2) 0 || eqb (n / 2 % 2 ^ b) 0) && apart b k (n / 2)

module _ (b m : ℕ) (hm : m < 2 ^ suc b) where
  bit_multiple : (x : ℕ) → x < 2 → x * m < 2 ^ suc b
  bit_multiple = bit_cases (λ x. x * m < 2 ^ suc b) (omega arith) (omega arith)

  -- the multiples of the lowest bit and of the others do not overlap, or one of them is 0
  meets_none : (x y : ℕ) → x < 2 → (x ≡ 0) ⊎ (y % 2 ^ b ≡ 0) → x * m ⊕ 2 * (y * m) ≡ (2 * y + x) * m
  meets_none x y hx (inl e) =
      let f : x * m ≡ 0 = rw e (zero-mul m) in
      ap (λ z. z ⊕ 2 * (y * m)) f ∙ zero_sum (2 * (y * m)) ∙ omega (arith, e)
  meets_none x y hx (inr e) =
      let q : ℕ = y / 2 ^ b in
      let whole : y ≡ q * 2 ^ b = omega (arith, split y b) in
      let p : 2 * (y * m) ≡ q * m * 2 ^ suc b = ap (λ z. 2 * (z * m)) whole ∙ rw (pow-suc 2 b) (omega arith) in
      ap (λ z. x * m ⊕ z) p ∙ sum_comm (x * m) (q * m * 2 ^ suc b) ∙ sum_shifted (q * m) (suc b) (x * m) (bit_multiple x hx)
      ∙ omega (arith, p)

  pub no_carry : (k n mask : ℕ) → T (apart b k mask) → bit_and n mask * m ≡ clmul (bit_and n mask) m
  unfolding apart
  no_carry zero n mask t =
      let e : bit_and n mask ≡ 0 = rw (eqb→eq mask 0 t) (and_zero_r n) in
      rw e (zero-mul m ∙ sym (zero_clmul m))
  no_carry (suc k) n mask t =
      let (here, further) = and_yes (eqb (mask % 2) 0 || eqb (mask / 2 % 2 ^ b) 0) (apart b k (mask / 2)) t in
      let x : ℕ = bit_and n mask in
      let half : x / 2 ≡ bit_and (n / 2) (mask / 2) = and_shr n mask 1 in
      let digits : 2 * (x / 2) + x % 2 ≡ x = omega arith in
      let rest : clmul (x / 2) m ≡ x / 2 * m = rw half (sym (no_carry k (n / 2) (mask / 2) further)) in
      sym
      (clmul_step x m ∙ ap (λ y. x % 2 * m ⊕ 2 * y) rest
      ∙ meets_none (x % 2) (x / 2) (bit_lt x) (cases half (or_yes (eqb (mask % 2) 0) (eqb (mask / 2 % 2 ^ b) 0) here))
      ∙ ap (λ y. y * m) digits)
    where
      cases : bit_and n mask / 2 ≡ bit_and (n / 2) (mask / 2) → T (eqb (mask % 2) 0) ⊎ T (eqb (mask / 2 % 2 ^ b) 0)
          → (bit_and n mask % 2 ≡ 0) ⊎ (bit_and n mask / 2 % 2 ^ b ≡ 0)
      cases half (inl t) = inl (and_mod n mask 1 ∙ rw (eqb→eq (mask % 2) 0 t) (and_zero_r (n % 2)))
      cases half (inr t) = inr (ap (λ y. y % 2 ^ b) half ∙ and_mod (n / 2) (mask / 2) b ∙ rw (eqb→eq (mask / 2 % 2 ^ b) 0 t) (and_zero_r (n / 2 % 2 ^ b)))

module _ (n m : ℕ) where
  pub parts_joined : (p q : ℕ) {x y : ℕ} → x ≡ clmul (bit_and n p) m → y ≡ clmul (bit_and n q) m → x ⊕ y ≡ clmul (bit_and n (p ⊕ q)) m
  parts_joined p q ex ey =
      ap₂ ◌⊕◌ ex ey ∙ sym (sum_clmul (bit_and n p) (bit_and n q) m) ∙ ap (λ z. clmul z m) (sym (sum_mask n p q))

  -- a mask of k ones selects all bits of a number of k bits
  pub all_picked : (k mask : ℕ) {x : ℕ} → n < 2 ^ k → mask ≡ 2 ^ k - 1 → x ≡ clmul (bit_and n mask) m → x ≡ clmul n m
  all_picked k mask h e ex = ex ∙ ap (λ z. clmul z m) (ap (bit_and n) e ∙ and_mask n k ∙ mod-eq_of_lt h)
