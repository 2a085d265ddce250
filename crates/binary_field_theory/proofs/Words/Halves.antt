-- Numbers spread by their halves.
-- `spread_parts`: the k lowest digits and the rest are spread separately.
-- `spread_joined`: the two results joined in a word, as the code does it.
-- `spread_bytes`: a number of four bytes spread byte by byte.
-- `spread_words`: a number of 61 digits spread to two words, the digits below position 61 and those from 61 on.
use mathlib.Core.{Path.◌≡◌, Path.ap, Path.sym, Path.◌∙◌, List.List, List.[], List.◌∷◌}
use Prim.Native.Nat.{ℕ, ◌+◌, ◌-◌, ◌*◌, ◌/◌, ◌%◌, ◌^◌, ◌<◌, ◌≤◌}
use native.Mathlib.{Nat.mod-lt, Omega.arith}
use lib.{ListN.get_or, Pow.pow_pos, Pow.split, Pow.shl_exact, Pow.shr_lt, Bits.bit_xor, Bits.bit_and, Bits.and_mask, Bits.mask_lt, Bits.xor_shifted}
use Rattle.binary_field_theory.specs.Carryless.{spread}
use Rattle.binary_field_theory.proofs.Spread.{spread_block, spread_lt}

pub spread_parts : (k w : ℕ) → spread (w / 2 ^ k) * 2 ^ (k + k) + spread (bit_and w (2 ^ k - 1)) ≡ spread w
spread_parts k w =
    rw (and_mask w k) (sym (spread_block k (w / 2 ^ k) (w % 2 ^ k) (mod-lt w (pow_pos k))) ∙ ap spread (split w k))

pub spread_joined : (k w : ℕ) → w < 2 ^ (k + k) → k + k + (k + k) ≤ 64
    → bit_xor (spread (w / 2 ^ k) * 2 ^ (k + k) % 2 ^ 64) (spread (bit_and w (2 ^ k - 1))) ≡ spread w
spread_joined k w h e =
    rw (
      shl_exact (k + k) (k + k) 64 (spread_lt k (w / 2 ^ k) (shr_lt k k h)) e,
      xor_shifted (spread (w / 2 ^ k)) (k + k) (spread (bit_and w (2 ^ k - 1))) (spread_lt k _ (mask_lt w k)),
    )
    (spread_parts k w)

two_bytes : (w b₀ b₁ : ℕ) → w < 2 ^ 16 → b₀ ≡ w % 256 → b₁ ≡ w / 256 → bit_xor (spread b₁ * 2 ^ 16 % 2 ^ 64) (spread b₀) ≡ spread w
two_bytes w b₀ b₁ h e₀ e₁ = rw (e₀, e₁, ← and_mask w 8) (spread_joined 8 w h (omega arith))

pub spread_bytes : (w : ℕ) {bs : List ℕ} {s₀ s₁ s₂ s₃ : ℕ} → w < 2 ^ 32
    → bs ≡ w % 2 ^ 8 ∷ w / 2 ^ 8 % 2 ^ 8 ∷ w / 2 ^ 16 % 2 ^ 8 ∷ w / 2 ^ 24 % 2 ^ 8 ∷ []
    → s₀ ≡ spread (get_or bs 0 0) → s₁ ≡ spread (get_or bs 1 0) → s₂ ≡ spread (get_or bs 2 0) → s₃ ≡ spread (get_or bs 3 0)
    → bit_xor (bit_xor (s₃ * 2 ^ 16 % 2 ^ 64) s₂ * 2 ^ 32 % 2 ^ 64) (bit_xor (s₁ * 2 ^ 16 % 2 ^ 64) s₀) ≡ spread w
spread_bytes w h e f₀ f₁ f₂ f₃ =
    let m = and_mask w 16 in
    let low = two_bytes (bit_and w (2 ^ 16 - 1)) (w % 2 ^ 8) (w / 2 ^ 8 % 2 ^ 8) (mask_lt w 16) (omega arith) (omega arith) in
    let high = two_bytes (w / 2 ^ 16) (w / 2 ^ 16 % 2 ^ 8) (w / 2 ^ 24 % 2 ^ 8) (omega arith) (omega arith) (omega arith) in
    rw (rw e at f₀, rw e at f₁, rw e at f₂, rw e at f₃, low, high) (spread_joined 16 w h (omega arith))

pub spread_words : (a : ℕ) {high low : ℕ} → a < 2 ^ 61 → high ≡ spread (a / 2 ^ 32) → low ≡ spread (bit_and a (2 ^ 32 - 1))
    → bit_xor (high * 8 % 2 ^ 64) (low / 2 ^ 61) * 2 ^ 61 + bit_and low (2 ^ 61 - 1) ≡ spread a
spread_words a {high} {low} ha eh el =
    let h : high < 2 ^ 58 = rw eh (spread_lt 29 (a / 2 ^ 32) (omega arith)) in
    let l : low < 2 ^ 64 = rw el (spread_lt 32 (bit_and a (2 ^ 32 - 1)) (mask_lt a 32)) in
    let e : high * 2 ^ 64 + low ≡ spread a = rw (eh, el) (spread_parts 32 a) in
    let p : high * 8 % 2 ^ 64 ≡ high * 8 = omega arith in
    let q : bit_xor (high * 8 % 2 ^ 64) (low / 2 ^ 61) ≡ high * 8 + low / 2 ^ 61 =
    rw p (xor_shifted high 3 (low / 2 ^ 61) (omega arith)) in
    rw (q, and_mask low 61) (omega arith)
