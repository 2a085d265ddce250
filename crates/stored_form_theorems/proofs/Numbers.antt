-- A number below 256^k and its k bytes determine each other.
-- `number_bytes_small`: a number below 256^k is decoded from its k bytes.
-- `bytes_number`: bytes are the encoding of the number that they decode to.
use Prim.Native.Nat.{ℕ, zero, suc, ◌+◌, ◌*◌, ◌/◌, ◌%◌, ◌^◌, ◌<◌}
use mathlib.Core.Path.{◌≡◌, refl, sym, ap, ap₂, ◌∙◌}
use mathlib.Core.List.{List, [], ◌∷◌}
use native.Mathlib.Nat.{pow-suc, pow-succ', mul_assoc, mod-eq_of_lt, mul-add-div_right, mul-add-mod_self_right}
use native.Mathlib.Omega.{arith}
use lib.Dec.{lit<}
use lib.Arith.{digits_div, mod-mul}
use lib.ListN.{length}
use Rattle.stored_form.specs.Number.{decode_number, encode_number, Bytes}
use Rattle.stored_form.proofs.Digits.{number_lt, length_bytes}

pow_pos : (k : ℕ) → 0 < 256 ^ k
pow_pos zero = lit< tt
pow_pos (suc k) = rw pow-suc (omega (arith, pow_pos k))

pub number_bytes : (k n : ℕ) → decode_number (encode_number k n) ≡ n % 256 ^ k
unfolding decode_number encode_number
number_bytes zero n = omega arith
number_bytes (suc k) n =
    let low : decode_number (encode_number k n) ≡ n % 256 ^ k = number_bytes k n in
    ap₂ (λ (l r : ℕ). (n / 256 ^ k % 256) * 256 ^ l + r) (length_bytes k n) low
    ∙ sym (ap (λ (m : ℕ). n % m) (pow-succ' 256 k) ∙ mod-mul n (lit< tt) (pow_pos k))

pub number_bytes_small : (k n : ℕ) → n < 256 ^ k → decode_number (encode_number k n) ≡ n
number_bytes_small k n h = number_bytes k n ∙ mod-eq_of_lt h

-- a number's k lowest bytes do not depend on what is above them
bytes_above : (k q r : ℕ) → encode_number k (q * 256 ^ k + r) ≡ encode_number k r
unfolding encode_number
bytes_above zero q r = refl
bytes_above (suc k) q r =
    let e : q * 256 ^ suc k + r ≡ (q * 256) * 256 ^ k + r = rw (pow-succ', mul_assoc) refl in
    rw e (ap₂ (λ (x : ℕ) (xs : List ℕ). x ∷ xs)
    (ap (λ (x : ℕ). x % 256) (mul-add-div_right (pow_pos k) (q * 256) r) ∙ mul-add-mod_self_right q 256 (r / 256 ^ k))
    (bytes_above k (q * 256) r))

pub bytes_number : (bs : List ℕ) → Bytes bs → encode_number (length bs) (decode_number bs) ≡ bs
unfolding decode_number encode_number
bytes_number [] h = refl
bytes_number (b ∷ bs) h =
    let small : decode_number bs < 256 ^ length bs = number_lt bs (λ i. h (suc i)) in
    ap₂ (λ (x : ℕ) (xs : List ℕ). x ∷ xs)
    (ap (λ (x : ℕ). x % 256) (digits_div b small) ∙ mod-eq_of_lt (h 0))
    (bytes_above (length bs) b (decode_number bs) ∙ bytes_number bs (λ i. h (suc i)))
