-- Lists of numbers of one width, as elements are, and their bytes determine each other.
-- `numbers_bytes`: numbers that fit w bytes are decoded from their bytes.
-- `bytes_numbers`: bytes are the encoding of the numbers that they decode to.
use Prim.Native.Nat.{ℕ, zero, suc, ◌+◌, ◌*◌, ◌^◌, ◌≤◌, ◌<◌}
use mathlib.Core.Path.{◌≡◌, refl, sym, ap, ap₂, ◌∙◌}
use mathlib.Core.List.{List, [], ◌∷◌, ◌++◌}
use native.Mathlib.Omega.{arith}
use native.Mathlib.Nat.{lt_of_lt_of_le, mul-zero, mul-suc}
use lib.Dec.{lit≤}
use lib.ListN.{length, take, drop, length-take, length-drop, take-append-drop}
use lib.Seq.{get_or-drop, take_at, drop_at}
use Rattle.lists.specs.Lists.{All, more}
use Rattle.stored_form.specs.Number.{decode_number, encode_number, decode_numbers, encode_numbers, Bytes}
use Rattle.stored_form.proofs.Digits.{part_bytes, length_bytes}
use Rattle.stored_form_theorems.proofs.Numbers.{bytes_number, number_bytes_small}

-- every number fits the bytes of an element
abbrev pub Small : List ℕ → Type 0
Small = All (λ x. x < 2 ^ 64)

module _ (w : ℕ) where
  pub numbers_bytes : (xs : List ℕ) → All (λ x. x < 256 ^ w) xs → decode_numbers w (length xs) (encode_numbers w xs) ≡ xs
  unfolding decode_numbers encode_numbers
  numbers_bytes [] h = refl
  numbers_bytes (x ∷ xs) (more h r) =
      let n = length_bytes w x in
      ap₂ (λ (y : ℕ) (ys : List ℕ). y ∷ ys)
      (ap decode_number (take_at (encode_number w x) (encode_numbers w xs) w n) ∙ number_bytes_small w x h)
      (ap (decode_numbers w (length xs)) (drop_at (encode_number w x) (encode_numbers w xs) w n) ∙ numbers_bytes xs r)

  pub bytes_numbers : (k : ℕ) (s : List ℕ) → length s ≡ w * k → Bytes s → encode_numbers w (decode_numbers w k s) ≡ s
  unfolding decode_numbers encode_numbers
  bytes_numbers zero [] h b = refl
  bytes_numbers zero (x ∷ s) h b = absurd (omega (arith, mul-zero w))
  bytes_numbers (suc k) s h b =
      let more : w * suc k ≡ w * k + w = mul-suc w k in
      let first : length (take w s) ≡ w = length-take w s ∙ omega (arith, more) in
      let rest : length (drop w s) ≡ w * k = length-drop w s ∙ omega (arith, more) in
      ap₂ (λ (xs ys : List ℕ). xs ++ ys)
      (ap (λ (j : ℕ). encode_number j (decode_number (take w s))) (sym first) ∙ bytes_number (take w s) (part_bytes s b 0 w))
      (bytes_numbers k (drop w s) rest (λ i. rw get_or-drop (b (w + i))))
      ∙ take-append-drop w s

-- numbers below 2^d fit the bytes of an element
pub fits : (d : ℕ) {n : ℕ} → 2 ^ d ≤ 2 ^ 61 → n < 2 ^ d → n < 2 ^ 64
fits d le lt = lt_of_lt_of_le (lt_of_lt_of_le lt le) (lit≤ tt)
