-- Lists of numbers, k bytes each: how many they are, and lists of them one after the other.
-- `length_decode_numbers`: as many numbers are decoded as are asked for.
-- `decode_numbers_take`: bytes after the numbers do not matter.
-- `decode_numbers_add`: j + n numbers are j numbers, then n numbers.
-- `decode_numbers_at`: the number at a place is decoded from its own bytes.
-- `length_encode_numbers`: each number has k bytes.
-- `encode_numbers_append`: numbers appended to others are encoded after them.
use Prim.Native.Nat.{ℕ, zero, suc, ◌+◌, ◌*◌, ◌-◌, ◌≤◌, ◌<◌}
use mathlib.Core.Path.{◌≡◌, refl, sym, ap, ap₂, ◌∙◌}
use mathlib.Core.List.{List, [], ◌∷◌, ◌++◌, append_assoc}
use native.Mathlib.Nat.{suc-add, mul-zero, mul-suc}
use native.Mathlib.Omega.{arith}
use lib.ListN.{length, get_or, take, drop, length-append}
use lib.Seq.{take-take, drop-drop}
use Rattle.stored_form.specs.Number.{decode_number, encode_number, decode_numbers, encode_numbers, part}
use Rattle.std.proofs.lemmas.Slice.{between_is}
use Rattle.stored_form.proofs.Digits.{length_bytes}

module _ (k : ℕ) where
  pub length_decode_numbers : (n : ℕ) (s : List ℕ) → length (decode_numbers k n s) ≡ n
  unfolding decode_numbers
  length_decode_numbers zero s = refl
  length_decode_numbers (suc n) s = ap suc (length_decode_numbers n (drop k s))

  pub decode_numbers_take : (n m : ℕ) (s : List ℕ) → k * n ≤ m → decode_numbers k n (take m s) ≡ decode_numbers k n s
  unfolding decode_numbers
  decode_numbers_take zero m s h = refl
  decode_numbers_take (suc n) m s h =
      let e : k * suc n ≡ k * n + k = mul-suc k n in
      ap₂ (λ (x : ℕ) (xs : List ℕ). x ∷ xs)
      (ap decode_number (take-take k m s (omega (arith, e))))
      (ap (decode_numbers k n) (sym (between_is s k m)) ∙ decode_numbers_take n (m - k) (drop k s) (omega (arith, e)))

  pub decode_numbers_add : (j n : ℕ) (s : List ℕ) → decode_numbers k (j + n) s ≡ decode_numbers k j s ++ decode_numbers k n (drop (k * j) s)
  unfolding decode_numbers
  decode_numbers_add zero n s = let e : 0 + n ≡ n = omega arith in rw (e, mul-zero k)
  decode_numbers_add (suc j) n s =
      let f : k + k * j ≡ k * suc j = omega (arith, mul-suc k j) in
      rw (suc-add j n) (ap (λ (xs : List ℕ). decode_number (take k s) ∷ xs)
      (decode_numbers_add j n (drop k s)
      ∙ ap (λ (t : List ℕ). decode_numbers k j (drop k s) ++ decode_numbers k n t) (drop-drop (k * j) k s ∙ ap (λ (i : ℕ). drop i s) f)))

  pub decode_numbers_at : (n : ℕ) (s : List ℕ) (i : ℕ) → i < n → get_or (decode_numbers k n s) i 0 ≡ decode_number (part s (k * i) k)
  unfolding decode_numbers
  decode_numbers_at zero s i h = absurd (omega arith)
  decode_numbers_at (suc n) s zero h = rw (mul-zero k) refl
  decode_numbers_at (suc n) s (suc i) h =
      let f : k + k * i ≡ k * suc i = omega (arith, mul-suc k i) in
      decode_numbers_at n (drop k s) i (omega arith) ∙ ap (λ (t : List ℕ). decode_number (take k t)) (drop-drop (k * i) k s ∙ ap (λ (j : ℕ). drop j s) f)

  pub length_encode_numbers : (xs : List ℕ) → length (encode_numbers k xs) ≡ k * length xs
  unfolding encode_numbers
  length_encode_numbers [] = sym (mul-zero k)
  length_encode_numbers (x ∷ xs) =
      length-append (encode_number k x) (encode_numbers k xs)
      ∙ omega (arith, length_encode_numbers xs, length_bytes k x, mul-suc k (length xs))

  pub encode_numbers_append : (xs ys : List ℕ) → encode_numbers k (xs ++ ys) ≡ encode_numbers k xs ++ encode_numbers k ys
  unfolding encode_numbers
  encode_numbers_append [] ys = refl
  encode_numbers_append (x ∷ xs) ys =
      ap (λ (l : List ℕ). encode_number k x ++ l) (encode_numbers_append xs ys) ∙ sym (append_assoc (encode_number k x) (encode_numbers k xs) (encode_numbers k ys))
