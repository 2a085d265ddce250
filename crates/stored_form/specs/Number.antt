-- Numbers as bytes, high byte first (docs/SPECIFICATION.md, 5).
use Rattle.std.specs.Prelude.{ℕ, zero, suc, ◌+◌, ◌*◌, ◌/◌, ◌%◌, ◌^◌, ◌<◌, List, [], ◌∷◌, ◌++◌, length, get_or, take, drop}

-- the number that bytes decode to
unfoldable pub decode_number : List ℕ → ℕ
decode_number [] = 0
decode_number (b ∷ bs) = b * 256 ^ length bs + decode_number bs

-- the k lowest bytes of a number, high byte first
unfoldable pub encode_number : ℕ → ℕ → List ℕ
encode_number zero n = []
encode_number (suc k) n = n / 256 ^ k % 256 ∷ encode_number k n

-- the n numbers of k bytes each that bytes decode to
unfoldable pub decode_numbers : ℕ → ℕ → List ℕ → List ℕ
decode_numbers k zero s = []
decode_numbers k (suc n) s = decode_number (take k s) ∷ decode_numbers k n (drop k s)

-- numbers encoded in k bytes each, one after the other
unfoldable pub encode_numbers : ℕ → List ℕ → List ℕ
encode_numbers k [] = []
encode_numbers k (x ∷ xs) = encode_number k x ++ encode_numbers k xs

-- every number of the list is below 256
abbrev pub Bytes : List ℕ → Type 0
Bytes s = (i : ℕ) → get_or s i 0 < 256

-- the k bytes of s from an offset on
abbrev pub part : List ℕ → ℕ → ℕ → List ℕ
part s at k = take k (drop at s)
