-- Numbers as bytes, high byte first: how large the number of some bytes is, and the number with one byte more.
-- `number_lt`: the number of bytes is below 256 to the power of their count.
-- `number_snoc`: one more byte is one more digit in base 256.
-- `number_fits`: the number of up to eight bytes is below 2^64.
-- `one_byte`: the number of one byte is that byte.
-- `turn`, `shift_fits`, `turn_fits`: a turn of the loop that decodes bytes.
use Prim.Native.Nat.{ℕ, zero, suc, ◌+◌, ◌*◌, ◌^◌, ◌≤◌, ◌<◌}
use mathlib.Core.Path.{◌≡◌, refl, sym, ap, ap₂, ◌∙◌}
use mathlib.Core.List.{List, [], ◌∷◌, ◌++◌}
use native.Mathlib.Nat.{pow-suc, pow-succ', mul_assoc, pow-le-pow_right, lt_of_lt_of_le}
use native.Mathlib.Numerals.{add-one}
use native.Mathlib.Omega.{arith}
use lib.Dec.{lit<}
use lib.Arith.{digits_lt}
use mir.{Val.Fits, Syntax.w8}
use lib.ListN.{length, get_or, take, drop, length-append, length-take}
use lib.Seq.{take-suc, get_or-drop}
use Rattle.stored_form.specs.Number.{decode_number, encode_number, Bytes, part}

-- ---- the number that bytes decode to

pub number_lt : (bs : List ℕ) → Bytes bs → decode_number bs < 256 ^ length bs
unfolding decode_number
number_lt [] h = lit< tt
number_lt (b ∷ bs) h = rw pow-succ' (digits_lt (h 0) (number_lt bs (λ i. h (suc i))))

pub number_snoc : (bs : List ℕ) (b : ℕ) → decode_number (bs ++ b ∷ []) ≡ decode_number bs * 256 + b
unfolding decode_number
number_snoc [] b = omega arith
number_snoc (a ∷ bs) b =
    let e : a * (256 ^ length bs * 256) ≡ (a * 256 ^ length bs) * 256 = sym (mul_assoc a (256 ^ length bs) 256) in
    ap₂ (λ (l r : ℕ). a * 256 ^ l + r) (length-append bs (b ∷ [])) (number_snoc bs b)
    ∙ rw (add-one, pow-suc, e) (omega arith)

-- ---- the k lowest bytes of a number

pub length_bytes : (k n : ℕ) → length (encode_number k n) ≡ k
unfolding encode_number
length_bytes zero n = refl
length_bytes (suc k) n = ap suc (length_bytes k n)

-- ---- bytes of a list

take_bytes : (k : ℕ) (l : List ℕ) → Bytes l → Bytes (take k l)
take_bytes zero l h i = lit< tt
take_bytes (suc k) [] h i = lit< tt
take_bytes (suc k) (x ∷ l) h zero = h 0
take_bytes (suc k) (x ∷ l) h (suc i) = take_bytes k l (λ j. h (suc j)) i

pub part_bytes : (s : List ℕ) → Bytes s → (at k : ℕ) → Bytes (part s at k)
part_bytes s h at k = take_bytes k (drop at s) (λ i. rw get_or-drop (h (at + i)))

pub number_fits : (s : List ℕ) → Bytes s → length s ≤ 8 → decode_number s < 2 ^ 64
number_fits s h le = lt_of_lt_of_le (number_lt s h) (pow-le-pow_right {n = 256} (lit< tt) {j = 8} le)

pub one_byte : (s : List ℕ) → length s ≡ 1 → decode_number s ≡ get_or s 0 0
unfolding decode_number
one_byte [] e = absurd (omega arith)
one_byte (b ∷ []) e = omega arith
one_byte (b ∷ c ∷ s) e = absurd (omega arith)

pub turn : (s : List ℕ) (i n : ℕ) → i < length s → n ≡ decode_number (take i s) → n * 256 + get_or s i 0 ≡ decode_number (take (i + 1) s)
turn s i n lt e = rw (e, add-one, take-suc s i 0 lt) (sym (number_snoc (take i s) _))

pub turn_fits : (s : List ℕ) (i n : ℕ) → ((j : ℕ) → Fits w8 (get_or s j 0)) → length s ≤ 8 → i < length s → n ≡ decode_number (take i s) → n * 256 + get_or s i 0 < 2 ^ 64
turn_fits s i n h le lt e =
    rw (turn s i n lt e) (number_fits (take (i + 1) s) (take_bytes (i + 1) s (λ j. (h j).fits)) (rw length-take (omega arith)))

pub shift_fits : (s : List ℕ) (i n : ℕ) → ((j : ℕ) → Fits w8 (get_or s j 0)) → length s ≤ 8 → i < length s → n ≡ decode_number (take i s) → n * 256 < 2 ^ 64
shift_fits s i n h le lt e = omega (arith, turn_fits s i n h le lt e)
