-- The pairs of an archive, 0x48: which operation holds which (docs/SPECIFICATION.md, 5, 6 and 9).
-- A pair is one number of four bytes: the number of its later operation times 65,536, plus that of its earlier one.
use Rattle.std.specs.Prelude.{ℕ, ◌+◌, ◌*◌, ◌/◌, ◌%◌, Result, Ok, Err, Bool, true, cond, not, ◌&&◌, List, [], ◌∷◌, eqb, leb, ltb, length, get_or}
use Rattle.jacobian.specs.Checks.{unless}
use Rattle.stored_form.specs.Number.{decode_number, decode_numbers, encode_numbers, part}
use Rattle.stored_form.specs.{Reading.Reading, Reading.found, Reading.refused, Reading.refuse, Reading.checked, Reading.◌then◌}
use Rattle.stored_form.specs.{Head.encode_field, Head.pairs_limit, Reader.read_head_by}
use Rattle.stored_form.specs.declared.Cursor.{Cursor}
use Rattle.refusals.specs.{Refusals.number, declared.Refusal.Refusal}

-- the number of bytes of a pair
abbrev pub pair_length : ℕ
pair_length = 4

-- the number of a pair's later operation
abbrev pub later : ℕ → ℕ
later p = p / 65536

-- the number of a pair's earlier operation
abbrev pub earlier : ℕ → ℕ
earlier p = p % 65536

-- ---- rules

-- whether n is the length of 1 to 2,048 pairs
unfoldable pub pairs_length : ℕ → Bool
pairs_length n = ltb 0 n && leb n pairs_limit && eqb (n % pair_length) 0

-- whether a pair names two of n operations: the earlier at least 1 and below the later, the later at most n
unfoldable pub pair_within : ℕ → ℕ → Bool
pair_within n p = leb 1 (earlier p) && ltb (earlier p) (later p) && leb (later p) n

-- whether pairs come after the pair `last` in strictly ascending order, and each is within n
unfoldable pub pairs_after : ℕ → ℕ → List ℕ → Bool
pairs_after n last [] = true
pairs_after n last (p ∷ ps) = ltb last p && pair_within n p && pairs_after n p ps

-- 122 if the pairs of an archive with n operations break a rule, else 0
unfoldable pub pairs_refusal : ℕ → List ℕ → ℕ
pairs_refusal n ps = unless (pairs_after n 0 ps) 122

-- ---- stored form

-- the pairs that a body decodes to
unfoldable pub decode_pairs : List ℕ → List ℕ
decode_pairs body = decode_numbers pair_length (length body / pair_length) body

-- the field of pairs, 0x48; without pairs there is no field
unfoldable pub pairs_field : List ℕ → List ℕ
pairs_field [] = []
pairs_field (p ∷ ps) = encode_field 0x48 (encode_numbers pair_length (p ∷ ps))

-- reads the field 0x48 of an archive with n operations
unfoldable pub read_pairs_field : ℕ → List ℕ → ℕ → Reading (List ℕ)
read_pairs_field n s at =
    read_head_by 0x48 pairs_length s at then λ len next.
    let pairs = decode_pairs (part s (at + 3) len) in
    checked (pairs_refusal n pairs) (found pairs next)

-- reads the pairs of an archive with n operations: none if no byte is left, else 112 unless the next one is 0x48
unfoldable pub read_pairs : ℕ → List ℕ → ℕ → Reading (List ℕ)
read_pairs n s at =
    cond (leb (length s) at) (found [] at)
    (refuse 112 (not (eqb (get_or s at 0) 0x48)) (read_pairs_field n s at))

-- ---- the answers of the code

-- the offset that the code answers, as a reading of no value
abbrev pub offset_reading : Result Cursor Refusal → Reading (Unit {0})
offset_reading (Ok next) = found tt next.at
offset_reading (Err r) = refused (number r)

-- a reading without its value
abbrev pub without_value : {A : Type 0} → Reading A → Reading (Unit {0})
without_value (found a next) = found tt next
without_value (refused n) = refused n

-- pair i of those that begin at an offset, and 0 if the input ends before it does
unfoldable pub pair_at : List ℕ → ℕ → ℕ → ℕ
pair_at s at i = cond (leb (at + pair_length * (i + 1)) (length s)) (decode_number (part s (at + pair_length * i) pair_length)) 0
