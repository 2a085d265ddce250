-- Elements as bytes, eight each, high byte first (docs/SPECIFICATION.md, 5).
use Rattle.std.specs.Prelude.{ℕ, List}
use Rattle.stored_form.specs.Number.{decode_numbers, encode_numbers}

-- the number of bytes of an element
abbrev pub element_length : ℕ
element_length = 8

-- the k elements that bytes decode to
abbrev pub decode_elements : ℕ → List ℕ → List ℕ
decode_elements k s = decode_numbers element_length k s

-- elements encoded, one after the other
abbrev pub encode_elements : List ℕ → List ℕ
encode_elements xs = encode_numbers element_length xs
