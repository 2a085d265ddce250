-- Fields that are passed over by the lengths in their heads, within the bytes (docs/SPECIFICATION.md, 9).
use Rattle.std.specs.Prelude.{ℕ, zero, suc, ◌+◌, min, List, length}
use Rattle.stored_form.specs.Head.{body_length}

-- the offset after the field at an offset, but at most the end of the bytes
unfoldable pub next_field : List ℕ → ℕ → ℕ
next_field s at = min (length s) (at + 3 + body_length s at)

-- the offset after the next k fields, likewise
unfoldable pub skip_fields : ℕ → List ℕ → ℕ → ℕ
skip_fields zero s at = at
skip_fields (suc k) s at = skip_fields k s (next_field s at)
