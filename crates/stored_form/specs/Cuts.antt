-- Fields cut by the lengths in their heads (docs/SPECIFICATION.md, 5).
use Rattle.std.specs.Prelude.{ℕ, zero, suc, ◌+◌, List, take, drop}
use Rattle.stored_form.specs.Head.{body_length}

-- the offset after the next k fields
unfoldable pub fields_end : ℕ → List ℕ → ℕ → ℕ
fields_end zero s at = at
fields_end (suc k) s at = fields_end k s (at + 3 + body_length s at)

-- the bytes of the first k fields
abbrev pub take_fields : ℕ → List ℕ → List ℕ
take_fields k s = take (fields_end k s 0) s

-- the bytes after the first k fields
abbrev pub drop_fields : ℕ → List ℕ → List ℕ
drop_fields k s = drop (fields_end k s 0) s
