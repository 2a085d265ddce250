-- What a failed write or read leaves: a part is written or read, and it is not known how much.
use Rattle.std.specs.Prelude.{ℕ, ◌≤◌, List, Option, length, take}
use Rattle.std.specs.Io.KnownBytes.{Appends, Consumes}

-- a front of these bytes was appended to what the writer holds
abbrev pub AppendsFront : Option (List ℕ) → Option (List ℕ) → List ℕ → Type 0
AppendsFront old new bytes = (n : ℕ) × (n ≤ length bytes) × Appends old new (take n bytes)

-- a front of these bytes is what the reader gave
abbrev pub ConsumesFront : Option (List ℕ) → Option (List ℕ) → List ℕ → Type 0
ConsumesFront old new bytes = (n : ℕ) × (n ≤ length bytes) × Consumes old new (take n bytes)
