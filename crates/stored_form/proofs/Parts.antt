-- The length of a part of a list.
use Prim.Native.Nat.{ℕ, ◌+◌, ◌≤◌}
use mathlib.Core.Path.{◌≡◌}
use mathlib.Core.List.{List}
use native.Mathlib.Omega.{arith}
use lib.ListN.{length, length-take, length-drop}
use Rattle.stored_form.specs.Number.{part}

pub length_part : (s : List ℕ) (at k : ℕ) → at + k ≤ length s → length (part s at k) ≡ k
length_part s at k h = rw (length-take, length-drop) (omega arith)
