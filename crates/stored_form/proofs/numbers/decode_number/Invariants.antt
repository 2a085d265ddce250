-- The invariant of `numbers::decode_number`: n is the number of the bytes so far.
use mathlib.Core.Path.{◌≡◌}
use lib.ListN.{take}
use Rattle.stored_form.specs.Number.{decode_number}
use Rattle.stored_form.proofs.numbers.decode_number.Given as goal

abbrev pub invariant-loop-b : goal.invariant-loop-b
invariant-loop-b l = l.n ≡ decode_number (take l.b-index l.bytes)
