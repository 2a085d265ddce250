-- The bytes passed so far are appended.
use Rattle.std.proofs.Common.{◌≡◌, take}
use Rattle.text.specs.Line.{with_bytes}
use Rattle.text.proofs.Line.push_bytes.Given as goal

abbrev pub invariant-loop-b : goal.invariant-loop-b
invariant-loop-b l = l.self ≡ with_bytes l.initial.self (take l.b-index l.bytes)
