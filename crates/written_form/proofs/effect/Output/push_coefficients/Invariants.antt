-- The invariant of `Output::push_coefficients`: those from the i-th on are pushed.
use mathlib.Core.Path.{◌≡◌}
use mathlib.Core.List.{◌++◌, reverse}
use lib.ListN.{take, drop}
use Rattle.stored_form.specs.Elements.{encode_elements}
use Rattle.written_form.proofs.effect.Output.push_coefficients.Given as goal

abbrev pub invariant-loop-i : goal.invariant-loop-i
invariant-loop-i l = l.self ≡ l.initial.self ++ encode_elements (reverse (drop l.i (take l.n l.row)))
