-- The invariant of `halved_of_accepted`: before a turn the class has been halved as often as there were turns.
use mathlib.Core.Path.{◌≡◌}
use Rattle.seal_licence.specs.Multiples.{halved_class}
use Rattle.seal_licence.proofs.multiples.halved_of_accepted.Given as goal

abbrev pub invariant-loop : goal.invariant-loop
invariant-loop l = l.half ≡ halved_class l.curve l.initial.half l.counter
