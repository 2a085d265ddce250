-- The invariant of `suppress::doublings`: before a turn the class has been doubled as often as there were turns.
use mathlib.Core.Path.{◌≡◌}
use Rattle.jacobian.specs.{Group.doublings}
use Rattle.seal_archive.proofs.suppress.doublings.Given as goal

abbrev pub invariant-loop : goal.invariant-loop
invariant-loop l = l.double ≡ doublings l.curve l.counter l.initial.double
