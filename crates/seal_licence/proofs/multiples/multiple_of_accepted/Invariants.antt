-- The invariant of `multiple_of_accepted`: before the turn for digit i - 1 the class is n / 2^i times the one given.
use Prim.Native.Nat.{◌/◌, ◌^◌}
use mathlib.Core.Path.{◌≡◌}
use Rattle.seal_licence.specs.Multiples.{multiple_class}
use Rattle.seal_licence.proofs.multiples.multiple_of_accepted.Given as goal

abbrev pub invariant-loop-i : goal.invariant-loop-i
invariant-loop-i l = l.times ≡ multiple_class l.curve l.a (l.n / 2 ^ l.i)
