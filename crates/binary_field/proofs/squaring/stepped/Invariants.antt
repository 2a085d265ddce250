-- The invariant of `stepped`: after i turns the loop holds a, squared by i steps.
use mathlib.Core.Path.{◌≡◌}
use Prim.Native.Nat.{◌<◌, ◌*◌, ◌^◌}
use Rattle.binary_field_theory.specs.Element.{squarings}
use Rattle.binary_field.specs.Degree.{degree_number}
use Rattle.binary_field.proofs.squaring.stepped.Given as goal

abbrev pub invariant-loop : goal.invariant-loop
invariant-loop g l =
    let d = degree_number (g.S.Squaring.field_degree l.by) in
    (l.power ≡ squarings d (l.counter * g.S.Squaring.times) l.a) × (l.power < 2 ^ d)
