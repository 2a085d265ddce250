-- The invariant of `multisquare`: after i turns the loop holds what the i lowest digits give.
use mathlib.Core.Path.{◌≡◌}
use Prim.Native.Nat.{◌*◌, ◌%◌, ◌^◌}
use Rattle.binary_field_theory.specs.Element.{squarings}
use Rattle.binary_field.proofs.multisquaring.multisquare.Given as goal

abbrev pub invariant-loop-i : goal.invariant-loop-i
invariant-loop-i l = l.sum ≡ squarings 61 6 (l.a % 2 ^ (4 * l.i))
