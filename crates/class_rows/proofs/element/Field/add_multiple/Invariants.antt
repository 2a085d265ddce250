-- The invariant of `add_multiple`: the numbers below shift + i are those of a + c x^shift b, the others those of a.
use Prim.Native.Nat.{◌+◌, ◌≤◌}
use Rattle.row_theory.specs.{Field.𝔸, Field.el, Field.poly, internal.Elements.x_power}
use Rattle.row_theory.proofs.Rows.{Fill.Filled}
use Rattle.class_rows.proofs.element.Field.add_multiple.Given as goal

abbrev pub invariant-loop-i : goal.invariant-loop-i
invariant-loop-i l =
    let d = l.self.degree in
    (l.shift + l.i-end ≤ 12)
    × Filled d l.r (l.shift + l.i) ((𝔸 d).ring.add (poly d l.initial.r) ((𝔸 d).ring.mul ((𝔸 d).con (el d l.c)) ((𝔸 d).ring.mul (x_power d l.shift) (poly d l.b)))) (poly d l.initial.r)
