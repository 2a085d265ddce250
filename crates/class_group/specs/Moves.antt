-- The two rules that move a seal: double and add, and subtract and halve (docs/SPECIFICATION.md, 2.8).
use Rattle.std.specs.Prelude.{◌+◌}
use Rattle.field_laws.specs.Field.{Field2}
use Rattle.char2_algebra.specs.Polynomials.{Polynomials}
use Rattle.class_group.specs.Curve.{Curve}
use Rattle.class_group.specs.Mumford.{Pair, opposite}
use Rattle.class_group.specs.Reduction.{Counted}
use Rattle.class_group.specs.Operations.{sum, double, counted_sum, counted_double}
use Rattle.class_group.specs.Half.{half}

module _ {K P : Type 0} {F : Field2 K} {A : Polynomials F P} (C : Curve A) where
  -- the rule of a commit: twice the seal, plus the operation's class
  unfoldable pub double_and_add : Pair P → Pair P → Pair P
  double_and_add S D = sum C (double C S) D

  -- the rule of an undo: the operation's class is subtracted from the seal, and the difference is halved
  unfoldable pub subtract_and_halve : Pair P → Pair P → Pair P
  subtract_and_halve S D = half C (sum C S (opposite C D))

  -- `double_and_add` with the number of reduction steps, those of the double and of the sum
  unfoldable pub counted_double_and_add : Pair P → Pair P → Counted P
  counted_double_and_add S D =
      let twice = counted_double C S in
      let total = counted_sum C twice.class D in
      record { class = total.class; steps = twice.steps + total.steps }

  -- `subtract_and_halve` with the number of reduction steps, those of the sum; halving makes none
  unfoldable pub counted_subtract_and_halve : Pair P → Pair P → Counted P
  counted_subtract_and_halve S D =
      let rest = counted_sum C S (opposite C D) in
      record { class = half C rest.class; steps = rest.steps }
