-- Sum and double of classes: compose, then reduce (docs/SPECIFICATION.md, 2).
use Rattle.field_laws.specs.Field.{Field2}
use Rattle.char2_algebra.specs.Polynomials.{Polynomials}
use Rattle.class_group.specs.Curve.{Curve}
use Rattle.class_group.specs.Mumford.{Pair}
use Rattle.class_group.specs.Composition.{compose, compose_double}
use Rattle.class_group.specs.Reduction.{Counted, reduce}

module _ {K P : Type 0} {F : Field2 K} {A : Polynomials F P} (C : Curve A) where
  -- the sum of two classes, with the number of reduction steps
  unfoldable pub counted_sum : Pair P → Pair P → Counted P
  counted_sum D E = reduce C (compose C D E)

  -- the double of a class, with the number of reduction steps
  unfoldable pub counted_double : Pair P → Counted P
  counted_double D = reduce C (compose_double C D)

  -- the sum of two classes
  unfoldable pub sum : Pair P → Pair P → Pair P
  sum D E = (counted_sum D E).class

  -- the double of a class
  unfoldable pub double : Pair P → Pair P
  double D = (counted_double D).class
