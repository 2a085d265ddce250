-- The theory's operations on one class and on two, with their reduction steps; an opposite and a half make none.
use Rattle.field_laws.specs.Field.{Field2}
use Rattle.char2_algebra.specs.Polynomials.{Polynomials}
use Rattle.class_group.specs.Curve.{Curve}
use Rattle.class_group.specs.{Mumford.Pair, Mumford.opposite, Reduction.Counted, Operations.counted_sum, Operations.counted_double, Half.half, Moves.counted_double_and_add, Moves.counted_subtract_and_halve}
use Rattle.class_rows.specs.declared.{Unary.Unary, Unary.TheVariants.Opposite, Unary.TheVariants.Double, Unary.TheVariants.Half, Binary.Binary}
use Rattle.class_rows.specs.declared.Binary.TheVariants.{Sum, DoubleAndAdd, SubtractAndHalve}

module _ {K P : Type 0} {F : Field2 K} {A : Polynomials F P} where
  -- the opposite, double or half of a class; the half is the only reduced class whose double is the class
  abbrev pub unary : Unary → Curve A → Pair P → Counted P
  unary Opposite C D = record { class = opposite C D; steps = 0 }
  unary Double C D = counted_double C D
  unary Half C D = record { class = half C D; steps = 0 }

  -- the sum of two classes; twice the first plus the second; or the half of the first less the second, which is the
  -- only reduced class that doubled, plus the second, is the first
  abbrev pub binary : Binary → Curve A → Pair P → Pair P → Counted P
  binary Sum C D E = counted_sum C D E
  binary DoubleAndAdd C D E = counted_double_and_add C D E
  binary SubtractAndHalve C D E = counted_subtract_and_halve C D E
