-- Examples of our own, on curves whose f3, f1 and f0 are all different and neither 0 nor 1 (docs/SPECIFICATION.md, 2):
-- sums, doubles, halves, and classes that are not on the curve with f3 and f1 exchanged. The numbers are those of the
-- second implementation, reference/; proofs/Examples.antt proves that every row holds.
use Rattle.std.specs.Prelude.{List, [], ◌∷◌}
use Rattle.jacobian.specs.declared.{Curve.Curve, Class.Class}
use Rattle.jacobian.specs.Examples.{Example, twice_is, half_is, sum_is, on_and_not_on}

-- ---- over the bench field

-- the curve of f = x^7 + 6 x^3 + 11 x + 21, where the numbers are elements
abbrev pub bench_curve : Curve
bench_curve = record { degree = 5; f3 = 6; f1 = 11; f0 = 21 }

-- the same with f3 and f1 exchanged
abbrev pub bench_exchanged : Curve
bench_exchanged = record { degree = 5; f3 = 11; f1 = 6; f0 = 21 }

-- two classes, their sum, and twice the first
abbrev pub bench_first : Class
bench_first = record { degree = 3; u = 6 ∷ 7 ∷ 0 ∷ []; v = 14 ∷ 25 ∷ 13 ∷ [] }

abbrev pub bench_second : Class
bench_second = record { degree = 3; u = 16 ∷ 23 ∷ 4 ∷ []; v = 6 ∷ 13 ∷ 17 ∷ [] }

abbrev pub bench_sum : Class
bench_sum = record { degree = 3; u = 22 ∷ 22 ∷ 12 ∷ []; v = 17 ∷ 21 ∷ 14 ∷ [] }

abbrev pub bench_double : Class
bench_double = record { degree = 2; u = 4 ∷ 18 ∷ 0 ∷ []; v = 6 ∷ 25 ∷ 0 ∷ [] }

-- the examples over the bench field
abbrev pub bench_table : List Example
bench_table =
    sum_is bench_curve bench_first bench_second bench_sum
    ∷ twice_is bench_curve bench_first bench_double
    ∷ half_is bench_curve bench_double bench_first 1
    ∷ on_and_not_on bench_curve bench_exchanged bench_first
    ∷ []

-- ---- over the field of degree 61

-- a curve with coefficients from the whole field
abbrev pub wide_curve : Curve
wide_curve = record { degree = 61; f3 = 81985529205931230; f1 = 71737338064426034; f0 = 87109624488290476 }

-- the same with f3 and f1 exchanged
abbrev pub wide_exchanged : Curve
wide_exchanged = record { degree = 61; f3 = 71737338064426034; f1 = 81985529205931230; f0 = 87109624488290476 }

-- the class of a point, and twice it
abbrev pub wide_point : Class
wide_point = record { degree = 1; u = 3 ∷ 0 ∷ 0 ∷ []; v = 1329588464726371856 ∷ 0 ∷ 0 ∷ [] }

abbrev pub wide_double : Class
wide_double = record { degree = 2; u = 5 ∷ 0 ∷ 0 ∷ []; v = 2126316328334836307 ∷ 382960188612025281 ∷ 0 ∷ [] }

-- the examples over the field of degree 61
abbrev pub wide_table : List Example
wide_table =
    twice_is wide_curve wide_point wide_double
    ∷ half_is wide_curve wide_double wide_point 0
    ∷ on_and_not_on wide_curve wide_exchanged wide_point
    ∷ []
