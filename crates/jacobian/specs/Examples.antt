-- The twelve examples (docs/SPECIFICATION.md, 2.9) as one table, and what each row of it says.
-- proofs/Examples.antt proves that every row holds over either field.
use Rattle.std.specs.Prelude.{ℕ, ◌≡◌, List, [], ◌∷◌}
use Rattle.class_group.specs.Mumford.{Pair}
use Rattle.class_group.specs.Operations.{double, sum}
use Rattle.class_group.specs.Half.{half}
use Rattle.row_theory.specs.Field.{Poly}
use Rattle.jacobian.specs.declared.Curve.{Curve}
use Rattle.jacobian.specs.declared.Class.{Class}
use Rattle.jacobian.specs.Curves.{curve, curve_with}
use Rattle.jacobian.specs.Classes.{pair}
use Rattle.jacobian.specs.Answer.{Result, result, accepted, refused, membership_answer, double_answer, half_answer, sum_answer}

-- a row of the table, on a curve. `twice_is`: twice a class is the last class. `half_is`: the half of a class is the
-- last class, and the double of that takes so many reduction steps. `sum_is`: the sum of two classes is the last class.
-- `on_and_not_on`: a class is on the first curve and not on the second.
pub data Example : Type 0 where
  twice_is : Curve → Class → Class → Example
  half_is : Curve → Class → Class → ℕ → Example
  sum_is : Curve → Class → Class → Class → Example
  on_and_not_on : Curve → Curve → Class → Example

-- the operation's pair is the pair of the class r, and the call by value answers r
abbrev pub Gives : (c : Curve) → Pair (Poly c.degree) → Result → Class → Type 0
Gives c D s r = (D ≡ pair c.degree r) × (s ≡ record { outcome = accepted; class = r })

-- the statement of a row; 111 is the refusal where u does not divide v² + v + f
abbrev pub Holds : Example → Type 0
Holds (twice_is c a r) = Gives c (double (curve c) (pair c.degree a)) (result (double_answer c a)) r
Holds (half_is c a r n) = Gives c (half (curve c) (pair c.degree a)) (result (half_answer c a)) r × ((double_answer c r).steps ≡ n)
Holds (sum_is c a b r) = Gives c (sum (curve c) (pair c.degree a) (pair c.degree b)) (result (sum_answer c a b)) r
Holds (on_and_not_on c e a) = (membership_answer c a ≡ accepted) × (membership_answer e a ≡ refused 111)

-- the curve of f = x^7
abbrev pub A : ℕ → Curve
A d = curve_with d (0 ∷ 0 ∷ 0 ∷ [])

-- the curve of f = x^7 + 1
abbrev pub B : ℕ → Curve
B d = curve_with d (0 ∷ 0 ∷ 1 ∷ [])

-- the classes [u, v] by value: the degree of u, the coefficients of u below its leading term, and those of v, the
-- lowest power first
abbrev pub [1|0] : Class
[1|0] = record { degree = 0; u = 0 ∷ 0 ∷ 0 ∷ []; v = 0 ∷ 0 ∷ 0 ∷ [] }

abbrev pub [x|0] : Class
[x|0] = record { degree = 1; u = 0 ∷ 0 ∷ 0 ∷ []; v = 0 ∷ 0 ∷ 0 ∷ [] }

abbrev pub [x|1] : Class
[x|1] = record { degree = 1; u = 0 ∷ 0 ∷ 0 ∷ []; v = 1 ∷ 0 ∷ 0 ∷ [] }

abbrev pub [x+1|0] : Class
[x+1|0] = record { degree = 1; u = 1 ∷ 0 ∷ 0 ∷ []; v = 0 ∷ 0 ∷ 0 ∷ [] }

abbrev pub [x+1|1] : Class
[x+1|1] = record { degree = 1; u = 1 ∷ 0 ∷ 0 ∷ []; v = 1 ∷ 0 ∷ 0 ∷ [] }

abbrev pub [x²|0] : Class
[x²|0] = record { degree = 2; u = 0 ∷ 0 ∷ 0 ∷ []; v = 0 ∷ 0 ∷ 0 ∷ [] }

abbrev pub [x²+1|x+1] : Class
[x²+1|x+1] = record { degree = 2; u = 1 ∷ 0 ∷ 0 ∷ []; v = 1 ∷ 1 ∷ 0 ∷ [] }

abbrev pub [x³|0] : Class
[x³|0] = record { degree = 3; u = 0 ∷ 0 ∷ 0 ∷ []; v = 0 ∷ 0 ∷ 0 ∷ [] }

abbrev pub [x³|1] : Class
[x³|1] = record { degree = 3; u = 0 ∷ 0 ∷ 0 ∷ []; v = 1 ∷ 0 ∷ 0 ∷ [] }

abbrev pub [x³+x²+1|0] : Class
[x³+x²+1|0] = record { degree = 3; u = 1 ∷ 0 ∷ 1 ∷ []; v = 0 ∷ 0 ∷ 0 ∷ [] }

abbrev pub [x³+x²+1|1] : Class
[x³+x²+1|1] = record { degree = 3; u = 1 ∷ 0 ∷ 1 ∷ []; v = 1 ∷ 0 ∷ 0 ∷ [] }

abbrev pub [x³+x²+x+1|x] : Class
[x³+x²+x+1|x] = record { degree = 3; u = 1 ∷ 1 ∷ 1 ∷ []; v = 0 ∷ 1 ∷ 0 ∷ [] }

abbrev pub [x³+x²+x+1|x+1] : Class
[x³+x²+x+1|x+1] = record { degree = 3; u = 1 ∷ 1 ∷ 1 ∷ []; v = 1 ∷ 1 ∷ 0 ∷ [] }

-- the examples, in order
abbrev pub table : ℕ → List Example
table d =
    twice_is (A d) [x|0] [x²|0]
    ∷ twice_is (A d) [x²|0] [x³|1]
    ∷ twice_is (A d) [x³|1] [x|0]
    ∷ half_is (A d) [1|0] [1|0] 0
    ∷ half_is (B d) [x²+1|x+1] [x+1|0] 0
    ∷ half_is (B d) [x³+x²+1|0] [x²+1|x+1] 1
    ∷ half_is (B d) [x³+x²+x+1|x] [x³+x²+1|0] 2
    ∷ sum_is (A d) [x|0] [x|1] [1|0]
    ∷ sum_is (A d) [x³|0] [x³|0] [x|1]
    ∷ sum_is (B d) [x²+1|x+1] [x+1|1] [x+1|0]
    ∷ sum_is (B d) [x³+x²+1|0] [x³+x²+x+1|x+1] [x³+x²+1|1]
    ∷ on_and_not_on (A d) (B d) [x|0]
    ∷ []
