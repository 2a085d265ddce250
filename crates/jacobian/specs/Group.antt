-- The calls as operations on the accepted classes of a curve: the class of each answer, without outcome and steps
-- (docs/SPECIFICATION.md, 2 and 11).
use Rattle.std.specs.Prelude.{ℕ}
use Rattle.class_group.specs.Multiples.{repeat}
use Rattle.jacobian.specs.Answer.{opposite_answer, double_answer, sum_answer}
use Rattle.jacobian.specs.declared.{Curve.Curve, Class.Class}

-- the class that the sum answers
abbrev pub sum_of : Curve → Class → Class → Class
sum_of c a b = (sum_answer c a b).class

-- the class that the opposite answers
abbrev pub opposite_of : Curve → Class → Class
opposite_of c a = (opposite_answer c a).class

-- the class that the double answers
abbrev pub double_of : Curve → Class → Class
double_of c a = (double_answer c a).class

-- a - b: a plus the opposite of b
abbrev pub difference : Curve → Class → Class → Class
difference c a b = sum_of c a (opposite_of c b)

-- k calls of double, each on the class before it
abbrev pub doublings : Curve → ℕ → Class → Class
doublings c k a = repeat (double_of c) k a
