-- What the checks of a walk over a lent row require, in checking order, and the numbers with which it can refuse
-- (docs/SPECIFICATION.md, 6 and 8).
use Rattle.std.specs.Prelude.{ℕ, List, [], ◌∷◌, ◌++◌, length}
use Rattle.jacobian.specs.{Checks.Check, Checking.curve_checks, Checking.class_checks, declared.Curve.Curve, declared.Class.Class}
use Rattle.count_limit.specs.Checking.{count_check}

-- the checks of the classes of a row, newest first
abbrev pub classes_checks : Curve → List Class → List Check
classes_checks c [] = []
classes_checks c (a ∷ ops) = class_checks c a ++ classes_checks c ops

-- the checks of a walk: those of the curve, then of the row's length, then of the last seal, then of the classes
abbrev pub row_checks : Curve → Class → List Class → List Check
row_checks c last ops = curve_checks c ++ (count_check (length ops) ∷ (class_checks c last ++ classes_checks c ops))

-- the numbers with which a walk can refuse
unfoldable pub row_numbers : List ℕ
row_numbers = 104 ∷ 106 ∷ 107 ∷ 109 ∷ 110 ∷ 111 ∷ []
