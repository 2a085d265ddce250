-- The walk over a lent row of classes, newest first, refusals included (docs/SPECIFICATION.md, 6 and 8).
use Rattle.std.specs.Prelude.{ℕ, ◌≡◌, List, [], ◌∷◌, reverse, length}
use Rattle.jacobian.specs.{Checks.◌or_else◌, Curves.curve_refusal, Classes.class_refusal}
use Rattle.jacobian.specs.Answer.{verdict_of, Result, Only}
use Rattle.jacobian.specs.declared.{Curve.Curve, Class.Class}
use Rattle.count_limit.specs.Limit.{count_refusal}
use Rattle.history.specs.Register.{sealed}
use Rattle.history.specs.Calls.{walk_forward, walk_back}
use Rattle.seal_register.specs.declared.walk.RowWalk.{RowWalk}

-- 104, 110 or 111 of the first refused class of a row; 0 where none is refused
unfoldable pub classes_refusal : Curve → List Class → ℕ
classes_refusal c [] = 0
classes_refusal c (a ∷ ops) = class_refusal c a or_else classes_refusal c ops

-- 106 or 107 of the curve, then 109 for more classes than the limit, then 104, 110 or 111 of the last seal, then of the
-- classes, newest first
unfoldable pub row_refusal : Curve → Class → List Class → ℕ
row_refusal c last ops =
    curve_refusal c
    or_else count_refusal (length ops)
    or_else class_refusal c last
    or_else classes_refusal c ops

-- what a walk answers: the earliest seal, or the refusal with the neutral class
unfoldable pub row_walk_answer : Curve → Class → List Class → Result
row_walk_answer c last ops = sealed (row_refusal c last ops) (walk_back c last ops)

-- what a walk promises: its answer; and if accepted, its seal is the only accepted one from which a walk forward over
-- the classes, oldest first, ends in the last seal
pub record RowWalkAnswers (c : Curve) (last : Class) (ops : List Class) (x : Result) : Type 0 where
  pub answer : x ≡ row_walk_answer c last ops
  pub taken_back : row_refusal c last ops ≡ 0 → Only c (λ h. walk_forward c h (reverse ops) ≡ last) x.class

-- the answer of the code's walk: accepted where its number is 0
abbrev pub reached : RowWalk → Result
reached w = record { outcome = verdict_of w.refusal; class = w.seal }
