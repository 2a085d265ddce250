-- What each call by value gives for classes that pass their checks, and so for those of a record that is read.
-- `opposite_given`, `double_given`, `half_given`, `sum_given`: the class that each call gives passes them too.
use mathlib.Core.Path.{◌≡◌}
use Rattle.jacobian.specs.Answer.{Result, result, gives, opposite_answer, double_answer, half_answer, sum_answer}
use Rattle.jacobian.specs.declared.{Curve.Curve, Class.Class}
use Rattle.jacobian.proofs.Calls.{opposite_gives, double_gives, half_gives, sum_gives, opposite_accepts, double_accepts, half_accepts, sum_accepts}
use Rattle.jacobian.proofs.Group.{gives_own}
use Rattle.stored_form.specs.Passing.{ClassPasses}
pub use Rattle.stored_form_theorems.proofs.Passing.{curve_holds, class_holds, sum_holds, register_holds, step_holds}

-- an answer that gives a class that passes
pub record Given (c : Curve) (r : Result) : Type 0 where
  pub gives_class : r ≡ gives r.class
  pub passes : ClassPasses c r.class

pub given : {c : Curve} {r : Result} {x : Class} → r ≡ gives x → ClassPasses c r.class → Given c r
given e h = record { gives_class = gives_own e; passes = h }

module _ {c : Curve} {a : Class} (p : ClassPasses c a) where
  pub opposite_given : Given c (result (opposite_answer c a))
  opposite_given = given (opposite_gives c p) (opposite_accepts c p)

  pub double_given : Given c (result (double_answer c a))
  double_given = given (double_gives c p) (double_accepts c p)

  pub half_given : Given c (result (half_answer c a))
  half_given = given (half_gives c p) (half_accepts c p)

  pub sum_given : {b : Class} → ClassPasses c b → Given c (result (sum_answer c a b))
  sum_given q = given (sum_gives c p q) (sum_accepts c p q)
