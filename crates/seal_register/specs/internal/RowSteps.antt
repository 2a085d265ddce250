-- The steps of a walk over a lent row: the refusal before the first step, one step, and the end.
use Rattle.std.specs.Prelude.{ℕ, zero, suc, eqb, Ok, Err}
use Rattle.std.specs.Prelude as Prelude
use Rattle.refusals.specs.{Refusals.number, declared.Refusal.Refusal}
use Rattle.jacobian.specs.{Checks.unless, Checks.◌or_else◌, Curves.curve_refusal}
use Rattle.jacobian.specs.Answer.{accepted, refused, refusal, neutral_class, Result, result, subtract_and_halve_answer}
use Rattle.jacobian.specs.declared.{Curve.Curve, Class.Class}
use Rattle.count_limit.specs.Limit.{count_refusal}

-- the refusal before the first step over n classes; where n is not 0, that step checks the curve and the last seal
unfoldable pub start_refusal : Curve → Class → ℕ → ℕ
start_refusal c last zero = refusal c last
start_refusal c last (suc n) = unless (eqb (count_refusal (suc n)) 0) (curve_refusal c or_else count_refusal (suc n))

-- one step back; a refused walk stays as it is
unfoldable pub onward : Curve → Result → Class → Result
onward c x a = elim x.outcome [ accepted ↦ result (subtract_and_halve_answer c x.class a) | refused n ↦ x ]

-- the end of the code's walk: the earliest seal, or the refusal with the neutral class
abbrev pub class_result : Prelude.Result Class Refusal → Result
class_result (Ok seal) = record { outcome = accepted; class = seal }
class_result (Err r) = record { outcome = refused (number r); class = neutral_class }
