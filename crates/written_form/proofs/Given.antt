-- A call by value that gives a class, as code that unwraps its answer sees it.
-- `is_given`: the answer is `Ok`. `given_class`: its class is the one that is given.
use mathlib.Core.Path.{◌≡◌, refl, sym, ap, ◌∙◌}
use Rattle.std.specs.Result.{IsOk}
use Rattle.std.specs.Prelude as std
use Rattle.refusals.specs.{Refusals.number, declared.Refusal.Refusal}
use Rattle.jacobian.specs.{Answer.accepted, Answer.refused, Answer.Reply, Answer.Result, Answer.reply, Answer.result, Answer.gives, declared.Class.Class, declared.CountedClass.CountedClass}

pub is_given : (x : std.Result CountedClass Refusal) {r : Reply} {a : Class} → reply x ≡ r → result r ≡ gives a → IsOk x
is_given (std.Ok y) e f = refl
is_given (std.Err n) e f = let g : refused (number n) ≡ accepted = ap (λ (r : Reply). r.outcome) e ∙ ap (λ (r : Result). r.outcome) f in cc

pub given_class : {x : std.Result CountedClass Refusal} {y : CountedClass} {r : Reply} → x ≡ std.Ok y → reply x ≡ r → y.class ≡ r.class
given_class is e = ap (λ (r : Reply). r.class) (ap reply (sym is) ∙ e)
