-- `half` meets its contract.
use mathlib.Core.Path.{sym, subst}
use Rattle.jacobian.specs.Answer.{Reply, Only, IsHalf, half_answer}
use Rattle.jacobian.proofs.Calls.{half_is_only}
use Rattle.jacobian.proofs.half.Goals as goal

pub returns : goal.returns
unfolding half_answer
returns c =
    let e = c.on_one.ensures in record {
      answer = e;
      is_half = λ none. subst (λ (r : Reply). Only c.args.curve (IsHalf c.args.curve c.args.a) r.class) (sym e) (half_is_only c.args.curve (record { none = none }));
    }
