-- `subtract_and_halve` meets its contract.
use mathlib.Core.Path.{sym, subst}
use Rattle.jacobian.specs.Answer.{Reply, Only, Precedes, subtract_and_halve_answer}
use Rattle.jacobian.proofs.{Calls.two_accept, Moves.subtract_and_halve_is_only}
use Rattle.jacobian.proofs.subtract_and_halve.Goals as goal

pub returns : goal.returns
unfolding subtract_and_halve_answer
returns c =
    let e = c.on_two.ensures in record {
      answer = e;
      taken_back = λ none.
          let both = two_accept c.args.curve c.args.a c.args.b none in
          subst (λ (r : Reply). Only c.args.curve (Precedes c.args.curve c.args.a c.args.b) r.class) (sym e) (subtract_and_halve_is_only both.0 both.1);
    }
