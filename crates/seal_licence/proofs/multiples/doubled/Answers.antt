-- `doubled` meets its contract.
use Prim.Native.Nat.{◌/◌}
use mathlib.Core.Path.{◌∙◌, ap}
use native.Mathlib.Omega.{arith}
use Rattle.jacobian.specs.Answer.{double_answer, double_and_add_answer}
use Rattle.jacobian.proofs.{Calls.double_gives, Moves.double_and_add_gives}
use Rattle.written_form.proofs.Given.{is_given, given_class}
use Rattle.seal_licence.proofs.Values.{multiple_accepts, odd_turn, even_turn}
use Rattle.seal_licence.proofs.multiples.doubled.Goals as goal

pub unwrap-requires : goal.unwrap-requires
unwrap-requires c =
    let p = c.requires in
    is_given _ (c.double_and_add.ensures ∙ ap (λ x. double_and_add_answer c.args.curve x c.args.a) p.1) (double_and_add_gives (multiple_accepts p.0 (c.args.n / 2)) p.0)

pub returns-then-n-eq1 : goal.returns-then-n-eq1
returns-then-n-eq1 c =
    let p = c.requires in
    given_class c.unwrap.ensures (c.double_and_add.ensures ∙ ap (λ x. double_and_add_answer c.args.curve x c.args.a) p.1) ∙ odd_turn p.0 c.args.n (omega arith)

pub unwrap-requires-2 : goal.unwrap-requires-2
unwrap-requires-2 c =
    let p = c.requires in
    is_given _ (c.double.ensures ∙ ap (double_answer c.args.curve) p.1) (double_gives c.args.curve (multiple_accepts p.0 (c.args.n / 2)))

pub returns : goal.returns
returns c =
    let p = c.requires in
    given_class c.unwrap-2.ensures (c.double.ensures ∙ ap (double_answer c.args.curve) p.1) ∙ even_turn p.0 c.args.n (omega arith)
