-- `suppress::seal_less` meets its contract.
use mathlib.Core.Path.{ap, ◌∙◌}
use Rattle.jacobian.specs.Answer.{opposite_answer, sum_answer}
use Rattle.jacobian.proofs.{Calls.opposite_accepts, Group.doublings_accept, Group.opposite_given, Group.sum_given}
use Rattle.written_form.proofs.Given.{is_given, given_class}
use Rattle.seal_archive.proofs.suppress.seal_less.Goals as goal

pub unwrap-requires : goal.unwrap-requires
unwrap-requires c =
    is_given _ (c.opposite.ensures ∙ ap (opposite_answer c.args.curve) c.doublings-more.ensures)
    (opposite_given c.args.curve (doublings_accept c.args.curve c.requires.1 c.args.n))

pub unwrap-requires-2 : goal.unwrap-requires-2
unwrap-requires-2 c =
    let minus = given_class c.unwrap.ensures (c.opposite.ensures ∙ ap (opposite_answer c.args.curve) c.doublings-more.ensures) in
    is_given _ (c.sum.ensures ∙ ap (sum_answer c.args.curve c.args.seal) minus)
    (sum_given c.args.curve c.requires.0 (opposite_accepts c.args.curve (doublings_accept c.args.curve c.requires.1 c.args.n)))

pub returns : goal.returns
returns c =
    let minus = given_class c.unwrap.ensures (c.opposite.ensures ∙ ap (opposite_answer c.args.curve) c.doublings-more.ensures) in
    given_class c.unwrap-2.ensures (c.sum.ensures ∙ ap (sum_answer c.args.curve c.args.seal) minus)
