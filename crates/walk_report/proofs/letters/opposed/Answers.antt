-- `letters::opposed` meets its contract.
use Rattle.std.proofs.Common.{rules, ap, ◌∙◌}
use Rattle.jacobian.specs.{Classes.same_class, Answer.Reply}
use Rattle.jacobian.proofs.ByValue.Equality.{class_equal}
use Rattle.walk_report.specs.Walk.{opposed}
use Rattle.walk_report.proofs.letters.opposed.Goals as goal

pub returns : goal.returns
unfolding opposed
returns c =
    c.eq.ensures
    ∙ class_equal _ _ (search rules) (search rules) (search rules) (search rules)
    ∙ ap (same_class c.args.a) (c.class_of.ensures ∙ ap (λ (r : Reply). r.class) c.opposite.ensures)
