-- `check_divisor` meets its contract.
use mathlib.Core.Path.{sym, ◌∙◌, ap}
use Rattle.jacobian.specs.{Checks.unless}
use Rattle.jacobian.proofs.ByValue.Refusals.{form_shape, class_due}
use Rattle.jacobian.proofs.classes.check_divisor.Goals as goal

pub rows-requires : goal.rows-requires
rows-requires c = (form_shape c.args.c c.args.a c.requires.1).low

pub returns-then-is_divisor : goal.returns-then-is_divisor
unfolding unless
returns-then-is_divisor c =
    sym (ap (λ t. unless t 111) c.if-is_divisor.true) ∙ class_due c.args.c c.args.a c.requires.1 c.requires.0 c.f_row.ensures c.rows.ensures c.is_divisor.ensures

pub returns-else-is_divisor : goal.returns-else-is_divisor
unfolding unless
returns-else-is_divisor c =
    sym (ap (λ t. unless t 111) c.if-is_divisor.false) ∙ class_due c.args.c c.args.a c.requires.1 c.requires.0 c.f_row.ensures c.rows.ensures c.is_divisor.ensures
