-- `check_range` meets its contract: each return by the tests that led to it.
use mathlib.Core.Path.{sym, ◌∙◌}
use Rattle.jacobian.specs.{Checks.unless}
use Rattle.jacobian.proofs.classes.check_range.Goals.{else-all_below-via-then-all_below+else-all_below-2, else-all_below-via-else-all_below}
use Rattle.jacobian.proofs.classes.check_range.Goals as goal

pub returns-then-all_below-2 : goal.returns-then-all_below-2
unfolding unless
returns-then-all_below-2 c = simp (sym c.all_below.ensures ∙ c.if-all_below.true, sym c.all_below-then-all_below.ensures ∙ c.if-all_below-2.true)

pub returns-else-all_below : goal.returns-else-all_below
unfolding unless
returns-else-all_below c = elim c.else-all_below.branch [
  | else-all_below-via-then-all_below+else-all_below-2 w ↦ simp (sym c.all_below.ensures ∙ w.if-all_below.true, sym w.all_below-then-all_below.ensures ∙ w.if-all_below-2.false)
  | else-all_below-via-else-all_below w ↦ simp (sym c.all_below.ensures ∙ w.if-all_below.false)
]
