-- `check_shape` meets its contract: each return by the tests that led to it.
use mathlib.Core.Path.{sym, ◌∙◌}
use borrow.Author.Tests.{le-leb, lt-leb}
use Rattle.jacobian.specs.{Checks.unless, Classes.shape_refusal}
use Rattle.jacobian.proofs.classes.check_shape.Goals.{else-a-le3-via-then-a-le3+then-blank_from+else-blank_from-2, else-a-le3-via-then-a-le3+else-blank_from, else-a-le3-via-else-a-le3}
use Rattle.jacobian.proofs.classes.check_shape.Goals as goal

pub returns-then-blank_from-2 : goal.returns-then-blank_from-2
unfolding shape_refusal unless
returns-then-blank_from-2 c =
    simp (
      le-leb _ _ c.if-a-le3.true,
      sym c.blank_from.ensures ∙ c.if-blank_from.true,
      sym c.blank_from-then-blank_from.ensures ∙ c.if-blank_from-2.true,
    )

pub returns-else-a-le3 : goal.returns-else-a-le3
unfolding shape_refusal unless
returns-else-a-le3 c = elim c.else-a-le3.branch [
  | else-a-le3-via-then-a-le3+then-blank_from+else-blank_from-2 w ↦ simp (
    le-leb _ _ w.if-a-le3.true,
    sym w.blank_from.ensures ∙ w.if-blank_from.true,
    sym w.blank_from-then-blank_from.ensures ∙ w.if-blank_from-2.false,
  )
  | else-a-le3-via-then-a-le3+else-blank_from w ↦ simp (le-leb _ _ w.if-a-le3.true, sym w.blank_from.ensures ∙ w.if-blank_from.false)
  | else-a-le3-via-else-a-le3 w ↦ simp (lt-leb _ _ w.if-a-le3.false)
]
