-- `suppress::both_replaced` meets its contract.
use mathlib.Core.Path.{ap, ◌∙◌}
use Rattle.written_form.specs.Ranges.{append}
use Rattle.seal_archive.specs.internal.Accepted.{replaced, both_replaced}
use Rattle.seal_archive.proofs.suppress.both_replaced.Goals as goal

pub returns : goal.returns
unfolding both_replaced
returns c =
    c.append.ensures ∙ ap (append _ _ _) (c.replaced-suppressed.ensures ∙ ap (replaced _ _ _ _) c.replaced-sealed.ensures)
