-- `suppress::replaced` meets its contract.
use mathlib.Core.Path.{ap, ◌∙◌}
use Rattle.written_form.specs.Ranges.{append}
use Rattle.seal_archive.specs.internal.Accepted.{replaced}
use Rattle.seal_archive.proofs.suppress.replaced.Goals as goal

pub returns : goal.returns
unfolding replaced
returns c = c.append.ensures ∙ ap (append _ 0 _) c.append-next.ensures
