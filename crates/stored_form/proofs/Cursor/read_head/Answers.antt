-- `Cursor::read_head` meets its contract.
use mathlib.Core.Path.{ap, ◌∙◌}
use Rattle.stored_form.specs.Tags.{rules}
use Rattle.stored_form.proofs.Heads.{head_by_length}
use Rattle.stored_form.proofs.Cursor.read_head.Goals as goal

pub returns : goal.returns
returns c = λ h.
    let allows = (rules c.args.tag).allows h in
    c.read_head_by.ensures ∙ head_by_length c.args.tag allows c.args.s.now c.args.self.at (c.allows.ensures h ∙ ap allows c.length_at.ensures)
