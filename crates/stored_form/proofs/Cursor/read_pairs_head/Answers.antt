-- `Cursor::read_pairs_head` meets its contract.
use mathlib.Core.Path.{ap, ◌∙◌}
use Rattle.stored_form.specs.Pairs.{pairs_length}
use Rattle.stored_form.proofs.Heads.{head_by_length}
use Rattle.stored_form.proofs.Cursor.read_pairs_head.Goals as goal

pub returns : goal.returns
returns c =
    c.read_head_by.ensures
    ∙ head_by_length 0x48 pairs_length c.args.s.now c.args.self.at (c.pairs_allow.ensures ∙ ap pairs_length c.length_at.ensures)
