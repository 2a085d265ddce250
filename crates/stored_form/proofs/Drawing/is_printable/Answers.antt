-- `Drawing::is_printable` meets its contract: the chain tests each byte of the number.
use Rattle.std.proofs.Common.{rules, tests, ◌∙◌}
use Rattle.std.proofs.lemmas.Iterator.{YieldsList-from_slice, YieldsList-from_take}
use Rattle.std.proofs.lemmas.Iterator.Search.{all_from_yields_List}
use Rattle.stored_form.specs.Record.{drawing_name}
use Rattle.stored_form.proofs.DrawingBytes.{printable_byte, printable_all}
use Rattle.stored_form.proofs.Drawing.is_printable.Goals as goal

pub returns : goal.returns
unfolding drawing_name
returns c =
    let d = c.args.self.now in
    all_from_yields_List printable_byte _ _ _ c.all.ensures.ran (YieldsList-from_take d.len (YieldsList-from_slice d.bytes cc) cc) (λ x b q k. search (rules, tests))
    ∙ printable_all _
