-- `classes::decode_row` meets its contract.
use Rattle.std.proofs.Common.{rules, tests, ◌∙◌}
use Rattle.stored_form.proofs.Items.{row_element, made, row_is}
use Rattle.stored_form.proofs.classes.decode_row.Goals as goal

pub returns : goal.returns
returns c =
    let body = c.args.body.now in
    made _ _ (row_element body c.args.n) (λ i y q k. search (rules, tests)) _ _ c.from_fn.ensures.items ∙ row_is body c.args.n c.requires.0
