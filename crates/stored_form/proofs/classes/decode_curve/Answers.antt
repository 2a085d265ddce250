-- `classes::decode_curve` meets its contract.
use Rattle.std.proofs.Common.{rules, ◌∙◌}
use Rattle.stored_form.proofs.Items.{element, made, curve_is}
use Rattle.stored_form.proofs.classes.decode_curve.Goals as goal

pub returns : goal.returns
returns c =
    let body = c.args.body.now in
    c.curve_with.ensures ∙ curve_is c.args.d body _ (made _ _ (element body) (λ i y q k. search rules) _ _ c.from_fn.ensures.items)
