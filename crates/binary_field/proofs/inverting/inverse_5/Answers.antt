-- `inverse_5` meets its contract: each product makes the next power 2^k - 1 of the chain, and the last is squared.
use Rattle.binary_field_theory.proofs.Words.ChainSteps.{first, joins, last}
use Rattle.binary_field.proofs.inverting.inverse_5.Goals as goal

pub returns : goal.returns
returns c =
    let a = c.args.a in
    let e₁ = first 5 a tt c.requires in
    let e₂ = joins 5 a 1 1 tt e₁ e₁ c.joined-a2.ensures.0 in
    let e₄ = joins 5 a 2 2 tt e₂ e₂ c.joined-a4.ensures.0 in
    last 5 a tt e₄ c.square_of.ensures
