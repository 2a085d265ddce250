-- `inverse_61` meets its contract: each product makes the next power 2^k - 1 of the chain, and the last is squared.
use Rattle.binary_field_theory.proofs.Words.ChainSteps.{first, joins, last}
use Rattle.binary_field.proofs.inverting.inverse_61.Goals as goal

pub returns : goal.returns
returns c =
    let a = c.args.a in
    let e₁ = first 61 a tt c.requires in
    let e₂ = joins 61 a 1 1 tt e₁ e₁ c.joined-a2.ensures.0 in
    let e₃ = joins 61 a 2 1 tt e₂ e₁ c.joined-a3.ensures.0 in
    let e₆ = joins 61 a 3 3 tt e₃ e₃ c.joined-a6.ensures.0 in
    let e₁₂ = joins 61 a 6 6 tt e₆ e₆ c.joined-a12.ensures.0 in
    let e₂₄ = joins 61 a 12 12 tt e₁₂ e₁₂ c.joined-a24.ensures.0 in
    let e₄₈ = joins 61 a 24 24 tt e₂₄ e₂₄ c.joined-a48.ensures.0 in
    let e₆₀ = joins 61 a 48 12 tt e₄₈ e₁₂ c.joined-a60.ensures.0 in
    last 61 a tt e₆₀ c.square_of.ensures
