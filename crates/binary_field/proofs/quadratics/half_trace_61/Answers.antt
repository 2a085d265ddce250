-- `half_trace_61` meets its contract: each step makes the next number of terms of the chain.
use Rattle.binary_field_theory.specs.Quadratic.{half_trace}
use Rattle.binary_field_theory.proofs.Words.HalfTraces.{one_term, terms_added}
use Rattle.binary_field.proofs.quadratics.half_trace_61.Goals as goal

pub returns : goal.returns
unfolding half_trace
returns c =
    let a = c.args.a in
    let e₁ = one_term 61 a in
    let e₂ = terms_added 61 a 1 1 tt e₁ e₁ c.terms_joined-h2.ensures.0 in
    let e₃ = terms_added 61 a 1 2 tt e₂ e₁ c.terms_joined-h3.ensures.0 in
    let e₆ = terms_added 61 a 3 3 tt e₃ e₃ c.terms_joined-h6.ensures.0 in
    let e₁₂ = terms_added 61 a 6 6 tt e₆ e₆ c.terms_joined-h12.ensures.0 in
    let e₂₄ = terms_added 61 a 12 12 tt e₁₂ e₁₂ c.terms_joined-h24.ensures.0 in
    let e₃₀ = terms_added 61 a 6 24 tt e₂₄ e₆ c.terms_joined-h30.ensures.0 in
    terms_added 61 a 1 30 tt e₃₀ e₁ c.terms_joined.ensures.0
