-- `half_trace_5` meets its contract: each step adds a term.
use Rattle.binary_field_theory.specs.Quadratic.{half_trace}
use Rattle.binary_field_theory.proofs.Words.HalfTraces.{one_term, terms_added}
use Rattle.binary_field.proofs.quadratics.half_trace_5.Goals as goal

pub returns : goal.returns
unfolding half_trace
returns c =
    let a = c.args.a in
    let e₁ = one_term 5 a in
    let e₂ = terms_added 5 a 1 1 tt e₁ e₁ c.terms_joined-h2.ensures.0 in
    terms_added 5 a 1 2 tt e₂ e₁ c.terms_joined.ensures.0
