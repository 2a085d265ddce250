-- `Polynomial::value_at` meets its contract: r is the value of the coefficients after those that are left.
use Rattle.stamps.proofs.Values.{in_field, none_gone, last_range, one_gone, all_gone}
use Rattle.stamps.proofs.polynomial.Polynomial.value_at.Goals as goal

pub loop-a-init : goal.loop-a-init
loop-a-init c = none_gone cc

pub times_plus-r-requires : goal.times_plus-r-requires
times_plus-r-requires c =
    let f = c.args.self in
    let g = c.loop-a.invariant in (g.value.in_range, in_field _ f.accepted c.requires, last_range _ _ g c.in-Some.ensures.steps f.in_range)

pub loop-a-preserved : goal.loop-a-preserved
loop-a-preserved c = one_gone _ _ c.loop-a.invariant c.in-Some.ensures.steps c.times_plus-r.ensures

pub returns : goal.returns
returns c = all_gone _ c.in-None.ensures.steps.0 c.loop-a.invariant
