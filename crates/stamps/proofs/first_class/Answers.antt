-- `first_class` meets its contract: before turn i no candidate below i has a class.
use native.Mathlib.Omega.{arith}
use mathlib.Core.Path.{ap, ◌∙◌}
use Rattle.std.specs.Prelude.{Ok}
use Rattle.jacobian.specs.{Answer.accepted, declared.Class.Class}
use Rattle.stamps.specs.Stamps.{stamped}
use Rattle.stamps.proofs.Search.{none_first, one_more, found_at, found_none, class_found, class_missed, root_answered, candidate_lt, bound_le, none_stamped}
use Rattle.stamps.proofs.first_class.Goals as goal

pub overflow_mul-x : goal.overflow_mul-x
overflow_mul-x c = omega (arith, c.requires, bound_le c.args.f.d c.args.f.accepted)

pub overflow_add-x : goal.overflow_add-x
overflow_add-x c = omega (arith, c.requires, bound_le c.args.f.d c.args.f.accepted)

pub value_at-requires : goal.value_at-requires
value_at-requires c = candidate_lt _ _ c.loop-i.i c.args.f.accepted c.requires (omega arith)

pub loop-i-init : goal.loop-i-init
loop-i-init c = none_first _ _ _

pub returns-in-Some : goal.returns-in-Some
unfolding stamped
returns-in-Some c =
    let is = c.in_ok-y.was ∙ ap Ok c.in-Some.is in
    ap (λ (k : Class). record { outcome = accepted; class = k; steps = 0 }) c.point.ensures
    ∙ ap (stamped 0) (found_at _ _ _ c.loop-i.i (omega arith) c.loop-i.invariant (class_found _ _ _ c.args.f.accepted c.value_at.ensures is c.quadratic_root.ensures))

pub loop-i-preserved : goal.loop-i-preserved
loop-i-preserved c =
    one_more _ _ _ _ c.loop-i.invariant (class_missed _ _ _ c.args.f.accepted c.value_at.ensures (c.in_ok-y.was ∙ ap Ok c.in_default.is) c.quadratic_root.ensures)

pub returns-in_err-y : goal.returns-in_err-y
returns-in_err-y c = absurd (root_answered _ _ _ c.args.f.accepted c.value_at.ensures c.in_err-y.was c.quadratic_root.ensures)

pub returns : goal.returns
returns c = none_stamped ∙ ap (stamped 0) (found_none _ _ _ _ c.loop-i.auto.i-end c.loop-i-test.false c.loop-i.invariant)
