-- No other call byte has an answer.
use Rattle.std.proofs.Common.{arith, refl, get_or, ◌<◌, ◌≤◌}
use Rattle.conformance.proofs.Calls.{no_such_call}
use Rattle.conformance.proofs.ClassesTrial.answer.Goals as goal

pub returns-in_default : goal.returns-in_default
returns-in_default c =
    let call = get_or c.args.case.bytes.now 0 0 in
    let other : 0 < call → call ≤ 15 → ⊥ = λ p q. omega arith in
    let told = no_such_call call c.curve-curve.result c.class-a.result c.class-b.result other in
    ((cc), refl)
