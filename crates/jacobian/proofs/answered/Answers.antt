-- `answered` meets its contract.
use Prim.Native.Nat.{ℕ}
use mathlib.Core.Path.{◌≡◌, sym, ap, ap₂, ◌∙◌}
use native.Mathlib.Omega.{arith}
use Rattle.std.specs.Prelude.{Some, None, is_some}
use Rattle.std.proofs.lemmas.Result.{err_from_is_err_and}
use Rattle.refusals.specs.Refusals.{number}
use Rattle.refusals.specs.declared.Refusal.TheVariants.{NotAClass}
use Rattle.jacobian.specs.{Checks.unless, declared.Class.Class, Answer.accepted, Answer.answered}
use Rattle.jacobian.proofs.{ByValue.Answers.at_refusal, ByValue.Answers.refuses, ByValue.Pairs.stands_class}
use Rattle.jacobian.proofs.answered.Goals as goal

pub returns-in_err-pair : goal.returns-in_err-pair
unfolding unless
returns-in_err-pair c d D h =
    let p = err_from_is_err_and c.from_residual.result c.from_residual.ensures.1 in
    let none : c.args.rows ≡ None = grind arith in
    let is : c.in_err-pair.field-0.0 ≡ NotAClass = grind arith in
    rw (p.1, p.2) (refuses d D _ (ap number is ∙ sym (ap (λ r. unless (is_some r) 111) none)))

pub returns : goal.returns
unfolding unless answered
returns c d D h =
    let given : c.args.rows ≡ Some c.in_ok-pair.field-0 = grind arith in
    let s = h _ given in
    at_refusal d D (sym (ap (λ r. unless (is_some r) 111) given))
    (ap₂ (λ (k : Class) (n : ℕ). record { outcome = accepted; class = k; steps = n }) (stands_class d s.pair_stands (c.into.ensures d)) s.steps_is)
