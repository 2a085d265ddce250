-- `halved_of_accepted` meets its contract: before a turn the class has been halved as often as there were turns.
use Prim.Native.Nat.{suc, ◌+◌}
use mathlib.Core.Path.{◌≡◌, sym, ◌∙◌, ap}
use native.Mathlib.Omega.{arith}
use Rattle.jacobian.specs.Answer.{half_answer}
use Rattle.jacobian.proofs.Calls.{half_gives}
use Rattle.written_form.proofs.Given.{is_given, given_class}
use Rattle.seal_licence.specs.Multiples.{halved_class}
use Rattle.seal_licence.proofs.Values.{halved_accepts, halved_none, halved_next}
use Rattle.seal_licence.proofs.multiples.halved_of_accepted.Goals as goal

pub loop-init : goal.loop-init
loop-init c = sym (halved_none c.requires)

pub unwrap-requires : goal.unwrap-requires
unwrap-requires c =
    is_given _ (c.half.ensures.answer ∙ ap (half_answer c.args.curve) c.loop.invariant) (half_gives c.args.curve (halved_accepts c.requires c.loop.counter))

pub loop-preserved : goal.loop-preserved
loop-preserved c =
    let i = c.loop.counter in
    let more : suc i ≡ i + 1 = omega arith in
    given_class c.unwrap.ensures (c.half.ensures.answer ∙ ap (half_answer c.args.curve) c.loop.invariant)
    ∙ halved_next c.requires i
    ∙ ap (halved_class c.args.curve c.args.a) more
