-- `suppress::doublings` meets its contract: before a turn the class has been doubled as often as there were turns.
use Prim.Native.Nat.{suc, ◌+◌}
use mathlib.Core.Path.{◌≡◌, refl, ◌∙◌, ap}
use native.Mathlib.Omega.{arith}
use Rattle.class_group.specs.Multiples.{repeat}
use Rattle.jacobian.specs.{Answer.double_answer, Group.doublings}
use Rattle.jacobian.proofs.Group.{doublings_give}
use Rattle.written_form.proofs.Given.{is_given, given_class}
use Rattle.seal_archive.proofs.suppress.doublings.Goals as goal

pub loop-init : goal.loop-init
unfolding repeat
loop-init c = refl

pub unwrap-requires : goal.unwrap-requires
unwrap-requires c =
    is_given _ (c.double.ensures ∙ ap (double_answer c.args.curve) c.loop.invariant) (doublings_give c.args.curve c.requires c.loop.counter)

pub loop-preserved : goal.loop-preserved
unfolding repeat
loop-preserved c =
    let more : suc c.loop.counter ≡ c.loop.counter + 1 = omega arith in
    given_class c.unwrap.ensures (c.double.ensures ∙ ap (double_answer c.args.curve) c.loop.invariant) ∙ ap (λ j. doublings c.args.curve j c.args.a) more
