-- `multiple_of_accepted` meets its contract: before the turn for digit i - 1 the class is n / 2^i times the one given.
use Prim.Native.Nat.{suc, ◌-◌, ◌/◌, ◌^◌}
use mathlib.Core.Path.{◌≡◌, sym, ◌∙◌, ap}
use native.Mathlib.Omega.{arith}
use Rattle.class_group.proofs.Digits.{digits_left}
use Rattle.seal_licence.specs.Multiples.{multiple_class}
use Rattle.seal_licence.proofs.Values.{multiple_none}
use Rattle.seal_licence.proofs.multiples.multiple_of_accepted.Goals as goal

pub loop-i-init : goal.loop-i-init
loop-i-init c =
    c.neutral-times.ensures ∙ multiple_none c.requires.0 ∙ ap (multiple_class c.args.curve c.args.a) (sym c.digits-i.ensures.1)

pub doubled-times-requires : goal.doubled-times-requires
doubled-times-requires c =
    let next : suc (c.loop-i.i - 1) ≡ c.loop-i.i = omega (arith, c.loop-i-test.true) in
    (c.requires.0, c.loop-i.invariant ∙ ap (multiple_class c.args.curve c.args.a) (ap (λ i. c.args.n / 2 ^ i) (sym next) ∙ digits_left c.args.n (c.loop-i.i - 1)))
