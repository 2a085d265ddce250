-- `Output::push_coefficients` meets its contract: those from the i-th on are pushed.
use mathlib.Core.Path.{◌≡◌}
use native.Mathlib.Omega.{arith}
use lib.ListN.{length}
use Rattle.written_form.proofs.Bytes.{none_pushed, length_pushed, one_pushed, all_pushed}
use Rattle.written_form.proofs.effect.Output.push_coefficients.Goals as goal

pub loop-i-init : goal.loop-i-init
loop-i-init c = let long : length c.args.row ≡ 3 = omega arith in none_pushed _ _ c.args.row long c.requires.0

pub push_number-requires : goal.push_number-requires
push_number-requires c =
    let long : length c.args.row ≡ 3 = omega arith in
    let l = length_pushed c.args.self.now c.args.n c.args.row long c.requires.0 c.loop-i.i c.loop-i.auto.i c.loop-i.invariant in
    (omega arith, omega (arith, l, c.requires.1))

pub loop-i-preserved : goal.loop-i-preserved
loop-i-preserved c =
    let long : length c.args.row ≡ 3 = omega arith in
    one_pushed _ _ c.args.row long c.requires.0 c.loop-i-test.true c.loop-i.auto.i c.loop-i.invariant c.push_number.ensures

pub returns : goal.returns
returns c =
    let long : length c.args.row ≡ 3 = omega arith in all_pushed _ _ c.args.row long c.requires.0 c.loop-i-test.false c.loop-i.invariant
