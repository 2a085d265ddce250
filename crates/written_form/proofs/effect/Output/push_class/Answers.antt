-- `Output::push_class` meets its contract.
use mathlib.Core.Path.{◌≡◌}
use native.Mathlib.Omega.{arith}
use lib.ListN.{length}
use Rattle.written_form.proofs.Bytes.{head_pushed, first_pushed, class_pushed}
use Rattle.written_form.proofs.effect.Output.push_class.Goals as goal

pub push_coefficients-requires : goal.push_coefficients-requires
push_coefficients-requires c = let l = head_pushed _ _ _ c.push_head.ensures in (omega arith, omega arith)

pub push_coefficients-requires-2 : goal.push_coefficients-requires-2
push_coefficients-requires-2 c =
    let long : length c.args.a.u ≡ 3 = omega arith in
    let also : length c.args.a.v ≡ 3 = omega arith in
    let l = first_pushed c.args.a c.min-n.result c.min-n.ensures long also c.args.self.now c.push_head.ensures c.push_coefficients.ensures in
    (omega arith, omega arith)

pub returns : goal.returns
returns c =
    let long : length c.args.a.u ≡ 3 = omega arith in
    let also : length c.args.a.v ≡ 3 = omega arith in
    class_pushed c.args.a c.min-n.result c.min-n.ensures long also c.args.self.now c.push_head.ensures c.push_coefficients.ensures c.push_coefficients-2.ensures
