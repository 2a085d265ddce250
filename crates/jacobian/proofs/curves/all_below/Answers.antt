-- `all_below` meets its contract: the iterator tests each number.
use Prim.Native.Nat.{◌≤◌, ◌<◌}
use Rattle.std.proofs.Common.{rules, tests}
use Rattle.std.proofs.lemmas.Iterator.{cases_from_all, YieldsList-from_slice}
use Rattle.jacobian.proofs.ByValue.Below.{below_decided}
use Rattle.jacobian.proofs.curves.all_below.Goals as goal

pub returns : goal.returns
returns c =
    below_decided c.args.m c.args.numbers.now c.all.result
    (cases_from_all _ _ _ (λ x. x < c.args.m) (λ x. c.args.m ≤ x) c.all.ensures.ran (YieldsList-from_slice c.args.numbers.now cc) (λ x q k. search (rules, tests)) (λ x q k. search (rules, tests)))
