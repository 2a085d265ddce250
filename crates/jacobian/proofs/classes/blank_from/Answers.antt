-- `blank_from` meets its contract: the iterator tests each number from index n on.
use Prim.Native.Nat.{ℕ, ◌-◌}
use mathlib.Core.Path.{◌≡◌, ◌∙◌}
use native.Mathlib.Omega.{arith}
use lib.ListN.{length, drop}
use Rattle.std.proofs.Common.{rules, tests}
use Rattle.std.proofs.lemmas.List.{take_all, length-drop}
use Rattle.std.proofs.lemmas.Iterator.{cases_from_all, YieldsList-from_slice}
use Rattle.jacobian.proofs.ByValue.Below.{padded_decided}
use Rattle.jacobian.proofs.classes.blank_from.Goals as goal

pub returns : goal.returns
returns c =
    let n = c.args.n in
    let r = c.args.r in
    let size : length r ≡ 3 = search rules in
    let rest = take_all (3 - n) (drop n r) (omega (arith, length-drop n r, size)) in
    padded_decided n r c.all.result size
    (cases_from_all _ _ _ (λ (x : ℕ). x ≡ 0) (λ x. ¬ (x ≡ 0)) c.all.ensures.ran (YieldsList-from_slice (drop n r) (c.iter.ensures.rest ∙ rest)) (λ x q k. search (rules, tests)) (λ x q k. search (rules, tests)))
