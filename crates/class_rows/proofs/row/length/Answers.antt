-- `row::length` meets its contract. The invariant: the numbers from n on are 0.
use mathlib.Core.Path.{◌≡◌, sym, ◌∙◌}
use Rattle.std.proofs.Common.{rules, arith, length, ◌+◌, ◌-◌}
use Rattle.row_theory.proofs.Rows.Length.{blank_start, blank_less, places_is}
use Rattle.class_rows.proofs.row.length.Goals as goal

pub returns : goal.returns
returns c =
    let z : c.loop-n.n ≡ 0 = omega arith in
    sym z ∙ places_is c.loop-n.invariant (λ h. absurd (omega arith))

pub loop-n-init : goal.loop-n-init
loop-n-init c = let size : length c.args.a ≡ 12 = search rules in blank_start size

pub returns-then-a-n-ne0 : goal.returns-then-a-n-ne0
returns-then-a-n-ne0 c =
    let e : c.loop-n.n - 1 + 1 ≡ c.loop-n.n = omega arith in e ∙ places_is c.loop-n.invariant (λ _. c.if-a-n-ne0.true)

pub loop-n-preserved : goal.loop-n-preserved
loop-n-preserved c = blank_less c.loop-n.invariant c.if-a-n-ne0.false
