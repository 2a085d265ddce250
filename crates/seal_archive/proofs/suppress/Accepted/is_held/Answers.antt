-- `suppress::Accepted::is_held` meets its contract: before each turn the pairs that were looked at do not hold operation k.
use Prim.Native.Nat.{◌/◌}
use mathlib.Core.Path.{◌≡◌, sym, ◌∙◌}
use native.Mathlib.Omega.{arith}
use Rattle.seal_archive.proofs.Held.{held_begin, later_low, held_found, held_turn, held_none, pairs_inside}
use Rattle.seal_archive.proofs.suppress.Accepted.is_held.Goals as goal

pub loop-i-init : goal.loop-i-init
loop-i-init c = held_begin c.args.self.now.accepted c.skip_fields-end.ensures c.length_at-m.ensures c.args.k

pub overflow_add-end : goal.overflow_add-end
overflow_add-end c =
    let some : ¬ (c.length_at-m.result / 4 ≡ 0) = λ e. omega (arith, c.loop-i.auto.i) in
    let fits = pairs_inside c.args.self.now.accepted c.skip_fields-end.ensures c.length_at-m.ensures some in omega (arith, fits)

pub overflow_sub-number : goal.overflow_sub-number
overflow_sub-number c =
    rw c.later-later.ensures (later_low c.args.self.now.accepted c.skip_fields-end.ensures c.length_at-m.ensures c.args.k c.loop-i.invariant c.loop-i-test.true c.pair_at-p.ensures)

pub returns-then-holds : goal.returns-then-holds
returns-then-holds c =
    let skipped = rw c.later-later.ensures at c.skip_fields-at.ensures in
    held_found c.args.self.now.accepted c.skip_fields-end.ensures c.length_at-m.ensures c.args.k c.loop-i.invariant c.loop-i-test.true c.pair_at-p.ensures skipped
    (sym c.holds.ensures ∙ c.if-holds.true)

pub loop-i-preserved : goal.loop-i-preserved
loop-i-preserved c =
    let skipped = rw c.later-later.ensures at c.skip_fields-at.ensures in
    rw c.later-later.ensures (held_turn c.args.self.now.accepted c.skip_fields-end.ensures c.length_at-m.ensures c.args.k c.loop-i.invariant c.loop-i-test.true c.pair_at-p.ensures skipped
    (sym c.holds.ensures ∙ c.if-holds.false))

pub returns : goal.returns
returns c = held_none c.args.self.now.accepted c.skip_fields-end.ensures c.length_at-m.ensures c.args.k c.loop-i.invariant c.loop-i-test.false
