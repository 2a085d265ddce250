-- `read_full` meets its contract: what a read gives stands after what the buffer had, and was consumed after it.
use Rattle.std.proofs.Common.{rules, sym, subst}
use Rattle.std.specs.Io.KnownBytes.{Consumes}
use Rattle.std.proofs.KnownBytes.{Consumes-trans}
use Rattle.text.proofs.Filling.{take_put_mid_more}
use Rattle.text.proofs.read_full.Goals as goal

pub loop-done-preserved : goal.loop-done-preserved
loop-done-preserved g c =
    let before = c.loop-done.invariant in
    let read = c.in_ok-n.ensures in
    let more = take_put_mid_more _ _ _ _ c.read.new.buf before.1 read.bound.0 in
    (search rules, search rules, search rules, subst (Consumes _ _) (sym more) (Consumes-trans _ _ _ _ _ before.3 read.bytes.0))
