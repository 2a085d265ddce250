-- `stepped` meets its contract.
use Rattle.binary_field_theory.proofs.Words.ChainSteps.{no_step, one_step_more}
use Rattle.binary_field.proofs.Degrees.{accepted}
use Rattle.binary_field.proofs.squaring.stepped.Goals as goal

pub loop-init : goal.loop-init
loop-init g c = no_step _ _ _ c.requires

pub loop-preserved : goal.loop-preserved
loop-preserved g c =
    one_step_more _ _ _ c.loop.counter (accepted (g.S.Squaring.field_degree c.args.by)) c.loop.invariant c.step-power.ensures
