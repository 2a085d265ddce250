-- `effect::put` meets its contract.
use native.Mathlib.Omega.{arith}
use Rattle.written_form.specs.Effect.{response}
use Rattle.written_form.proofs.Effects.{put_short, put_all}
use Rattle.written_form.proofs.effect.put.Goals as goal

pub returns-then-output-bytes : goal.returns-then-output-bytes
returns-then-output-bytes c = put_short (response c.args.answer c.args.bytes.now) _ c.if-output-bytes.true c.number.ensures

pub returns : goal.returns
returns c = put_all (response c.args.answer c.args.bytes.now) _ (omega arith) c.copy.ensures
