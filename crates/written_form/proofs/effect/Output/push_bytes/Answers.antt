-- `Output::push_bytes` meets its contract: the array stays 0 after the bytes.
use mathlib.Core.Path.{ap}
use native.Mathlib.Omega.{arith}
use lib.ListN.{length}
use Rattle.std.proofs.lemmas.List.{length-take-le}
use Rattle.written_form.proofs.Outputs.{pushed_long, pushed_rest}
use Rattle.written_form.proofs.effect.Output.push_bytes.Goals as goal

pub invariant_of-self : goal.invariant_of-self
invariant_of-self c =
    let is = c.self.invariant in
    let o = c.self.inside in (
      omega (arith, c.requires, length-take-le o.len o.bytes is.1, ap length c.self.view_is),
      pushed_long o.len o.bytes is.1 is.2 c.args.more.now c.copy.ensures,
      pushed_rest o.len o.bytes is.1 is.2 c.args.more.now c.copy.ensures,
    )
