-- `digits` meets its contract.
use Rattle.seal_licence.proofs.Values.{digits_end}
use Rattle.seal_licence.proofs.multiples.digits.Goals as goal

pub returns : goal.returns
returns c = digits_end c.args.n c.requires
