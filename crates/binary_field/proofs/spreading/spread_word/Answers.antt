-- `spread_word` meets its contract: the four bytes are spread apart.
use Rattle.binary_field_theory.proofs.Words.Halves.{spread_bytes}
use Rattle.binary_field.proofs.spreading.spread_word.Goals as goal

pub returns : goal.returns
returns c =
    spread_bytes c.args.w c.ranges.w.fits c.to_le_bytes.ensures c.spread_byte-2.ensures c.spread_byte.ensures c.spread_byte-4.ensures c.spread_byte-3.ensures
