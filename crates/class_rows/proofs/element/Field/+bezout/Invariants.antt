-- The measure of `bezout` is the length of b, its degree plus one.
use Rattle.row_theory.specs.Row.{row_len}
use Rattle.class_rows.proofs.element.Field.+bezout.Given as goal

abbrev pub decreases-bezout : goal.decreases-bezout
decreases-bezout l = row_len l.self.degree l.b
