-- `bezout_constant`: 1 is the inverse of the constant times it.
use native.Mathlib.Omega.{arith}
use Rattle.char2_algebra.proofs.Degree.{nonzero_of_len}
use Rattle.row_theory.specs.Field.{𝔸, poly}
use Rattle.row_theory.proofs.{Rows.Elements.zero_lt, Rows.Constants.constant_stands, Bezout.constant_rows}
use Rattle.class_rows.proofs.element.Field.bezout_constant.Goals as goal

pub leading-c-requires-clause-nonzero : goal.leading-c-requires-clause-nonzero
leading-c-requires-clause-nonzero c =
    let d = c.args.self.degree in nonzero_of_len (𝔸 d) (poly d c.args.b) (omega (arith, c.requires.constant))

pub returns : goal.returns
returns c =
    let d = c.args.self.degree in
    constant_rows d c.args.b c.requires.constant c.leading-c.ensures.inverse (c.one.ensures _) (constant_stands d 0 (zero_lt d)) c.constant.ensures
