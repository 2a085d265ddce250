-- `bezout_zero`: a divided by its leading coefficient, or 0 where a is 0 too.
use mathlib.Core.Path.{sym, ◌∙◌}
use native.Mathlib.Omega.{arith}
use Rattle.char2_algebra.proofs.Degree.{nonzero_of_len}
use Rattle.row_theory.specs.Field.{𝔸, poly}
use Rattle.row_theory.proofs.{Bezout.zero_rows, Bezout.blank_rows, Rows.Length.places_len, Rows.Constants.constant_stands, Rows.Elements.zero_lt}
use Rattle.class_rows.proofs.element.Field.bezout_zero.Goals as goal

pub returns-then-length-eq0 : goal.returns-then-length-eq0
returns-then-length-eq0 c =
    let d = c.args.self.degree in
    blank_rows d c.args.a (constant_stands d 0 (zero_lt d)) (sym (places_len _ c.length.ensures d c.requires) ∙ c.if-length-eq0.true)

pub leading-c-requires-clause-nonzero : goal.leading-c-requires-clause-nonzero
leading-c-requires-clause-nonzero c =
    let d = c.args.self.degree in
    let e = places_len _ c.length.ensures d c.requires in
    nonzero_of_len (𝔸 d) (poly d c.args.a) (omega (arith, e, c.if-length-eq0.false))

pub returns : goal.returns
returns c =
    let d = c.args.self.degree in
    zero_rows d c.args.a c.leading-c.ensures.inverse c.scale.ensures c.constant.ensures (constant_stands d 0 (zero_lt d))
