-- `constant`: the row of c and zeros stands for the constant.
use mathlib.Core.Path.{sym, subst}
use Rattle.row_theory.specs.{Field.𝔸, Field.el, Row.Stands, Row.filled}
use Rattle.row_theory.proofs.Rows.Constants.{constant_stands}
use Rattle.class_rows.proofs.element.Field.constant.Goals as goal

pub returns : goal.returns
unfolding filled
returns c =
    let d = c.args.self.degree in
    subst (λ r. Stands d r ((𝔸 d).con (el d c.args.c))) (sym c.low_row.ensures) (constant_stands d c.args.c c.requires)
