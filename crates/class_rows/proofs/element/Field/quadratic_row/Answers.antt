-- `quadratic_row` meets its contract: the row is written out.
use mathlib.Core.Path.{sym, subst}
use Rattle.class_group.specs.Half.{quadratic}
use Rattle.row_theory.specs.{Field.𝔸, Field.el, Row.Stands, Row.filled}
use Rattle.row_theory.proofs.HalfRows.Rows.{quadratic_stands}
use Rattle.class_rows.proofs.element.Field.quadratic_row.Goals as goal

pub returns : goal.returns
unfolding filled
returns c =
    let a = c.args in let d = a.self.degree in
    subst (λ r. Stands d r (quadratic (𝔸 d) (el d a.k2) (el d a.k1) (el d a.k0))) (sym c.low_row.ensures) (quadratic_stands d a.k2 a.k1 a.k0 c.requires.k2_in c.requires.k1_in c.requires.k0_in)
