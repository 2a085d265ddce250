-- `quartic_row` meets its contract: the row is written out.
use mathlib.Core.Path.{sym, subst}
use Rattle.row_theory.specs.{Field.𝔸, Field.el, Row.Stands, Row.filled, internal.Halving.even_quartic}
use Rattle.row_theory.proofs.HalfRows.Rows.{quartic_stands}
use Rattle.class_rows.proofs.element.Field.quartic_row.Goals as goal

pub returns : goal.returns
unfolding filled
returns c =
    let a = c.args in let d = a.self.degree in
    subst (λ r. Stands d r (even_quartic (𝔸 d) (el d a.m2) (el d a.m1) (el d a.m0))) (sym c.low_row.ensures) (quartic_stands d a.m2 a.m1 a.m0 c.requires.m2_in c.requires.m1_in c.requires.m0_in)
