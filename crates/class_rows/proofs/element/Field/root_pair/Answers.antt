-- `root_pair` meets its contract: the root is not 0, and v is divided by it.
use mathlib.Core.Path.{ap}
use Rattle.row_theory.specs.{Field.𝔸, internal.Halving.root_pair}
use Rattle.row_theory.proofs.Rows.Coefficients.{stands_eq}
use Rattle.class_rows.proofs.element.Field.root_pair.Goals as goal

pub returns : goal.returns
unfolding root_pair
returns c =
    let a = c.root_row-root.ensures in record { u_stands = a; v_stands = stands_eq _ (ap ((𝔸 _).rem _) a.stands) c.divide.ensures.1 }
