-- `substituted`: the coefficients that one step of Euclid's rule gives.
use mathlib.Core.Path.{refl, ap}
use Rattle.row_theory.specs.Field.{𝔸, poly}
use Rattle.row_theory.proofs.Rows.Coefficients.{stands_eq}
use Rattle.class_rows.proofs.element.Field.substituted.Goals as goal

pub returns : goal.returns
returns c =
    let d = c.args.self.degree in (refl, refl, stands_eq d (ap ((𝔸 d).ring.add (poly d c.args.r.s)) c.product_rows-product.ensures.stands) c.sum_rows-next.ensures)
