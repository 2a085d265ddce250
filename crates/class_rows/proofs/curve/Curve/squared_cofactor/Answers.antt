-- `squared_cofactor` meets its contract: the lengths fit, and the sum is w² + q + q² u².
use Rattle.class_rows.proofs.DoubleRows.{cofactor_fits, quotient_fits, product_fits, squared_cofactor}
use Rattle.class_rows.proofs.curve.Curve.squared_cofactor.Goals as goal

pub square_row-square-requires-clause-short : goal.square_row-square-requires-clause-short
square_row-square-requires-clause-short c = let p = c.requires in cofactor_fits _ p.reduced p.squared p.long p.cofactor

pub square_row-factor-requires-clause-short : goal.square_row-factor-requires-clause-short
square_row-factor-requires-clause-short c = let p = c.requires in quotient_fits _ p.reduced p.squared p.long

pub product_rows-product-requires-clause-room : goal.product_rows-product-requires-clause-room
product_rows-product-requires-clause-room c = let p = c.requires in product_fits _ p.reduced p.squared p.long c.square_row-factor.ensures

pub returns : goal.returns
returns c =
    let p = c.requires in squared_cofactor _ p.reduced p.squared p.cofactor c.square_row-square.ensures c.square_row-factor.ensures c.product_rows-product.ensures c.sum_rows-sum.ensures c.sum_rows.ensures
