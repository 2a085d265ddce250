-- `multiple_row`: three products and a sum, all of which fit a row.
use native.Mathlib.Omega.{arith}
use Rattle.row_theory.specs.Field.{poly}
use Rattle.class_rows.proofs.ComposeRows.{product_len, multiple_stands}
use Rattle.class_rows.proofs.element.Field.multiple_row.Goals as goal

pub product_rows-p-requires-clause-room : goal.product_rows-p-requires-clause-room
product_rows-p-requires-clause-room c =
    let a = c.args in let d = a.self.degree in let p = c.requires in
    let l = product_len d (poly d a.second.s) (poly d a.first.s) 3 4 c.product_rows-s1.ensures p.second_s.len_le p.first_s.len_le in
    omega (arith, l, p.sum_short.len_le)

pub returns : goal.returns
returns c =
    let a = c.args in multiple_stands a.self.degree a.sum a.w a.first.s a.second.s a.second.t c.product_rows-s1.ensures
    c.product_rows-p.ensures c.product_rows-q.ensures c.sum_rows.ensures
