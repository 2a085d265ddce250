-- `joined_rows`: m modulo d2 is shorter than d2, so the products fit a row; d1 d2 is not 0.
use native.Mathlib.Omega.{arith}
use Rattle.class_rows.proofs.ComposeRows.{joined_nonzero, joined_less, joined_stands}
use Rattle.class_rows.proofs.element.Field.joined_rows.Goals as goal

pub product_rows-p-requires-clause-room : goal.product_rows-p-requires-clause-room
product_rows-p-requires-clause-room c =
    let a = c.args in let p = c.requires in let l = joined_less a.self.degree a.d1 a.d2 a.m c.product_rows-u.ensures p.d1_nonzero p.d2_nonzero c.divide.ensures.1 in
    omega (arith, l, p.d1_short.len_le, p.d2_short.len_le)

pub divide-requires-2-clause-nonzero : goal.divide-requires-2-clause-nonzero
divide-requires-2-clause-nonzero c =
    let a = c.args in joined_nonzero a.self.degree a.d1 a.d2 a.m c.product_rows-u.ensures c.requires.d1_nonzero c.requires.d2_nonzero c.divide.ensures.1

pub returns : goal.returns
returns c =
    let a = c.args in joined_stands a.self.degree a.d1 a.d2 a.m c.product_rows-u.ensures c.requires.d1_nonzero c.requires.d2_nonzero c.divide.ensures.1
    a.v1 c.product_rows-p.ensures c.sum_rows-s.ensures c.divide-2.ensures.1
