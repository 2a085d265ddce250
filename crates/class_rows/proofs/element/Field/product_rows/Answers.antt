-- `product_rows` meets its contract. The invariant: the row stands for the part of a below x^i, times b.
use Rattle.std.proofs.Common.{◌≡◌, rules, arith, length}
use Rattle.row_theory.proofs.{Rows.Length.length_le, Rows.Multiply.partial_start, Rows.Multiply.partial_turn, Rows.Multiply.partial_end}
use Rattle.row_theory.proofs.Rows.Length.{places_len}
use Rattle.class_rows.proofs.element.Field.product_rows.Goals as goal

pub loop-i-init : goal.loop-i-init
loop-i-init c =
    let size : length c.args.a ≡ 12 = search rules in
    (length_le _ _ (places_len _ c.length-i-end.ensures _ c.requires.a_in) size, partial_start)

pub add_multiple-next-requires-clause-room : goal.add_multiple-next-requires-clause-room
add_multiple-next-requires-clause-room c =
    let len = places_len _ c.length-i-end.ensures _ c.requires.a_in in
    let room = c.requires.room in omega arith

pub returns : goal.returns
returns c =
    let len = places_len _ c.length-i-end.ensures _ c.requires.a_in in
    partial_end c.loop-i.invariant.1 (omega arith)

pub loop-i-preserved : goal.loop-i-preserved
loop-i-preserved c = (c.loop-i.invariant.0, partial_turn c.loop-i.invariant.1 c.add_multiple-next.ensures)
