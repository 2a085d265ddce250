-- `divide` meets its contract. The invariant: a = q b + r, and r has no numbers from k on.
use Rattle.std.proofs.Common.{◌≡◌, rules, arith, length}
use Rattle.row_theory.proofs.Rows.{Length.places_len, Length.length_le, Lead.Leads, Lead.leads_at, Lead.low_len}
use Rattle.row_theory.proofs.Rows.Divide.{divisor, dividing_start, dividing_turn, quotient_stands, remainder_stands}
use Rattle.class_rows.proofs.element.Field.divide.Goals as goal
use Rattle.class_rows.proofs.element.Field.divide.Goals.{After-leading-top}

-- the leading number of b
led : (c : After-leading-top) → Leads c.args.self.degree c.args.b c.leading-top.result.top
led c = let size : length c.args.b ≡ 12 = search rules in leads_at _ _ size c.requires.b_in c.leading-top.ensures.top

pub loop-k-init : goal.loop-k-init
loop-k-init c =
    let size : length c.args.a ≡ 12 = search rules in
    let len = places_len _ c.length-k.ensures _ c.requires.a_in in
    (length_le _ _ len size, dividing_start size c.requires.a_in len)

pub add_multiple-next-requires-clause-room : goal.add_multiple-next-requires-clause-room
add_multiple-next-requires-clause-room c =
    let short = low_len (led (goal.at.add_multiple-next-requires-clause-room c).After-leading-top) in omega (arith, short)

pub loop-k-preserved : goal.loop-k-preserved
loop-k-preserved c =
    let v = c.loop-k.invariant in
    let size : length c.add_multiple-next.result ≡ 12 = search rules in
    (omega (arith, v.0), dividing_turn v.1 c.loop-k-test.true v.0 (low_len (led (goal.at.loop-k-preserved c).After-leading-top)) c.product-c.ensures c.add_multiple-next.ensures size)

pub returns : goal.returns
returns c =
    let v = c.loop-k.invariant.1 in let at = led (goal.at.returns c).After-leading-top in
    let w = divisor at c.leading-top.ensures.inverse in
    (quotient_stands v w c.loop-k-test.false at.len, remainder_stands v w c.loop-k-test.false at.len)
