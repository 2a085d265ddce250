-- `leading` meets its contract: the index of the leading number is one below the length.
use mathlib.Core.Path.{sym}
use Rattle.std.proofs.Common.{◌≡◌, ◌-◌, rules, arith, length}
use Rattle.row_theory.proofs.Rows.{Length.places_len, Lead.length_pos, Lead.Leads, Lead.leads, Lead.lead_row, Answers.inverts_eq}
use Rattle.class_rows.proofs.element.Field.leading.Goals as goal
use Rattle.class_rows.proofs.element.Field.leading.Goals.{After-length-top}

-- the index is that of the leading number
led : (c : After-length-top) → Leads c.args.self.degree c.args.a (c.length-top.result - 1)
led c =
    let size : length c.args.a ≡ 12 = search rules in
    leads _ _ size c.requires.a_in (places_len _ c.length-top.ensures _ c.requires.a_in) c.requires.nonzero

pub overflow_sub-top : goal.overflow_sub-top
overflow_sub-top c = length_pos _ _ (places_len _ c.length-top.ensures _ c.requires.a_in) c.requires.nonzero

pub offset_bounds-a-top : goal.offset_bounds-a-top
offset_bounds-a-top c = omega (arith, (led (goal.at.offset_bounds-a-top c).After-length-top).top_lt)

pub bounds-a-top : goal.bounds-a-top
bounds-a-top c = omega (arith, (led (goal.at.bounds-a-top c).After-length-top).top_lt)

pub inverse-requires-clause-nonzero : goal.inverse-requires-clause-nonzero
inverse-requires-clause-nonzero c = (led (goal.at.inverse-requires-clause-nonzero c).After-length-top).nonzero

pub returns : goal.returns
returns c =
    let s = led (goal.at.returns c).After-length-top in record { within = s.top_lt; top = s.len; inverse = inverts_eq _ (sym (lead_row s)) c.inverse.ensures }
