-- `monic` meets its contract. The leading number becomes 1 without a product.
use Rattle.std.proofs.Common.{◌≡◌, rules, length}
use Rattle.row_theory.proofs.Rows.{Lead.Leads, Lead.leads_at, Lead.low_range, Monic.monic_already, Monic.monic_made}
use Rattle.class_rows.proofs.element.Field.monic.Goals as goal
use Rattle.class_rows.proofs.element.Field.monic.Goals.{After-leading-top}

-- the leading number of a
led : (c : After-leading-top) → Leads c.args.self.degree c.args.a c.leading-top.result.top
led c = let size : length c.args.a ≡ 12 = search rules in leads_at _ _ size c.requires.a_in c.leading-top.ensures.top

pub returns-then-inverse-eq1 : goal.returns-then-inverse-eq1
returns-then-inverse-eq1 c = monic_already (led (goal.at.returns-then-inverse-eq1 c).After-leading-top) c.leading-top.ensures.inverse c.if-inverse-eq1.true

pub scale-r-requires-clause-a_in : goal.scale-r-requires-clause-a_in
scale-r-requires-clause-a_in c = low_range (led (goal.at.scale-r-requires-clause-a_in c).After-leading-top)

pub returns : goal.returns
returns c =
    let size : length c.scale-r.result ≡ 12 = search rules in
    monic_made (led (goal.at.returns c).After-leading-top) c.leading-top.ensures.inverse size c.scale-r.ensures
