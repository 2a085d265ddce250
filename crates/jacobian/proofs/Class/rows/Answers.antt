-- `Class::rows` meets its contract: the leading 1 is written after the numbers below the degree.
use mathlib.Core.Path.{ap, ◌∙◌}
use lib.ListN.{set}
use Rattle.std.proofs.Common.{rules}
use Rattle.jacobian.specs.Classes.{u_row}
use Rattle.jacobian.proofs.ByValue.Filled.{leading_set}
use Rattle.jacobian.proofs.Class.rows.Goals as goal

pub returns : goal.returns
unfolding u_row
returns c =
    let a = c.args.self in
    record { u_is = ap (λ r. set r a.degree 1) c.filled-u.ensures ∙ leading_set a.u a.degree (search rules) c.requires; v_is = c.filled.ensures }
