-- `is_divisor` meets its contract.
use mathlib.Core.Path.{sym, ◌∙◌, ap₂}
use Rattle.class_rows.specs.Checked.{is_divisor}
use Rattle.class_rows.proofs.Tests.{no_curve}
use Rattle.class_rows.proofs.is_divisor.Goals as goal

pub returns-in-None : goal.returns-in-None
returns-in-None c = sym (no_curve _ _ _ c.in-None.ensures)

pub returns-in-Some : goal.returns-in-Some
returns-in-Some c =
    let e = c.in-Some.ensures in c.is_some.ensures ∙ c.cofactor_of_divisor.ensures.decides ∙ ap₂ (λ d f. is_divisor d f c.args.a) e.0 e.1
