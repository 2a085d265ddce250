-- The drawing number is a part that may be empty.
use Rattle.std.proofs.Common.{arith}
use Rattle.std.proofs.lemmas.Grind.{common_steps}
use Rattle.text.proofs.Appending.{both, laid}
use Rattle.walk_report.specs.Lines.{first_line}
use Rattle.walk_report.proofs.LineParts.{part_none, part_some, first_short}
use Rattle.walk_report.proofs.lines.first_line.Goals as goal
use Rattle.walk_report.proofs.lines.first_line.Goals.{then-not-is_empty, else-not-is_empty}

pub returns : goal.returns
unfolding first_line
returns c =
    let fits = first_short c.args.count c.args.drawing.now c.requires in
    elim c.if-not-is_empty.branch [
      | then-not-is_empty w ↦ grind (arith, common_steps, both, laid, part_some)
      | else-not-is_empty w ↦ grind (arith, common_steps, both, laid, part_none)
    ]
