-- Each power that the row has is appended, the highest first.
use Rattle.std.proofs.Common.{arith}
use Rattle.std.proofs.lemmas.Grind.{common_steps}
use Rattle.text.proofs.{Appending.none, Appending.both, Digits.row_0, Digits.row_1, Digits.row_2, Digits.row_3}
use Rattle.text.proofs.Line.push_row.Goals as goal
use Rattle.text.proofs.Line.push_row.Goals.{then-n-gt2, else-n-gt2, then-n-gt1, else-n-gt1}

pub returns-then-n-gt0 : goal.returns-then-n-gt0
returns-then-n-gt0 c =
    elim c.if-n-gt2.branch [
      | then-n-gt2 v ↦ elim c.if-n-gt1.branch [ then-n-gt1 w ↦ grind (arith, common_steps, both, row_3) | else-n-gt1 w ↦ absurd (omega arith) ]
      | else-n-gt2 v ↦ elim c.if-n-gt1.branch [ then-n-gt1 w ↦ grind (arith, common_steps, both, row_2) | else-n-gt1 w ↦ grind (arith, common_steps, row_1) ]
    ]

pub returns-else-n-gt0 : goal.returns-else-n-gt0
returns-else-n-gt0 c =
    elim c.if-n-gt2.branch [
      | then-n-gt2 v ↦ absurd (omega arith)
      | else-n-gt2 v ↦ elim c.if-n-gt1.branch [ then-n-gt1 w ↦ absurd (omega arith) | else-n-gt1 w ↦ grind (arith, common_steps, none, row_0) ]
    ]
