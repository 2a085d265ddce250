-- `write_report` ends: each turn leaves fewer lines to write.
-- At every turn the lines made so far, which are written, and then those to come are the report of the archive.
use Rattle.walk_report.proofs.LinesLeft.{lines_left}
use Rattle.walkreport.proofs.Written.{Written}
use Rattle.walkreport.proofs.write_report.Given as goal

abbrev pub invariant-loop-progress : goal.invariant-loop-progress
invariant-loop-progress g l = Written l.archive l.progress (g.W.Write.contents l.initial.out) (g.W.Write.contents l.out)

abbrev pub decreases-loop-progress : goal.decreases-loop-progress
decreases-loop-progress g l = lines_left l.progress.report
