-- `write_report` keeps its invariant, and each turn leaves fewer lines to write.
use Rattle.std.proofs.Common.{◌<◌, sym, subst, ◌∙◌}
use Rattle.walk_report.specs.{Steps.line_answer, declared.LineAnswer.LineAnswer}
use Rattle.walk_report.proofs.LinesLeft.{lines_left, lines_fewer}
use Rattle.walkreport.proofs.Written.{written_begin, written_next, written_over}
use Rattle.walkreport.proofs.write_report.Goals as goal

pub loop-progress-init : goal.loop-progress-init
loop-progress-init g c = written_begin _ _ c.begin-progress.ensures

pub loop-progress-preserved : goal.loop-progress-preserved
loop-progress-preserved g c = written_next _ c.loop-progress.invariant (sym c.is_pending.ensures ∙ c.loop-progress-test.true) c.next_line-answer.ensures c.in_ok-write_to.ensures.written

pub loop-progress-smaller : goal.loop-progress-smaller
unfolding line_answer
loop-progress-smaller g c =
    subst (λ (x : LineAnswer). lines_left x.progress.report < lines_left c.loop-progress.progress.report) (sym c.next_line-answer.ensures)
    (lines_fewer _ _ _ (sym c.is_pending.ensures ∙ c.loop-progress-test.true))

pub returns : goal.returns
returns g c = written_over _ c.loop-progress.invariant (sym c.is_pending.ensures ∙ c.loop-progress-test.false)
