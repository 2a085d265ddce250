-- `suppress::suppress` meets its contract.
use native.Mathlib.Omega.{arith}
use Rattle.std.proofs.lemmas.Result.{err_from_is_err_and}
use Rattle.seal_archive.specs.Suppress.{refuse_archive}
use Rattle.seal_archive.proofs.Answers.{short, archive_refused}
use Rattle.seal_archive.proofs.suppress.suppress.Goals as goal
use Rattle.seal_archive.proofs.suppress.suppress.Goals.{then-output-lt-GROWTH-via-then-output-lt-GROWTH, then-output-lt-GROWTH-via-else-output-lt-GROWTH+then-output-s}

pub returns-then-output-lt-GROWTH : goal.returns-then-output-lt-GROWTH
unfolding refuse_archive
returns-then-output-lt-GROWTH c =
    short c.args.s.now c.args.k c.args.output.now
    (elim c.then-output-lt-GROWTH.branch [
      | then-output-lt-GROWTH-via-then-output-lt-GROWTH w ↦ omega arith
      | then-output-lt-GROWTH-via-else-output-lt-GROWTH+then-output-s w ↦ omega arith
    ])

pub returns-in_err-of : goal.returns-in_err-of
unfolding refuse_archive
returns-in_err-of c =
    let p = err_from_is_err_and c.from_residual.result c.from_residual.ensures.1 in
    rw (p.1, p.2) (archive_refused _ _ _ (omega arith) _ c.in_err-of.ensures)
