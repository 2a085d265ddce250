-- `suppress::Accepted::suppress` meets its contract.
use mathlib.Core.Path.{sym, ◌∙◌}
use native.Mathlib.Omega.{arith}
use Rattle.seal_archive.specs.Suppress.{refuse_archive}
use Rattle.seal_archive.proofs.Accepted.{header_counted}
use Rattle.seal_archive.proofs.Answers.{below_first, above_last, is_held, suppresses}
use Rattle.seal_archive.proofs.suppress.Accepted.suppress.Goals as goal
use Rattle.seal_archive.proofs.suppress.Accepted.suppress.Goals.{then-k-lt1-via-then-k-lt1, then-k-lt1-via-else-k-lt1+then-self-k}

pub returns-then-k-lt1 : goal.returns-then-k-lt1
unfolding refuse_archive
returns-then-k-lt1 c =
    let ok = c.args.self.now.accepted in
    let counted = header_counted ok in
    elim c.then-k-lt1.branch [
      | then-k-lt1-via-then-k-lt1 w ↦ below_first _ _ _ c.requires ok.in_range ok.passes w.if-k-lt1.true
      | then-k-lt1-via-else-k-lt1+then-self-k w ↦ above_last _ _ _ c.requires ok.in_range ok.passes w.if-k-lt1.false (omega (arith, counted, w.if-self-k.true))
    ]

pub returns-then-is_held : goal.returns-then-is_held
unfolding refuse_archive
returns-then-is_held c =
    let ok = c.args.self.now.accepted in
    let counted = header_counted ok in
    is_held _ _ _ c.requires ok.in_range ok.passes c.if-k-lt1.false (omega (arith, counted, c.if-self-k.false)) (sym c.is_held.ensures ∙ c.if-is_held.true)

pub returns : goal.returns
returns c =
    let ok = c.args.self.now.accepted in
    let counted = header_counted ok in
    suppresses _ _ _ c.requires ok.in_range ok.passes c.if-k-lt1.false (omega (arith, counted, c.if-self-k.false)) (sym c.is_held.ensures ∙ c.if-is_held.false) c.put_suppressed.ensures
