-- `ranges::append` meets its contract.
use mathlib.Core.Path.{◌≡◌, sym, ap, ◌∙◌}
use mathlib.Core.List.{List, ◌++◌}
use native.Mathlib.Omega.{arith}
use Prim.Native.Nat.{ℕ, ◌+◌, ◌-◌}
use lib.ListN.{length, take, drop}
use lib.Seq.{take-length}
use Rattle.written_form.proofs.Appending.{ends_first, source_short, output_short, append_outside, append_copied}
use Rattle.stored_form.specs.Number.{part}
use Rattle.written_form.proofs.ranges.append.Goals as goal
use Rattle.written_form.proofs.ranges.append.Goals.{then-end-start-via-then-end-start, then-end-start-via-else-end-start+then-source-end, then-end-start-via-else-end-start+else-source-end+then-room-at, then-end-start-via-else-end-start+else-source-end+else-room-at+then-room-at-2}

-- a row is the front of itself of its length
whole_front : (row rest : List ℕ) {all : List ℕ} → all ≡ row ++ rest → all ≡ take (length row) row ++ rest
whole_front row rest e = e ∙ ap (λ (l : List ℕ). l ++ rest) (sym (take-length row))

pub returns-then-end-start : goal.returns-then-end-start
returns-then-end-start c =
    append_outside _ _ _ _ _ (elim c.then-end-start.branch [
      | then-end-start-via-then-end-start w ↦ ends_first _ _ _ _ _ (omega arith)
      | then-end-start-via-else-end-start+then-source-end w ↦ source_short _ _ _ _ _ (omega arith) (omega arith)
      | then-end-start-via-else-end-start+else-source-end+then-room-at w ↦ output_short _ _ _ _ _ (omega arith) (omega arith) (omega arith)
      | then-end-start-via-else-end-start+else-source-end+else-room-at+then-room-at-2 w ↦ output_short _ _ _ _ _ (omega arith) (omega arith) (omega arith)
    ])

pub returns : goal.returns
returns c =
    let n = c.args.end - c.args.start in
    let row = part c.args.source.now c.args.start n in
    let rest = drop (length row) (part c.args.output.now c.args.at (c.args.at + n - c.args.at)) in
    append_copied _ _ _ _ _ (omega arith) (omega arith) (omega arith) (whole_front row rest c.copy.ensures)
