-- Lines made from a part of the input, with offsets shifted to the whole input.
use Rattle.std.specs.Prelude.{ℕ, ◌+◌}
use Rattle.walk_report.specs.{Steps.LineResult, declared.Progress.Progress}

-- The same state; its next offset shifted by k.
abbrev pub shift_progress : ℕ → Progress → Progress
shift_progress k x = record { report = x.report; next = record { at = k + x.next.at } }

-- The same line; its next offset shifted by k.
abbrev pub shift_line : ℕ → LineResult → LineResult
shift_line k x = record { text = x.text; progress = shift_progress k x.progress }
