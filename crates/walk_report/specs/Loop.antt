-- The loop of the program: while a line is pending, it is made and written (docs/SPECIFICATION.md, 10).
use Rattle.std.specs.Prelude.{ℕ, ◌≡◌, true, false, List, [], ◌∷◌, ◌++◌}
use Rattle.walk_report.specs.{Report.report_lines, Steps.LineResult, Steps.next_line, Steps.begin, Steps.pending, declared.Progress.Progress}

-- the line that a turn of the loop makes, and the state after it
abbrev pub made_line : List ℕ → Progress → LineResult
made_line s m = next_line m.report s m.next.at

-- from a state the loop makes these lines, one a turn and each while a line is pending, and reaches another state
pub data Makes (s : List ℕ) : Progress → List (List ℕ) → Progress → Type 0 where
  none : {m : Progress} → Makes s m [] m
  turn : {m end : Progress} {lines : List (List ℕ)} → pending m.report.stage ≡ true → Makes s (made_line s m).progress lines end → Makes s m ((made_line s m).text ∷ lines) end

-- from a state the loop makes these lines and ends, since no line is pending then
pub record MakesAll (s : List ℕ) (m : Progress) (lines : List (List ℕ)) : Type 0 where
  pub end : Progress
  pub makes : Makes s m lines end
  pub over : pending end.report.stage ≡ false

-- the loop on the input s at a state: the lines made so far, and then those to come, are the report's
pub record Halfway (s : List ℕ) (m : Progress) : Type 0 where
  pub so_far : List (List ℕ)
  pub to_come : List (List ℕ)
  pub made : Makes s (begin s) so_far m
  pub left : MakesAll s m to_come
  pub whole : so_far ++ to_come ≡ report_lines s
