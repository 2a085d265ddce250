-- What the checks of a count and of a released step require (docs/SPECIFICATION.md, 6).
use Rattle.std.specs.Prelude.{ℕ, ◌≤◌}
use Rattle.binary_field.specs.Checks.{Check, check}
use Rattle.count_limit.specs.Limit.{count_limit}

-- the check of a count: it is at most the limit
abbrev pub count_check : ℕ → Check
count_check n = check 109 (n ≤ count_limit)

-- the check of a released step: it is at most this count
abbrev pub released_check : ℕ → ℕ → Check
released_check n released = check 120 (released ≤ n)
