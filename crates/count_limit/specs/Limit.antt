-- The limit of operations, and the refusals of a count and of a released step (docs/SPECIFICATION.md, 4 and 6).
use Rattle.std.specs.Prelude.{ℕ, leb}
use Rattle.binary_field.specs.Checks.{unless}

-- the largest count of operations that is accepted
unfoldable pub count_limit : ℕ
count_limit = 1024

-- 109 for a count above the limit, else 0
unfoldable pub count_refusal : ℕ → ℕ
count_refusal n = unless (leb n count_limit) 109

-- 120 for a released step above this count, else 0
unfoldable pub released_refusal : ℕ → ℕ → ℕ
released_refusal n released = unless (leb released n) 120
