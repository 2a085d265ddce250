-- Ranges of bytes appended to an output one after the other; the answer is the offset after the last.
use Rattle.std.specs.Prelude.{ℕ, ◌+◌, ◌-◌, Bool, cond, ◌&&◌, List, ◌++◌, leb, length, take, drop}
use Rattle.stored_form.specs.Number.{part}
use Rattle.written_form.specs.Effect.{Effect, effect}

-- whether start to end is a range of a source of that length, which fits into an output of that length at an offset
unfoldable pub fits : ℕ → ℕ → ℕ → ℕ → ℕ → Bool
fits source start end output at = leb start end && leb end source && leb (at + (end - start)) output

-- Appends the bytes of s from start to end at the offset of the last answer; the answer is the offset after them.
-- If they do not fit, the output is unchanged and the answer is its length plus 1, after which no range fits.
unfoldable pub append : List ℕ → ℕ → ℕ → Effect → Effect
append s start end e =
    let at = e.answer in
    let out = e.output in
    let n = end - start in
    cond (fits (length s) start end (length out) at)
    (effect (at + n) (take at out ++ (part s start n ++ drop (at + n) out)))
    (effect (length out + 1) out)
