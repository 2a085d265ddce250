-- What an answer stands for, and what a call wrote (docs/SPECIFICATION.md, 6 and 11).
use Rattle.std.specs.Prelude.{ℕ, cond, List, [], ltb, take}
use Rattle.jacobian.specs.Answer.{Verdict, accepted, refused}
use Rattle.written_form.specs.Effect.{Effect, Response, response, longest_answer}

-- the outcome that an answer stands for: a length is an acceptance, a number above the longest is that refusal
unfoldable pub outcome : ℕ → Verdict
outcome n = cond (ltb longest_answer n) (refused n) accepted

-- the bytes that a call wrote: as many as it answered, from the output's start; a refusal wrote none
unfoldable pub wrote : Effect → List ℕ
wrote e = elim (outcome e.answer) [ accepted ↦ take e.answer e.output | refused n ↦ [] ]

-- the response that a call gave: its answer and the bytes that it wrote
abbrev pub response_given : Effect → Response
response_given e = response e.answer (wrote e)
