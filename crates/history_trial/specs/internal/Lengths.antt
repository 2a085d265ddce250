-- Each text that answers a case has room in a line, with a line feed: `text_short`.
use Rattle.std.proofs.Common.{ℕ, ◌<◌, ◌≤◌, ◌∷◌, ◌++◌, List, None, Some, length, Bool, true, false, cond, eqb, arith, length-append}
use Rattle.jacobian.specs.{Answer.Verdict, Answer.accepted, Answer.refused, Curves.coefficients, declared.Class.Class}
use Rattle.history.specs.Register.{RegisterReply}
use Rattle.history.specs.declared.Register.{Register}
use Rattle.text.specs.{Line.line_room, Text.decimal, Text.row_text}
use Rattle.text.proofs.Lengths.{decimal_short, class_short, refusal_short}
use Rattle.trial_text.specs.Runs.{HasRoom}
use Rattle.trial_text.proofs.Lengths.{row_short, either_short}
use Rattle.history_trial.specs.Texts.{counts_text, spaced_class, outcome_text, reply_text, lowest_first, register_text, call_text, case_text}

counts_short : (r : Register) → length (counts_text r) ≤ 41
unfolding counts_text
counts_short r = omega (arith, decimal_short r.count, decimal_short r.released, length-append (decimal r.count) (0x20 ∷ decimal r.released))

spaced_short : (a : Class) (n : ℕ) → length (spaced_class a n) ≤ 123
unfolding spaced_class
spaced_short a n = omega (arith, class_short a.degree a.u a.v n)

outcome_short : (v : Verdict) (r : Register) → length (outcome_text v r) < line_room
outcome_short accepted r = let a = r.seal in omega (arith, counts_short r, spaced_short a a.degree, length-append (counts_text r) (spaced_class a a.degree))
outcome_short (refused n) r = omega (arith, refusal_short n)

reply_short : (x : RegisterReply) → length (reply_text x) < line_room
reply_short x = outcome_short x.outcome x.register

register_short : (r : Register) → length (register_text r) < line_room
unfolding register_text
register_short r =
    let row : List ℕ = row_text 3 (lowest_first (coefficients r.curve)) in
    let degree : List ℕ = decimal r.curve.degree in
    let front : List ℕ = degree ++ 0x20 ∷ row in
    omega (
      arith,
      decimal_short r.curve.degree,
      row_short 3 (lowest_first (coefficients r.curve)),
      counts_short r,
      spaced_short r.seal 3,
      length-append degree (0x20 ∷ row),
      length-append front (0x20 ∷ counts_text r),
      length-append (front ++ 0x20 ∷ counts_text r) (spaced_class r.seal 3),
    )

unless_none : (b : Bool) (text : List ℕ) → length text < line_room → HasRoom (cond b None (Some text))
unless_none true text h = tt
unless_none false text h = h

call_short : (call : ℕ) (r : Register) (a : Class) → HasRoom (call_text call r a)
unfolding call_text
call_short call r a =
    unless_none (eqb call 0) _
    (either_short (eqb call 1) _ _ (reply_short _)
    (either_short (eqb call 2) _ _ (reply_short _)
    (either_short (eqb call 3) _ _ (register_short r)
    (either_short (eqb call 4) _ _ (reply_short _)
    (omega arith)))))

pub text_short : (r : Register) (case : List ℕ) → HasRoom (case_text r case)
text_short r case = call_short _ r _
