-- Each text that answers a case has room in a line, with a line feed: `text_short`.
use Rattle.std.proofs.Common.{ℕ, ◌<◌, ◌∷◌, List, length, eqb, arith, length-append}
use Rattle.jacobian.specs.Answer.{Verdict, accepted, refused, Result, Reply, result, opposite_answer, double_answer, half_answer, sum_answer, double_and_add_answer, subtract_and_halve_answer}
use Rattle.stamps.specs.Stamps.{stamp_answer}
use Rattle.jacobian.specs.declared.{Curve.Curve, Class.Class}
use Rattle.text.specs.{Line.line_room, Text.decimal, Text.class_text}
use Rattle.text.proofs.Lengths.{decimal_short, class_short, refusal_short}
use Rattle.trial_text.proofs.Lengths.{either_short}
use Rattle.conformance.specs.Texts.{outcome_text, verdict_text, result_text, reply_text, counted_text, half_of_double, double_of_half, call_text, case_text}

outcome_short : (v : Verdict) (text : List ℕ) → length text < line_room → length (outcome_text v text) < line_room
outcome_short accepted text h = h
outcome_short (refused n) text h = omega (arith, refusal_short n)

verdict_short : (v : Verdict) → length (verdict_text v) < line_room
verdict_short v = outcome_short v _ (omega arith)

result_short : (r : Result) → length (result_text r) < line_room
result_short r = let a = r.class in outcome_short r.outcome _ (omega (arith, class_short a.degree a.u a.v a.degree))

reply_short : (r : Reply) → length (reply_text r) < line_room
reply_short r = result_short (result r)

counted_short : (r : Reply) → length (counted_text r) < line_room
counted_short r =
    let a = r.class in
    let told : List ℕ = class_text a.degree a.u a.v a.degree in
    outcome_short r.outcome _ (omega (arith, class_short a.degree a.u a.v a.degree, decimal_short r.steps, length-append told (0x20 ∷ decimal r.steps)))

call_short : (call : ℕ) (c : Curve) (a b : Class) → length (call_text call c a b) < line_room
unfolding call_text
call_short call c a b =
    either_short (eqb call 1) _ _ (verdict_short _)
    (either_short (eqb call 2) _ _ (reply_short (opposite_answer c a))
    (either_short (eqb call 3) _ _ (reply_short (double_answer c a))
    (either_short (eqb call 4) _ _ (reply_short (half_answer c a))
    (either_short (eqb call 5) _ _ (reply_short (sum_answer c a b))
    (either_short (eqb call 6) _ _ (reply_short (half_of_double c a))
    (either_short (eqb call 7) _ _ (reply_short (double_of_half c a))
    (either_short (eqb call 8) _ _ (counted_short _)
    (either_short (eqb call 9) _ _ (counted_short _)
    (either_short (eqb call 10) _ _ (reply_short (double_and_add_answer c a b))
    (either_short (eqb call 11) _ _ (reply_short (subtract_and_halve_answer c a b))
    (either_short (eqb call 12) _ _ (verdict_short _)
    (either_short (eqb call 13) _ _ (reply_short (stamp_answer c a.degree))
    (either_short (eqb call 14) _ _ (result_short _)
    (either_short (eqb call 15) _ _ (result_short _)
    (omega arith)))))))))))))))

pub text_short : (case : List ℕ) → length (case_text case) < line_room
text_short case = call_short _ _ _ _
