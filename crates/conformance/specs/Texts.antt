-- The text that answers a case of the calls on classes, by its call byte.
use Rattle.std.specs.Prelude.{ℕ, List, ◌∷◌, ◌++◌, cond, eqb, codes, get_or}
use Rattle.jacobian.specs.Answer.{Verdict, accepted, refused, Result, Reply, result, curve_answer, membership_answer, opposite_answer, double_answer, half_answer, sum_answer, double_and_add_answer, subtract_and_halve_answer}
use Rattle.jacobian.specs.{Curves.curve_with, declared.Curve.Curve, declared.Class.Class}
use Rattle.stamps.specs.Stamps.{stamp_answer}
use Rattle.seal_licence.specs.Multiples.{multiple_answer, halvings_answer}
use Rattle.text.specs.Text.{decimal, class_text, refusal_text}
use Rattle.trial_text.specs.Cases.{row_at, class_at}

-- ---- texts

-- the text where a call accepts, else the refusal
abbrev pub outcome_text : Verdict → List ℕ → List ℕ
outcome_text accepted text = text
outcome_text (refused n) text = refusal_text n

-- that a call accepted, or the refusal
abbrev pub verdict_text : Verdict → List ℕ
verdict_text v = outcome_text v (codes "accepted")

-- a class, or the refusal
abbrev pub result_text : Result → List ℕ
result_text r = let a = r.class in outcome_text r.outcome (class_text a.degree a.u a.v a.degree)

-- a class without its number of reduction steps, or the refusal
abbrev pub reply_text : Reply → List ℕ
reply_text r = result_text (result r)

-- a class with its number of reduction steps, or the refusal
abbrev pub counted_text : Reply → List ℕ
counted_text r = let a = r.class in outcome_text r.outcome (class_text a.degree a.u a.v a.degree ++ 0x20 ∷ decimal r.steps)

-- ---- two calls, the second on the class that the first answers

-- the answer of the second call where the first accepts, else the refusal of the first
abbrev pub passed_on : Verdict → Reply → Reply → Reply
passed_on accepted first second = second
passed_on (refused n) first second = first

-- the half of the double
unfoldable pub half_of_double : Curve → Class → Reply
half_of_double c a = let double = double_answer c a in passed_on double.outcome double (half_answer c double.class)

-- the double of the half
unfoldable pub double_of_half : Curve → Class → Reply
double_of_half c a = let half = half_answer c a in passed_on half.outcome half (double_answer c half.class)

-- ---- cases

-- the text that answers a call on one class or two
unfoldable pub call_text : ℕ → Curve → Class → Class → List ℕ
call_text call c a b =
    cond (eqb call 1) (verdict_text (membership_answer c a))
    (cond (eqb call 2) (reply_text (opposite_answer c a))
    (cond (eqb call 3) (reply_text (double_answer c a))
    (cond (eqb call 4) (reply_text (half_answer c a))
    (cond (eqb call 5) (reply_text (sum_answer c a b))
    (cond (eqb call 6) (reply_text (half_of_double c a))
    (cond (eqb call 7) (reply_text (double_of_half c a))
    (cond (eqb call 8) (counted_text (double_answer c a))
    (cond (eqb call 9) (counted_text (sum_answer c a b))
    (cond (eqb call 10) (reply_text (double_and_add_answer c a b))
    (cond (eqb call 11) (reply_text (subtract_and_halve_answer c a b))
    (cond (eqb call 12) (verdict_text (curve_answer c))
    (cond (eqb call 13) (reply_text (stamp_answer c a.degree))
    (cond (eqb call 14) (result_text (multiple_answer c a b.degree))
    (cond (eqb call 15) (result_text (halvings_answer c a b.degree))
    (codes "no such call")))))))))))))))

-- the text that answers a case
abbrev pub case_text : List ℕ → List ℕ
case_text case = call_text (get_or case 0 0) (curve_with (get_or case 1 0) (row_at case 0)) (class_at case 3) (class_at case 10)
