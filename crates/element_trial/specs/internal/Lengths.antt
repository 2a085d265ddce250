-- Each text that answers a case has room in a line, with a line feed: `text_short`.
use Rattle.std.proofs.Common.{ℕ, ◌<◌, List, length, eqb, arith}
use Rattle.binary_field.specs.Answer.{Reply, element, refusal, QuadraticReply, found, no_root, refused}
use Rattle.text.specs.Line.{line_room}
use Rattle.text.proofs.Lengths.{refusal_short}
use Rattle.trial_text.proofs.Lengths.{hexadecimal_short, either_short}
use Rattle.element_trial.specs.Texts.{reply_text, root_text, call_text, case_text}

reply_short : (r : Reply) → length (reply_text r) < line_room
reply_short (element n) = omega (arith, hexadecimal_short n)
reply_short (refusal n) = omega (arith, refusal_short n)

root_short : (r : QuadraticReply) → length (root_text r) < line_room
root_short (found y) = omega (arith, hexadecimal_short y)
root_short no_root = omega arith
root_short (refused n) = omega (arith, refusal_short n)

call_short : (call d a b : ℕ) → length (call_text call d a b) < line_room
unfolding call_text
call_short call d a b =
    either_short (eqb call 1) _ _ (reply_short _)
    (either_short (eqb call 2) _ _ (reply_short _)
    (either_short (eqb call 3) _ _ (reply_short _)
    (either_short (eqb call 4) _ _ (reply_short _)
    (either_short (eqb call 5) _ _ (reply_short _)
    (either_short (eqb call 6) _ _ (root_short _)
    (omega arith))))))

pub text_short : (case : List ℕ) → length (case_text case) < line_room
text_short case = call_short _ _ _ _
