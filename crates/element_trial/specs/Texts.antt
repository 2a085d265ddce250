-- The text that answers a case of the calls on elements, by its call byte.
use Rattle.std.specs.Prelude.{ℕ, List, cond, eqb, codes, get_or}
use Rattle.binary_field.specs.Answer.{Reply, element, refusal, QuadraticReply, found, no_root, refused, sum_reply, product_reply, square_reply, root_reply, inverse_reply, quadratic_reply}
use Rattle.text.specs.Text.{hexadecimal, refusal_text}
use Rattle.trial_text.specs.Cases.{number_at}

-- an element in hexadecimal, or the refusal
abbrev pub reply_text : Reply → List ℕ
reply_text (element n) = hexadecimal n
reply_text (refusal n) = refusal_text n

-- a root in hexadecimal, that there is none, or the refusal
abbrev pub root_text : QuadraticReply → List ℕ
root_text (found y) = hexadecimal y
root_text no_root = codes "no root"
root_text (refused n) = refusal_text n

-- the text that answers a call, at a degree, on one element or two
unfoldable pub call_text : ℕ → ℕ → ℕ → ℕ → List ℕ
call_text call d a b =
    cond (eqb call 1) (reply_text (sum_reply d a b))
    (cond (eqb call 2) (reply_text (product_reply d a b))
    (cond (eqb call 3) (reply_text (square_reply d a))
    (cond (eqb call 4) (reply_text (root_reply d a))
    (cond (eqb call 5) (reply_text (inverse_reply d a))
    (cond (eqb call 6) (root_text (quadratic_reply d a))
    (codes "no such call"))))))

-- the text that answers a case
abbrev pub case_text : List ℕ → List ℕ
case_text case = call_text (get_or case 0 0) (get_or case 1 0) (number_at case 0) (number_at case 1)
