-- The text that answers a case of the calls on a register, and the register after it, by the call byte.
use Rattle.std.specs.Prelude.{ℕ, List, Option, Some, None, [], ◌∷◌, ◌++◌, cond, eqb, codes, get_or}
use Rattle.jacobian.specs.{Answer.Verdict, Answer.accepted, Answer.refused, Curves.coefficients, Curves.curve_with, declared.Class.Class}
use Rattle.history.specs.Register.{RegisterReply, commit_answer, undo_answer, release_answer}
use Rattle.history.specs.declared.Register.{Register}
use Rattle.text.specs.Text.{decimal, row_text, class_text, refusal_text}
use Rattle.trial_text.specs.Cases.{number_at, row_at, class_at}

-- ---- texts

-- the count and the released step
unfoldable pub counts_text : Register → List ℕ
counts_text r = decimal r.count ++ 0x20 ∷ decimal r.released

-- a blank and a class, of u and v the coefficients below x^n
unfoldable pub spaced_class : Class → ℕ → List ℕ
spaced_class a n = 0x20 ∷ class_text a.degree a.u a.v n

-- the count, the released step and the seal, or the refusal
abbrev pub outcome_text : Verdict → Register → List ℕ
outcome_text accepted r = counts_text r ++ spaced_class r.seal r.seal.degree
outcome_text (refused n) r = refusal_text n

-- the text of an answer
abbrev pub reply_text : RegisterReply → List ℕ
reply_text x = outcome_text x.outcome x.register

-- the coefficients of a curve, the lowest power first
unfoldable pub lowest_first : List ℕ → List ℕ
lowest_first cs = get_or cs 2 0 ∷ get_or cs 1 0 ∷ get_or cs 0 0 ∷ []

-- every number of a register
unfoldable pub register_text : Register → List ℕ
register_text r =
    decimal r.curve.degree
    ++ 0x20 ∷ row_text 3 (lowest_first (coefficients r.curve))
    ++ 0x20 ∷ counts_text r
    ++ spaced_class r.seal 3

-- ---- cases

-- the register that a case starts
unfoldable pub started : List ℕ → Register
started case = record {
  curve = curve_with (get_or case 1 0) (row_at case 0);
  count = number_at case 3;
  seal = class_at case 4;
  released = number_at case 11;
}

-- the text that answers a call; none for a start
unfoldable pub call_text : ℕ → Register → Class → Option (List ℕ)
call_text call r a =
    cond (eqb call 0) None
    (Some (
    cond (eqb call 1) (reply_text (commit_answer r a))
    (cond (eqb call 2) (reply_text (undo_answer r a))
    (cond (eqb call 3) (register_text r)
    (cond (eqb call 4) (reply_text (release_answer r))
    (codes "no such call"))))))

-- the register after a call; that of a start is given
unfoldable pub register_after : ℕ → Register → Class → Register → Register
register_after call r a begun =
    cond (eqb call 0) begun
    (cond (eqb call 1) (commit_answer r a).register
    (cond (eqb call 2) (undo_answer r a).register
    (cond (eqb call 4) (release_answer r).register
    r)))

-- the text that answers a case, where the register is this one
abbrev pub case_text : Register → List ℕ → Option (List ℕ)
case_text r case = call_text (get_or case 0 0) r (class_at case 12)

-- the register after a case
abbrev pub case_register : Register → List ℕ → Register
case_register r case = register_after (get_or case 0 0) r (class_at case 12) (started case)
