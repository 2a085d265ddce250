-- A call on byte areas wrote or refused (docs/SPECIFICATION.md, 6 and 7).
-- `call_wrote_or_refused`: a call with these checks wrote one of its lengths, or refused with one of its numbers.
-- `answer_decides`: then the answer alone decides which of the two.
-- `never_both`: no length that a call writes is the number of a refusal.
-- `answer_never_117`: a call among whose numbers 117 is not does not answer it.
use Prim.Native.Nat.{ℕ, ◌≤◌}
use mathlib.Core.{Path.◌≡◌, Path.sym, Path.ap, Path.subst, Path.◌∙◌, Bool.true, Bool.false, Bool.true≢false, List.List, List.◌∷◌}
use native.Mathlib.Omega.{arith}
use lib.{Dec.leb, Dec.ltb, ListN.length}
use borrow.Author.Tests.{leb-true, ltb-true}
use Rattle.jacobian.specs.{Checks.Check, Checks.check, Refusals.IsRefusal, Refusals.listed}
use Rattle.jacobian.proofs.Refusals.{above_100}
use Rattle.stored_form_theorems.specs.Numbers.{OneOf}
use Rattle.jacobian.proofs.Checking.{among, fails_among}
use Rattle.written_form.specs.Effect.{Effect, write, refuse, EffectOf, all_hold, first_fails, WroteOrRefused, wrote, kept, AnswerDecides, longest_answer}
use Rattle.written_form.proofs.Checking.{every, every_one}

pub call_wrote_or_refused : {least : ℕ} {checks : List Check} {lengths bytes out : List ℕ} {e : Effect} (numbers : List ℕ) → among (check 101 (least ≤ length out) ∷ checks) numbers ≡ true →
    EffectOf (check 101 (least ≤ length out) ∷ checks) lengths bytes out e → WroteOrRefused least lengths numbers out e
call_wrote_or_refused {bytes = bytes} numbers told (all_hold held one is) = wrote bytes one held.0 is
call_wrote_or_refused {least} {checks} {out = out} numbers told (first_fails n fails is) = kept n (fails_among (check 101 (least ≤ length out) ∷ checks) numbers n told fails) is

pub answer_decides : {least : ℕ} {lengths numbers out : List ℕ} {e : Effect} → every (λ n. leb n longest_answer) lengths ≡ true → every (λ n. ltb longest_answer n) numbers ≡ true →
    WroteOrRefused least lengths numbers out e → AnswerDecides least lengths numbers out e
unfolding write refuse
answer_decides {lengths = lengths} low high (wrote xs one fits is) =
    let n : _ = ap (λ (o : Effect). o.answer) is in
    let l = leb-true (length xs) longest_answer (every_one (λ n. leb n longest_answer) lengths (length xs) low one) in
    record { wrote = λ h. (xs, one, fits, is); kept = λ h. absurd (omega arith) }
answer_decides {numbers = numbers} low high (kept n one is) =
    let l = ltb-true longest_answer n (every_one (λ n. ltb longest_answer n) numbers n high one) in
    let k = ap (λ (o : Effect). o.answer) is in
    record { wrote = λ h. absurd (omega arith); kept = λ h. (subst (OneOf numbers) (sym k) one, ap (λ (o : Effect). o.output) is) }

pub answer_never_117 : {least : ℕ} {lengths numbers out : List ℕ} {e : Effect} → listed 117 numbers ≡ false → AnswerDecides least lengths numbers out e → ¬ (e.answer ≡ 117)
answer_never_117 {numbers = numbers} absent t is = true≢false (sym (subst (OneOf numbers) is (t.kept (omega arith)).0) ∙ absent)

pub never_both : {n : ℕ} → n ≤ longest_answer → IsRefusal n → ⊥
never_both low i = let l = above_100 _ i in omega arith
