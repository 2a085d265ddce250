-- What an answer stands for, and what a call wrote (docs/SPECIFICATION.md, 6 and 11).
-- `outcome_low`, `accepted_low`: an answer is an acceptance exactly if it is not above `longest_answer`.
-- `outcome_refusal`: the number of a refusal stands for that refusal.
-- `wrote_write`, `wrote_refuse`: writing wrote its bytes, and a refusal wrote none.
-- `same_given`: a call that makes the same checks on two outputs with room gives the same response, whatever they hold.
use Prim.Native.Nat.{ℕ, ◌≤◌, ◌<◌}
use mathlib.Core.Path.{◌≡◌, refl, sym, ap, ◌∙◌}
use mathlib.Core.Bool.{Bool, true, false, cond}
use mathlib.Core.{List.List, List.[], List.◌∷◌, Logic.◌⊎◌, Logic.inl, Logic.inr}
use native.Mathlib.Omega.{arith}
use lib.{Dec.ltb, Dec.leb, ListN.length, ListN.take, Seq.take-append_seam}
use borrow.Author.Tests.{ltb-true, ltb-false, le-ltb, lt-ltb, leb-true}
use Rattle.jacobian.specs.{Checks.Check, Checks.check, Checks.AllHold, Checks.FirstFails, Refusals.IsRefusal, Answer.Verdict, Answer.accepted, Answer.refused as said_no}
use Rattle.jacobian.proofs.{Refusals.above_100, Checking.not_both, Checking.one_number, Checking.among, Checking.fails_among}
use Rattle.written_form.specs.Effect.{Effect, response, refuse, write, bytes_response, refusal_response, EffectOf, all_hold, first_fails, longest_answer}
use Rattle.written_form.specs.Wrote.{outcome, wrote, response_given}
use Rattle.written_form.proofs.Checking.{every, every_one}

-- ---- the outcome

pub outcome_low : (n : ℕ) → n ≤ longest_answer → outcome n ≡ accepted
unfolding outcome
outcome_low n low = ap (λ (b : Bool). cond b (said_no n) accepted) (le-ltb longest_answer n low)

pub accepted_low : (n : ℕ) → outcome n ≡ accepted → n ≤ longest_answer
unfolding outcome
accepted_low n e = go (ltb longest_answer n) refl e
  where
    go : (b : Bool) → ltb longest_answer n ≡ b → cond b (said_no n) accepted ≡ accepted → n ≤ longest_answer
    go true is e = let z : ◌≡◌ {A = ℕ} 0 1 = cc in absurd (omega arith)
    go false is e = ltb-false longest_answer n is

outcome_high : (n : ℕ) → longest_answer < n → outcome n ≡ said_no n
unfolding outcome
outcome_high n high = ap (λ (b : Bool). cond b (said_no n) accepted) (lt-ltb longest_answer n high)

pub outcome_refusal : (n : ℕ) → IsRefusal n → outcome n ≡ said_no n
outcome_refusal n i = outcome_high n (above_100 n i)

-- ---- the bytes

pub wrote_write : (xs out : List ℕ) → length xs ≤ longest_answer → wrote (write xs out) ≡ xs
unfolding wrote write
wrote_write xs out low =
    ap (λ (v : Verdict). elim v [ accepted ↦ take (length xs) (write xs out).output | said_no n ↦ [] ]) (outcome_low (length xs) low) ∙ take-append_seam xs _

pub wrote_refuse : (n : ℕ) (out : List ℕ) → longest_answer < n → wrote (refuse n out) ≡ []
unfolding wrote refuse
wrote_refuse n out high = ap (λ (v : Verdict). elim v [ accepted ↦ take n out | said_no m ↦ [] ]) (outcome_high n high)

given_write : (xs out : List ℕ) → length xs ≤ longest_answer → response_given (write xs out) ≡ response (length xs) xs
unfolding write
given_write xs out low = ap (response (length xs)) (wrote_write xs out low)

given_refuse : (n : ℕ) (out : List ℕ) → longest_answer < n → response_given (refuse n out) ≡ refusal_response n
unfolding refuse
given_refuse n out high = ap (response n) (wrote_refuse n out high)

-- ---- two outputs

-- what a call with room gives, by its checks after that of the room
given_of : {P : Type 0} (cs : List Check) (lengths numbers bytes out : List ℕ) {e : Effect} → every (λ n. leb n longest_answer) lengths ≡ true → every (λ n. ltb longest_answer n) numbers ≡ true →
    among cs numbers ≡ true → P → EffectOf (check 101 P ∷ cs) lengths bytes out e →
    (AllHold cs × (response_given e ≡ bytes_response bytes)) ⊎ ((n : ℕ) × FirstFails cs n × (response_given e ≡ refusal_response n))
given_of cs lengths numbers bytes out low high told p (all_hold held one is) =
    inl (held.1, ap response_given is ∙ given_write bytes out (leb-true (length bytes) longest_answer (every_one (λ n. leb n longest_answer) lengths (length bytes) low one)))
given_of cs lengths numbers bytes out low high told p (first_fails n (inl f) is) = absurd (f.0 p)
given_of cs lengths numbers bytes out low high told p (first_fails n (inr f) is) =
    inr (n, f.1, ap response_given is ∙ given_refuse n out (ltb-true longest_answer n (every_one (λ m. ltb longest_answer m) numbers n high (fails_among cs numbers n told f.1))))

pub same_given : {P P' : Type 0} (cs : List Check) (lengths numbers bytes out out' : List ℕ) {e e' : Effect} → every (λ n. leb n longest_answer) lengths ≡ true → every (λ n. ltb longest_answer n) numbers ≡ true →
    among cs numbers ≡ true → P → P' → EffectOf (check 101 P ∷ cs) lengths bytes out e → EffectOf (check 101 P' ∷ cs) lengths bytes out' e' → response_given e ≡ response_given e'
same_given cs lengths numbers bytes out out' {e} {e'} low high told p p' does does' =
    by (given_of cs lengths numbers bytes out low high told p does) (given_of cs lengths numbers bytes out' low high told p' does')
  where
    by : (AllHold cs × (response_given e ≡ bytes_response bytes)) ⊎ ((n : ℕ) × FirstFails cs n × (response_given e ≡ refusal_response n)) →
        (AllHold cs × (response_given e' ≡ bytes_response bytes)) ⊎ ((n : ℕ) × FirstFails cs n × (response_given e' ≡ refusal_response n)) → response_given e ≡ response_given e'
    by (inl h) (inl k) = h.1 ∙ sym k.1
    by (inl h) (inr k) = absurd (not_both cs k.0 h.0 k.1)
    by (inr h) (inl k) = absurd (not_both cs h.0 k.0 h.1)
    by (inr h) (inr k) = h.2 ∙ ap refusal_response (one_number cs h.0 k.0 h.1 k.1) ∙ sym k.2
