-- Each byte call of multiples and repeated halves wrote or refused (docs/SPECIFICATION.md, 6 and 7).
-- `multiple_checked`: n times refuses with 101 of the output, then as its record does, then with 118 of n, and no byte
-- changes; where no check fails, it writes a class's field.
-- `halvings_checked`: the same of k halvings, with 119 of k.
-- `multiple_wrote_or_refused`: on every input and output, n times writes 3, 19, 35 or 51 bytes and answers their
-- number, or answers one of 101 to 107, 110 to 112 and 118 and leaves the output as it was.
-- `halvings_wrote_or_refused`: the same of k halvings, with 119 in place of 118.
-- `multiple_decides`: the answer alone of n times says which of the two it was.
-- `halvings_decides`: the answer alone of k halvings says which of the two it was.
-- Where the output has room for a class field:
-- `too_large_bytes`: a record that is read is refused with 118 for n of 2^61 or more.
use Prim.Native.Nat.{ℕ, zero, suc, ◌^◌, ◌≤◌, ◌<◌}
use mathlib.Core.{Path.◌≡◌, Path.refl, Path.sym, Path.ap, Path.subst, List.List, List.[], List.◌∷◌}
use native.Mathlib.Omega.{arith}
use lib.{Dec.ltb, Dec.leb, ListN.length}
use borrow.Author.Tests.{ltb-true, lt-ltb, leb-true, le-leb}
use Rattle.jacobian.specs.{Checks.check, Checks.unless, Checks.◌or_else◌, Checks.AllHold, Checks.RefusalOf, Refusals.listed, Answer.Result, Answer.refusal, Answer.verdict_of, declared.Curve.Curve, declared.Class.Class}
use Rattle.jacobian.proofs.Checking.{refusal_unless}
use Rattle.stored_form.specs.{Reading.found, Head.class_room, Passing.ClassPasses, Reader.read_record, Reader.class_layout, declared.Record.Record}
use Rattle.stored_form_theorems.specs.{Checking.record_checks, Checking.record_values, Numbers.class_field_lengths}
use Rattle.stored_form_theorems.proofs.Checking.{record_found}
use Rattle.written_form.specs.Effect.{refuse, class_response, EffectOf, WroteOrRefused, AnswerDecides}
use Rattle.written_form.proofs.{Effects.answer_refused, Checking.ResponseOf, Checking.class_responds, Checking.call_checked, WroteOrRefused.call_wrote_or_refused, WroteOrRefused.answer_decides}
use Rattle.seal.proofs.{Passing.class_holds, ClassCalls.class_call}
use Rattle.seal_licence.specs.Multiples.{multiple_limit, halvings_limit, refuses, given, multiple_refusal, halvings_refusal, multiple_answer, halvings_answer}
use Rattle.seal_licence.specs.Calls.{answered, multiple_call, halvings_call}
use Rattle.seal_licence.proofs.{Theorems.multiple_too_large, Answers.multiple_passes, Answers.halvings_passes}
use Rattle.licence_theorems.specs.Checking.{multiple_checks, halvings_checks, multiple_numbers, halvings_numbers}
use Rattle.licence_theorems.proofs.Passing.{multiple_given, halvings_given}

-- ---- responses

-- an answer that is given by its refusal
given_verdict : (m : ℕ) (a : Class) → (given m a).outcome ≡ verdict_of m
unfolding given verdict_of
given_verdict zero a = refl
given_verdict (suc m) a = refl

-- the last check of a class that is accepted
last_number : (c : Curve) (a : Class) (m : ℕ) → refusal c a ≡ 0 → refusal c a or_else m ≡ m
unfolding ◌or_else◌
last_number c a m ok = rw ok refl

module _ (s : List ℕ) (held : AllHold (record_checks class_layout s)) where
  abbrev h : Record
  h = record_values class_layout s

  accepts : ClassPasses h.curve h.class
  accepts = class_holds s (record_found class_layout s held)

  multiple_responds : (n : ℕ) → ResponseOf (check 118 (n < 2 ^ 61) ∷ []) class_field_lengths (class_response (multiple_answer h.curve h.class n))
  unfolding multiple_answer multiple_refusal
  multiple_responds n =
      let c = h.curve in
      let a = h.class in
      let is = last_number c a (unless (ltb n multiple_limit) 118) accepts.none in
      let checked = refusal_unless (ltb n multiple_limit) 118 (λ z. omega arith) (ltb-true n multiple_limit, lt-ltb n multiple_limit) in
      class_responds c (multiple_refusal c a n) _ (subst (RefusalOf (check 118 (n < 2 ^ 61) ∷ [])) (sym is) checked) (given_verdict (multiple_refusal c a n) _)
      (λ z. (multiple_given accepts n (multiple_passes c a n z).1).passes.none)

  halvings_responds : (k : ℕ) → ResponseOf (check 119 (k ≤ 64) ∷ []) class_field_lengths (class_response (halvings_answer h.curve h.class k))
  unfolding halvings_answer halvings_refusal
  halvings_responds k =
      let c = h.curve in
      let a = h.class in
      let is = last_number c a (unless (leb k halvings_limit) 119) accepts.none in
      let checked = refusal_unless (leb k halvings_limit) 119 (λ z. omega arith) (leb-true k halvings_limit, le-leb k halvings_limit) in
      class_responds c (halvings_refusal c a k) _ (subst (RefusalOf (check 119 (k ≤ 64) ∷ [])) (sym is) checked) (given_verdict (halvings_refusal c a k) _)
      (λ z. (halvings_given accepts k (halvings_passes c a k z).1).passes.none)

-- ---- the calls

pub multiple_checked : (n : ℕ) (s out : List ℕ) → EffectOf (multiple_checks n s out) class_field_lengths (let h = record_values class_layout s in (class_response (multiple_answer h.curve h.class n)).bytes) out (multiple_call n s out)
unfolding answered
multiple_checked n s out = call_checked class_room class_layout (λ h. class_response (multiple_answer h.curve h.class n)) (λ h. check 118 (n < 2 ^ 61) ∷ []) class_field_lengths refl s out (λ held. multiple_responds s held n)

pub halvings_checked : (k : ℕ) (s out : List ℕ) → EffectOf (halvings_checks k s out) class_field_lengths (let h = record_values class_layout s in (class_response (halvings_answer h.curve h.class k)).bytes) out (halvings_call k s out)
unfolding answered
halvings_checked k s out = call_checked class_room class_layout (λ h. class_response (halvings_answer h.curve h.class k)) (λ h. check 119 (k ≤ 64) ∷ []) class_field_lengths refl s out (λ held. halvings_responds s held k)

pub multiple_wrote_or_refused : (n : ℕ) (s out : List ℕ) → WroteOrRefused class_room class_field_lengths multiple_numbers out (multiple_call n s out)
unfolding listed
multiple_wrote_or_refused n s out = call_wrote_or_refused multiple_numbers refl (multiple_checked n s out)

pub halvings_wrote_or_refused : (k : ℕ) (s out : List ℕ) → WroteOrRefused class_room class_field_lengths halvings_numbers out (halvings_call k s out)
unfolding listed
halvings_wrote_or_refused k s out = call_wrote_or_refused halvings_numbers refl (halvings_checked k s out)

pub multiple_decides : (n : ℕ) (s out : List ℕ) → AnswerDecides class_room class_field_lengths multiple_numbers out (multiple_call n s out)
multiple_decides n s out = answer_decides refl refl (multiple_wrote_or_refused n s out)

pub halvings_decides : (k : ℕ) (s out : List ℕ) → AnswerDecides class_room class_field_lengths halvings_numbers out (halvings_call k s out)
halvings_decides k s out = answer_decides refl refl (halvings_wrote_or_refused k s out)

-- ---- refusals, where the output has room
module _ (s out : List ℕ) (room : class_room ≤ length out) where
  module _ {h : Record} {end : ℕ} (read : read_record class_layout s ≡ found h end) where
    refused_call : {m : ℕ} (f : Curve → Class → Result) → f h.curve h.class ≡ refuses m → class_call f s out ≡ refuse m out
    unfolding class_response
    refused_call f e = answer_refused class_room class_layout _ s out room read _ _ refl (ap (λ (r : Result). r.outcome) e)

    pub too_large_bytes : (n : ℕ) → multiple_limit ≤ n → multiple_call n s out ≡ refuse 118 out
    unfolding answered
    too_large_bytes n l = refused_call (λ c a. multiple_answer c a n) (multiple_too_large h.curve h.class n (class_holds s read) l)
