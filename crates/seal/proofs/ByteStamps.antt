-- The stamp's call on bytes (docs/SPECIFICATION.md, 2 and 6).
-- For every record of degree and curve that is read, and an output that has room for a class field:
-- `stamp_writes`: an accepted stamp's class field is written.
-- `stamp_refused`: a refused stamp's number is the answer.
-- `too_large_bytes`: a stamp of 2^(d-3) or more is refused with 115, whatever its candidates.
-- `stamps_apart`: two stamps for which calls on one record write the same are one stamp, whatever outputs are lent.
use Prim.Native.Nat.{ℕ, ◌-◌, ◌^◌, ◌≤◌}
use mathlib.Core.{Path.◌≡◌, Path.refl, Path.sym, Path.ap, Path.subst, Path.◌∙◌, List.List}
use native.Mathlib.Omega.{arith}
use lib.ListN.{length, drop}
use Rattle.jacobian.specs.{Refusals.IsRefusal, Answer.Verdict, Answer.accepted, Answer.refused, Answer.refusal, declared.Curve.Curve, declared.Class.Class}
use Rattle.jacobian.proofs.Refusals.{above_100}
use Rattle.stamps.specs.Stamps.{stamp_answer}
use Rattle.stamps.proofs.Theorems.{stamp_accepts, stamp_refuses, stamp_too_large, stamp_injective}
use Rattle.stored_form.specs.{Number.encode_number, Reading.found, Head.class_room, Head.encode_field, Head.head_bytes, Classes.decode_class, Classes.class_field, Reader.read_record, Reader.curve_layout, declared.Record.Record}
use Rattle.stored_form_theorems.proofs.ClassRoundTrips.{decode_body, class_short}
use Rattle.written_form.specs.{Effect.Effect, Effect.Response, Effect.write, Effect.refuse, Effect.class_response, Effect.longest_answer, Wrote.wrote, Wrote.response_given}
use Rattle.written_form.proofs.{Effects.answer_written, Effects.answer_refused, WroteOrRefused.never_both, Wrote.wrote_write}
use Rattle.seal.specs.Calls.{answered, stamp_call}
use Rattle.seal.specs.declared.calls.Call.TheVariants.{Stamp}
use Rattle.seal.proofs.{Passing.curve_holds, WroteOrRefused.length_read}

module _ (s out : List ℕ) (room : class_room ≤ length out) {h : Record} {end : ℕ} (read : read_record curve_layout s ≡ found h end) (n : ℕ) where
  pub stamp_writes : (stamp_answer h.curve n).outcome ≡ accepted → stamp_call n s out ≡ write (class_field 0x43 (stamp_answer h.curve n).class) out
  unfolding answered class_response
  stamp_writes e = answer_written class_room curve_layout _ s out room read _ _ refl e (class_short 0x43 h.curve _ (stamp_accepts h.curve n e).0.none)

  pub stamp_refused : {k : ℕ} → (stamp_answer h.curve n).outcome ≡ refused k → stamp_call n s out ≡ refuse k out
  unfolding answered class_response
  stamp_refused e = answer_refused class_room curve_layout _ s out room read _ _ refl e

  pub too_large_bytes : 2 ^ (h.curve.degree - 3) ≤ n → stamp_call n s out ≡ refuse 115 out
  too_large_bytes l = stamp_refused (stamp_too_large h.curve n (curve_holds s read) l)

  -- the refusal of the call is that of the call by value
  answers : (v : Verdict) (k : ℕ) → (stamp_answer h.curve n).outcome ≡ v → IsRefusal k → stamp_call n s out ≡ refuse k out → v ≡ refused k
  unfolding refuse write
  answers accepted k e i is =
      let short : length (class_field 0x43 (stamp_answer h.curve n).class) ≤ class_room = class_short 0x43 h.curve _ (stamp_accepts h.curve n e).0.none in
      let same : length (class_field 0x43 (stamp_answer h.curve n).class) ≡ k = ap (λ (x : Effect). x.answer) (sym (stamp_writes e) ∙ is) in
      absurd (omega (arith, above_100 k i))
  answers (refused m) k e i is = ap refused (ap (λ (x : Effect). x.answer) (sym (stamp_refused e) ∙ is))

  -- an answer that is a length means that the stamp was accepted
  length_accepted : (stamp_call n s out).answer ≤ longest_answer → (stamp_answer h.curve n).outcome ≡ accepted
  unfolding refuse
  length_accepted low = by (stamp_answer h.curve n).outcome refl
    where
      by : (v : Verdict) → (stamp_answer h.curve n).outcome ≡ v → v ≡ accepted
      by accepted e = refl
      by (refused k) e = absurd (never_both (subst (λ (x : Effect). x.answer ≤ longest_answer) (stamp_refused e) low) (stamp_refuses h.curve n k e))

-- ---- two stamps

-- the field of a class that passes decodes to the class
said : (c : Curve) (a : Class) → refusal c a ≡ 0 → decode_class (drop 3 (class_field 0x43 a)) ≡ a
unfolding class_field encode_field head_bytes encode_number
said c a e = decode_body c a e

pub stamps_apart : (s out out' : List ℕ) (m n : ℕ) → (stamp_call m s out).answer ≤ longest_answer → class_room ≤ length out'
    → response_given (stamp_call m s out) ≡ response_given (stamp_call n s out') → m ≡ n
unfolding write
stamps_apart s out out' m n low room' same =
    let p = length_read (Stamp m) s out low in
    let c = p.1.0.curve in
    let read = p.1.2 in
    let e = length_accepted s out p.0 read m low in
    let f = length_accepted s out' room' read n (subst (λ (x : Response). x.answer ≤ longest_answer) same low) in
    let x = (stamp_answer c m).class in
    let y = (stamp_answer c n).class in
    let first : length (class_field 0x43 x) ≤ class_room = class_short 0x43 c x (stamp_accepts c m e).0.none in
    let second : length (class_field 0x43 y) ≤ class_room = class_short 0x43 c y (stamp_accepts c n f).0.none in
    let fields : class_field 0x43 x ≡ class_field 0x43 y =
    sym (ap wrote (stamp_writes s out p.0 read m e) ∙ wrote_write (class_field 0x43 x) out (omega arith))
    ∙ ap (λ (r : Response). r.bytes) same
    ∙ (ap wrote (stamp_writes s out' room' read n f) ∙ wrote_write (class_field 0x43 y) out' (omega arith)) in
    stamp_injective c m n e f
    (sym (said c x (stamp_accepts c m e).0.none) ∙ ap (λ (b : List ℕ). decode_class (drop 3 b)) fields ∙ said c y (stamp_accepts c n f).0.none)
