-- Each refusal of a call on byte areas, under its condition and in its order (docs/SPECIFICATION.md, 6 and 7).
-- `ResponseOf`: what has to be known of a call's response to a record: its checks, its number, its lengths.
-- `on_response`, `class_responds`: a response that depends on a verdict, and one with a class.
-- `call_checked`: then the call refuses with 101 of the output, then as its record does, then as its response does, and
-- no byte changes; else it writes the bytes of the response.
use Prim.Native.Nat.{ℕ, zero, suc, ◌≤◌}
use mathlib.Core.{Path.◌≡◌, Path.refl, Path.sym, Path.ap, Path.subst, Path.◌∙◌, Bool.Bool, Bool.true, Bool.false, Bool.false≢true, Bool.◌&&◌, Bool.◌||◌, List.List, List.[], List.◌∷◌, List.◌++◌}
use native.Mathlib.Omega.{arith}
use lib.{Dec.leb, Dec.eqb, ListN.length}
use borrow.Author.Tests.{leb-true, leb-false, eqb-true}
use Rattle.jacobian.specs.{Checks.Check, Checks.check, Checks.unless, Checks.◌or_else◌, Checks.AllHold, Checks.RefusalOf, Refusals.listed, Answer.Verdict, Answer.verdict_of, Answer.refusal, Answer.Result, declared.Curve.Curve}
use Rattle.jacobian.specs.Checks as checks
use Rattle.jacobian.proofs.ByValue.Checks.{both}
use Rattle.jacobian.proofs.Checking.{refusal_unless, refusal_or_else, refusal_held, held_refusal}
use Rattle.stored_form.specs.{Reading.Reading, Reading.found, Reading.refused, Reading.reading_refusal, Classes.class_field, Reader.read_record, declared.Record.Record}
use Rattle.stored_form_theorems.specs.{Checking.record_checks, Checking.record_values, Numbers.OneOf, Numbers.class_field_lengths}
use Rattle.stored_form_theorems.proofs.{Checking.record_checked, Checking.record_found, ClassLengths.class_field_length}
use Rattle.written_form.specs.Effect.{Effect, Response, write, refuse, bytes_response, refusal_response, on_outcome, class_response, put, byte_call, call_checks, EffectOf}
use Rattle.written_form.specs.Effect as effects
use Rattle.written_form.proofs.Effects.{put_written, put_refusal, call_short, call_refused, call_found}

-- ---- a response

-- a response that makes these checks in order, and has bytes of one of these lengths where all hold
pub record ResponseOf (checks : List Check) (lengths : List ℕ) (o : Response) : Type 0 where
  pub number : ℕ
  pub refusal : RefusalOf checks number
  pub written : number ≡ 0 → OneOf lengths (length o.bytes) × (o ≡ bytes_response o.bytes)
  pub unwritten : ¬ (number ≡ 0) → o ≡ refusal_response number

pub on_response : {checks : List Check} (lengths : List ℕ) (n : ℕ) (v : Verdict) (xs : List ℕ) → RefusalOf checks n → v ≡ verdict_of n → (n ≡ 0 → OneOf lengths (length xs)) → ResponseOf checks lengths (on_outcome v xs)
unfolding on_outcome verdict_of
on_response {checks} lengths zero v xs h e k =
    subst (λ (w : Verdict). ResponseOf checks lengths (on_outcome w xs)) (sym e)
    (record { number = 0; refusal = h; written = λ z. (k refl, refl); unwritten = λ z. absurd (z refl) })
on_response {checks} lengths (suc n) v xs h e k =
    subst (λ (w : Verdict). ResponseOf checks lengths (on_outcome w xs)) (sym e)
    (record { number = suc n; refusal = h; written = λ z. absurd (omega arith); unwritten = λ z. refl })

-- a class, or the refusal
pub class_responds : {checks : List Check} (c : Curve) (n : ℕ) (r : Result) → RefusalOf checks n → r.outcome ≡ verdict_of n → (n ≡ 0 → refusal c r.class ≡ 0) → ResponseOf checks class_field_lengths (class_response r)
unfolding class_response
class_responds c n r h e k = on_response class_field_lengths n r.outcome (class_field 0x43 r.class) h e (λ z. class_field_length c r.class (k z) 0x43)

-- ---- numbers of a list

-- whether a test is true of each number
abbrev pub every : (ℕ → Bool) → List ℕ → Bool
every test [] = true
every test (n ∷ ns) = test n && every test ns

pub every_one : (test : ℕ → Bool) (ns : List ℕ) (n : ℕ) → every test ns ≡ true → OneOf ns n → test n ≡ true
unfolding listed
every_one test [] n e h = absurd (false≢true h)
every_one test (m ∷ ns) n e h = let p = both (test m) (every test ns) e in by (eqb n m) refl p.0 (every_one test ns n p.1) h
  where
    by : (b : Bool) → eqb n m ≡ b → test m ≡ true → (OneOf ns n → test n ≡ true) → (b || listed n ns) ≡ true → test n ≡ true
    by true f t rest h = subst (λ (k : ℕ). test k ≡ true) (sym (eqb-true n m f)) t
    by false f t rest h = rest h

-- ---- a call

refused_read : {x : Reading Record} → ¬ (reading_refusal x ≡ 0) → x ≡ refused (reading_refusal x)
refused_read {x = found h end} z = absurd (z refl)
refused_read {x = refused n} z = refl

module _ (least : ℕ) (tags : List ℕ) (answer : Record → Response) (last : Record → List Check) (lengths : List ℕ) (low : every (λ n. leb n least) lengths ≡ true) (s out : List ℕ) where
  abbrev h : Record
  h = record_values tags s

  abbrev does : Effect
  does = byte_call least tags answer s out

  -- the effect by the refusal of all checks
  effect_of : (n : ℕ) → RefusalOf (call_checks least tags last s out) n → (n ≡ 0 → OneOf lengths (length (answer h).bytes) × (does ≡ write (answer h).bytes out)) → (¬ (n ≡ 0) → does ≡ refuse n out) →
      EffectOf (call_checks least tags last s out) lengths (answer h).bytes out does
  effect_of n (checks.RefusalOf.all_hold z held) w u = let p = w z in effects.EffectOf.all_hold held p.0 p.1
  effect_of n (checks.RefusalOf.first_fails z fails) w u = effects.EffectOf.first_fails n fails (u z)

  module _ (response : AllHold (record_checks tags s) → ResponseOf (last h) lengths (answer h)) where
    -- an output with room
    with_room : least ≤ length out → EffectOf (call_checks least tags last s out) lengths (answer h).bytes out does
    unfolding unless ◌or_else◌
    with_room fits = by (reading_refusal (read_record tags s)) refl
      where
        roomy : RefusalOf (check 101 (least ≤ length out) ∷ []) 0
        roomy = refusal_unless true 101 (λ e. omega arith) (λ e. fits, λ l. refl)

        -- the refusal of the record, and else that of the response
        whole : (m n : ℕ) → reading_refusal (read_record tags s) ≡ m → (AllHold (record_checks tags s) → RefusalOf (last h) n) → RefusalOf (call_checks least tags last s out) (m or_else n)
        whole m n e k =
            refusal_or_else (check 101 (least ≤ length out) ∷ []) (record_checks tags s ++ last h) 0 (m or_else n) roomy
            (λ p. refusal_or_else (record_checks tags s) (last h) m n (subst (RefusalOf (record_checks tags s)) e (record_checked tags s)) k)

        by : (m : ℕ) → reading_refusal (read_record tags s) ≡ m → EffectOf (call_checks least tags last s out) lengths (answer h).bytes out does
        by zero e =
            let held = held_refusal (record_checked tags s) e in
            let r = response held in
            let found_record = call_found least tags answer s out fits (record_found tags s held) in
            effect_of r.number (whole 0 r.number e (λ p. r.refusal))
            (λ z.
            let p = r.written z in
            (p.0, found_record ∙ ap (λ (o : Response). put o out) p.1 ∙ put_written (answer h).bytes out (omega (arith, leb-true (length (answer h).bytes) least (every_one (λ n. leb n least) lengths (length (answer h).bytes) low p.0)))))
            (λ z. found_record ∙ ap (λ (o : Response). put o out) (r.unwritten z) ∙ put_refusal r.number out)
        by (suc m) e =
            effect_of (suc m) (whole (suc m) 0 e (λ p. absurd (omega (arith, e, refusal_held (record_checked tags s) p)))) (λ z. absurd (omega arith))
            (λ z. call_refused least tags answer s out fits (refused_read (λ f. omega (arith, e, f)) ∙ ap refused e))

    pub call_checked : EffectOf (call_checks least tags last s out) lengths (answer h).bytes out does
    unfolding unless ◌or_else◌
    call_checked = by (leb least (length out)) refl
      where
        by : (b : Bool) → leb least (length out) ≡ b → EffectOf (call_checks least tags last s out) lengths (answer h).bytes out does
        by true e = with_room (leb-true least (length out) e)
        by false e =
            effect_of 101
            (refusal_or_else (check 101 (least ≤ length out) ∷ []) (record_checks tags s ++ last h) 101 0 (refusal_unless false 101 (λ z. omega arith) (λ z. absurd (false≢true z), λ l. absurd (omega (arith, leb-false least (length out) e)))) (λ p. absurd (omega (arith, leb-false least (length out) e, p.0))))
            (λ z. absurd (omega arith)) (λ z. call_short least tags answer s out (leb-false least (length out) e))
