-- Each refusal of the byte calls, under its condition and in its order (docs/SPECIFICATION.md, 6 and 7).
-- `membership_checked`: membership refuses as its record does.
-- `given_responds`: a call that gives a class that passes responds with its field.
-- `call_verdict`: the outcome of a register call is that of its refusal.
-- `call_checked`: every other call refuses with 101 of the output, then as its record does, then with 113 to 116 or
-- 121 of its values, and no byte changes; where no check fails, it writes its bytes, of one of its lengths.
use Prim.Native.Nat.{ℕ, ◌-◌, ◌^◌, ◌≤◌, ◌<◌}
use mathlib.Core.{Path.◌≡◌, Path.refl, Path.ap, Path.◌∙◌, Bool.Bool, Bool.true, Bool.false, Bool.false≢true, List.List, List.[], List.◌∷◌, Logic.◌↔◌, Logic.◌⊎◌, Logic.inl, Logic.inr, Option.Option, Option.none, Option.some}
use native.Mathlib.Omega.{arith}
use lib.{Dec.ltb, Dec.leb}
use borrow.Author.Tests.{ltb-true, ltb-false, lt-ltb}
use Rattle.jacobian.specs.{Checks.Check, Checks.check, Checks.unless, Checks.◌or_else◌, Checks.AllHold, Checks.RefusalOf, Refusals.listed, Curves.f_row, Curves.curve_refusal, Answer.Result, Answer.accepted, Answer.refused, Answer.result, Answer.verdict_of, declared.Curve.Curve, declared.Class.Class}
use Rattle.jacobian.proofs.{Checking.refusal_none, Checking.refusal_unless, Checking.refusal_or_else, Representation.accepts_curve, Representation.accepts_class, Representation.accepts_both}
use Rattle.history.specs.Calls.{call_refusal}
use Rattle.history.specs.{Register.register_refusal, Register.step_refusal, Register.RegisterReply, Register.step_answer, Register.release_answer, Calls.answer, Checking.edge_checks}
use Rattle.history.specs.Calls as history
use Rattle.history.specs.declared.{Register.Register, Step.Step, Step.TheVariants.Commit, Step.TheVariants.Undo}
use Rattle.history.proofs.{Registers.passes_register, Registers.follows_outcome, OneCall.accepted_passes, Checking.answer_follows, Checking.edge_checked}
use Rattle.stamps.specs.Stamps.{first_class, stamp_refusal, stamped, stamp_answer, SomeRoot}
use Rattle.stamps.proofs.Theorems.{stamp_gives, stamp_accepts, stamp_too_large, stamp_rootless}
use Rattle.stored_form.specs.{Fields.count_limit, Reader.curve_layout, Reader.class_layout, Reader.sum_layout, Reader.register_layout, Reader.step_layout, Passing.CountPasses, Passing.ReleasedPasses, Passing.ClassPasses, declared.Record.Record}
use Rattle.stored_form_theorems.specs.{Checking.record_checks, Checking.record_values, Numbers.class_field_lengths, Numbers.register_field_lengths}
use Rattle.stored_form_theorems.proofs.{Checking.record_checked, Checking.record_found, ClassLengths.first_degree_length, ClassLengths.counted_length}
use Rattle.written_form.specs.Effect.{class_response, call_checks, EffectOf}
use Rattle.written_form.proofs.Checking.{every, ResponseOf, on_response, class_responds}
use Rattle.written_form.proofs.Checking as written
use Rattle.seal.specs.Records.{register_fields}
use Rattle.seal.specs.Calls.{register_response, answered, membership_call, tags, room, called}
use Rattle.seal.specs.Checking.{last_checks, checks, lengths}
use Rattle.seal.specs.declared.calls.Call.{Call}
use Rattle.seal.specs.declared.calls.Call.TheVariants.{Opposite, Double, Half, Sum, Stamp}
use Rattle.seal.proofs.Passing.{Given, curve_holds, class_holds, sum_holds, register_holds, step_holds, opposite_given, double_given, half_given, sum_given}

pub membership_checked : (s : List ℕ) → RefusalOf (record_checks class_layout s) (membership_call s)
unfolding membership_call
membership_checked s = record_checked class_layout s

-- ---- a class

pub given_responds : {c : Curve} {r : Result} → Given c r → ResponseOf [] class_field_lengths (class_response r)
unfolding verdict_of
given_responds {c} {r} g = class_responds c 0 r refusal_none (ap (λ (x : Result). x.outcome) g.gives_class) (λ z. g.passes.none)

-- ---- a register

pub call_verdict : (g : Register) (c : history.Call) → (answer g c).outcome ≡ verdict_of (call_refusal g c)
call_verdict g c = ap (λ (x : RegisterReply). x.outcome) (answer_follows g c) ∙ follows_outcome (call_refusal g c) g _

-- a register call on values that pass, with the number with which it is refused then
register_responds : (g : Register) (c : history.Call) {n : ℕ} {checks : List Check} → call_refusal g c ≡ n → RefusalOf checks n → ResponseOf checks register_field_lengths (register_response (answer g c))
unfolding register_response verdict_of
register_responds g c {n} e h =
    on_response _ n (answer g c).outcome (register_fields (answer g c).register) h (call_verdict g c ∙ ap verdict_of e)
    (λ z.
    let next = (answer g c).register in
    let p = accepted_passes g c (call_verdict g c ∙ ap verdict_of (e ∙ z)) in
    counted_length next.curve next.seal (accepts_both next.curve next.seal p.curve_passes p.seal_passes).none 0x43 next.count next.released)

module _ (g : Register) (count : CountPasses g.count) (released : ReleasedPasses g.count g.released) (seal : ClassPasses g.curve g.seal) where
  passes : register_refusal g ≡ 0
  passes = passes_register g (record { curve_passes = accepts_curve seal; count_passes = count; released_passes = released; seal_passes = accepts_class seal })

  release_responds : ResponseOf [] register_field_lengths (register_response (release_answer g))
  unfolding answer call_refusal
  release_responds = register_responds g history.release passes refusal_none

  step_responds : (k : Step) (a : Class) → ClassPasses g.curve a → ResponseOf (edge_checks k g.count g.released) register_field_lengths (register_response (step_answer k g a))
  unfolding answer call_refusal step_refusal ◌or_else◌
  step_responds k a class = register_responds g (history.step k a) (rw (passes, accepts_class class) refl) (edge_checked k g.count g.released)

-- ---- a stamp

-- on a curve that is accepted, a stamp below the limit is accepted or refused with 116
stamp_outcome : (c : Curve) (s : ℕ) → curve_refusal c ≡ 0 → s < 2 ^ (c.degree - 3) → ((stamp_answer c s).outcome ≡ accepted) ⊎ ((stamp_answer c s).outcome ≡ refused 116)
unfolding stamp_answer stamp_refusal stamped unless ◌or_else◌
stamp_outcome c s ok l = rw (ok, lt-ltb s (2 ^ (c.degree - 3)) l) (by (first_class c.degree (f_row c) s))
  where
    by : (o : Option Class) → ((stamped 0 o).outcome ≡ accepted) ⊎ ((stamped 0 o).outcome ≡ refused 116)
    by (some a) = inl refl
    by none = inr refl

module _ (h : Record) (s : ℕ) (ok : curve_refusal h.curve ≡ 0) where
  -- the stamp is too large; or it is within its limit, and what is left is whether a candidate has a root
  too_large : 2 ^ (h.curve.degree - 3) ≤ s → RefusalOf (last_checks (Stamp s) h) 115
  unfolding unless ◌or_else◌
  too_large l =
      refusal_or_else (check 115 _ ∷ []) (check 116 _ ∷ []) 115 0 (refusal_unless false 115 (λ z. omega arith) (λ f. absurd (false≢true f), λ m. absurd (omega arith)))
      (λ p. absurd (omega (arith, p.0)))

  within : s < 2 ^ (h.curve.degree - 3) → (b : Bool) → ((b ≡ true) ↔ SomeRoot h.curve s) → RefusalOf (last_checks (Stamp s) h) (unless b 116)
  unfolding unless ◌or_else◌
  within l b i =
      refusal_or_else (check 115 _ ∷ []) (check 116 _ ∷ []) 0 (unless b 116) (refusal_unless true 115 (λ z. omega arith) (λ f. l, λ m. refl))
      (λ p. refusal_unless b 116 (λ z. omega arith) i)

  -- the response with this number
  numbered : (n : ℕ) → RefusalOf (last_checks (Stamp s) h) n → (stamp_answer h.curve s).outcome ≡ verdict_of n → (n ≡ 0 → (stamp_answer h.curve s).outcome ≡ accepted) →
      ResponseOf (last_checks (Stamp s) h) (19 ∷ []) (class_response (result (stamp_answer h.curve s)))
  unfolding class_response listed
  numbered n r e k =
      on_response (19 ∷ []) n _ _ r e
      (λ z. let a = stamp_accepts h.curve s (k z) in rw (first_degree_length h.curve _ a.0.none 0x43 a.1) refl)

  stamp_responds : ResponseOf (last_checks (Stamp s) h) (19 ∷ []) (class_response (result (stamp_answer h.curve s)))
  unfolding unless verdict_of
  stamp_responds = by (ltb s (2 ^ (h.curve.degree - 3))) refl
    where
      by : (b : Bool) → ltb s (2 ^ (h.curve.degree - 3)) ≡ b → ResponseOf (last_checks (Stamp s) h) (19 ∷ []) (class_response (result (stamp_answer h.curve s)))
      by true f =
          let l = ltb-true s (2 ^ (h.curve.degree - 3)) f in
          elim (stamp_outcome h.curve s ok l) [
            | inl e ↦
                let g = stamp_gives h.curve s e in
                numbered 0 (within l true (λ z. (g.0, g.1.place, (g.1.y, g.1.root.root)), λ z. refl)) e (λ z. e)
            | inr e ↦
                let all = ((stamp_rootless h.curve s).0 e).2 in
                numbered 116 (within l false (λ z. absurd (false≢true z), λ some. absurd (all some.0 some.1 some.2.0 some.2.1))) e (λ z. absurd (omega arith))
          ]
      by false f =
          let l = ltb-false s (2 ^ (h.curve.degree - 3)) f in
          numbered 115 (too_large l) (stamp_too_large h.curve s ok l) (λ z. absurd (omega arith))

-- ---- the calls

responds : (call : Call) (s : List ℕ) → AllHold (record_checks (tags call) s) → let h = record_values (tags call) s in ResponseOf (last_checks call h) (lengths call) (answered call h)
unfolding answered count_limit
responds Opposite s held = given_responds (opposite_given (class_holds s (record_found class_layout s held)))
responds Double s held = given_responds (double_given (class_holds s (record_found class_layout s held)))
responds Half s held = given_responds (half_given (class_holds s (record_found class_layout s held)))
responds Sum s held = let p = sum_holds s (record_found sum_layout s held) in given_responds (sum_given p.0 p.1)
responds Call.Commit s held = let p = step_holds s (record_found step_layout s held) in step_responds _ p.0 p.1 p.2 Commit _ p.3
responds Call.Undo s held = let p = step_holds s (record_found step_layout s held) in step_responds _ p.0 p.1 p.2 Undo _ p.3
responds Call.Release s held = let p = register_holds s (record_found register_layout s held) in release_responds _ p.0 p.1 p.2
responds (Stamp n) s held = stamp_responds (record_values curve_layout s) n (curve_holds s (record_found curve_layout s held))

checked : (call : Call) (s out : List ℕ) → every (λ n. leb n (room call)) (lengths call) ≡ true →
    EffectOf (call_checks (room call) (tags call) (last_checks call) s out) (lengths call) (answered call (record_values (tags call) s)).bytes out (called call s out)
checked call s out low = written.call_checked (room call) (tags call) (answered call) (last_checks call) (lengths call) low s out (responds call s)

pub call_checked : (call : Call) (s out : List ℕ) → EffectOf (checks call s out) (lengths call) (answered call (record_values (tags call) s)).bytes out (called call s out)
call_checked Opposite s out = checked Opposite s out refl
call_checked Double s out = checked Double s out refl
call_checked Half s out = checked Half s out refl
call_checked Sum s out = checked Sum s out refl
call_checked Call.Commit s out = checked Call.Commit s out refl
call_checked Call.Undo s out = checked Call.Undo s out refl
call_checked Call.Release s out = checked Call.Release s out refl
call_checked (Stamp n) s out = checked (Stamp n) s out refl
