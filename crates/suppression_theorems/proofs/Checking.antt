-- What the call that suppresses an operation does (docs/SPECIFICATION.md, 6 and 9).
-- `refusal_answers`: its refusal is 0 or one of the numbers of its checks, without 124 where operation k is not held.
-- `suppress_checked`: each refusal, under its condition and in its order; else the suppressed archive is written.
-- `suppress_wrote_or_refused`: it wrote into an output with room, or refused with a listed number and changed no byte.
-- `suppress_decides`: its member `refusal` alone decides which of the two.
-- `same_answer`, `same_bytes`: neither the answer nor a byte written depends on what the output held.
use Prim.Native.Nat.{ℕ, zero, suc, ◌+◌, ◌≤◌}
use mathlib.Core.Path.{◌≡◌, refl, sym, ap, ◌∙◌, subst}
use mathlib.Core.Bool.{Bool, true, false, true≢false, not, ◌&&◌}
use mathlib.Core.List.{List, [], ◌∷◌, ◌++◌}
use mathlib.Core.Logic.{inl, inr}
use native.Mathlib.Omega.{arith}
use lib.Dec.{leb}
use lib.ListN.{length, take, drop}
use lib.Seq.{take-append_seam}
use borrow.Author.Tests.{le-leb, leb-true, not-false}
use Rattle.jacobian.specs.{Checks.Check, Checks.check, Checks.unless, Checks.◌or_else◌, Checks.RefusalOf, Refusals.listed}
use Rattle.jacobian.specs.Checks as checks
use Rattle.jacobian.proofs.{ByValue.Checks.both, ByValue.Checks.then_zero, Checking.held_refusal, Checking.refusal_unless, Checking.refusal_or_else, Checking.refusal_held}
use Rattle.stored_form.specs.{Number.Bytes, Reading.Reading, Reading.found, Reading.refused, Reading.checked, Reading.◌then◌, Reading.reading_refusal}
use Rattle.stored_form.proofs.{Readings.found_not_refused}
use Rattle.stored_form_theorems.specs.Numbers.{OneOf, ZeroOrOneOf}
use Rattle.written_form.specs.Effect.{room_refusal}
use Rattle.written_form.proofs.Checking.{every, every_one}
use Rattle.archive.specs.Archive.{Archive, read_archive, archive_in, archive_said, archive_refusal}
use Rattle.archive.proofs.Valid.{archive_found}
use Rattle.archive_theorems.specs.{Checking.archive_checks, Checking.archive_numbers, Written.archive_bytes}
use Rattle.archive_theorems.proofs.Checking.{archive_checked, archive_answers}
use Rattle.suppression_theory.specs.{Archives.Held, Archives.held, Archives.suppressed}
use Rattle.suppression_theory.proofs.{Holding.not_decides, Holding.held_decides, Lengths.suppressed_lengths}
use Rattle.seal_archive.specs.declared.suppress.Written.{Written}
use Rattle.seal_archive.specs.Suppress.{WrittenEffect, length_written, suppress_numbers, refuse_archive, write_archive, put_archive, growth, suppress_refusal, suppress_archive, suppress_call}
use Rattle.seal_archive.proofs.Accepted.{said_stored}
use Rattle.suppression_theorems.specs.Checking.{suppress_checks, WrittenEffectOf, all_hold, first_fails, WroteOrRefused, wrote, kept, RefusalDecides}

-- ---- the effect by the number of the refusal

-- these bytes are written if there is no refusal
effect_by : ℕ → List ℕ → List ℕ → WrittenEffect
effect_by zero bytes out = write_archive bytes out
effect_by (suc n) bytes out = refuse_archive (suc n) out

checked_effect : {cs : List Check} {n : ℕ} {bytes out : List ℕ} {e : WrittenEffect} → RefusalOf cs n → e ≡ effect_by n bytes out → WrittenEffectOf cs bytes out e
unfolding effect_by
checked_effect {n = zero} (checks.RefusalOf.all_hold z h) e = all_hold h e
checked_effect {n = zero} (checks.RefusalOf.first_fails z h) e = absurd (z refl)
checked_effect {n = suc n} (checks.RefusalOf.all_hold z h) e = absurd (omega arith)
checked_effect {n = suc n} (checks.RefusalOf.first_fails z h) e = first_fails (suc n) h e

module _ (s : List ℕ) (k : ℕ) (out : List ℕ) where
  -- the bytes of the suppressed archive
  abbrev new : List ℕ
  new = archive_bytes (suppressed k (archive_said s))

  -- the refusal of the call
  number : ℕ
  number = room_refusal (length out) (length s + growth) or_else archive_refusal s or_else suppress_refusal k (archive_said s)

  by_number : suppress_call s k out ≡ effect_by number new out
  unfolding suppress_call suppress_archive number archive_refusal archive_said archive_in put_archive effect_by checked ◌then◌ ◌or_else◌
  by_number = go (room_refusal (length out) (length s + growth)) (read_archive s) refl
    where
      last : (n : ℕ) (a : Archive) (end : ℕ) → put_archive (checked n (found a end)) out ≡ effect_by n (archive_bytes a) out
      last zero a end = refl
      last (suc n) a end = refl

      go : (m : ℕ) (x : Reading Archive) → read_archive s ≡ x
          → put_archive (checked m x then λ a end. checked (suppress_refusal k a) (found (suppressed k a) end)) out
          ≡ effect_by (m or_else reading_refusal x or_else suppress_refusal k (archive_in x)) (archive_bytes (suppressed k (archive_in x))) out
      go zero (found a end) e = last (suppress_refusal k a) (suppressed k a) end
      go zero (refused zero) e = absurd (found_not_refused (sym e ∙ (archive_found s (ap reading_refusal e)).2))
      go zero (refused (suc n)) e = refl
      go (suc m) x e = refl

  -- ---- the numbers

  -- the number is 0 or in a list that has those of the checks; 124 has to be there only if operation k is held
  number_answers : (ns : List ℕ) → OneOf ns 101 → every (λ n. listed n ns) archive_numbers ≡ true → OneOf ns 123
      → (archive_refusal s ≡ 0 → held k (archive_said s) ≡ true → OneOf ns 124) → ZeroOrOneOf ns number
  unfolding number room_refusal suppress_refusal unless ◌or_else◌
  number_answers ns short archives range holding =
      either _ (one (leb (length s + growth) (length out)) 101 (λ e. short))
      (λ roomy. either (archive_refusal s) (archive (archive_answers s))
      (λ accepted. either _ (one (leb 1 k && leb k (length (archive_said s).operations)) 123 (λ e. range))
      (λ within. one (not (held k (archive_said s))) 124 (λ e. holding accepted (not-false (held k (archive_said s)) e)))))
    where
      either : (m : ℕ) {n : ℕ} → ZeroOrOneOf ns m → (m ≡ 0 → ZeroOrOneOf ns n) → ZeroOrOneOf ns (m or_else n)
      either zero h k = k refl
      either (suc m) h k = h

      one : (b : Bool) (n : ℕ) → (b ≡ false → OneOf ns n) → ZeroOrOneOf ns (unless b n)
      one true n h = inl refl
      one false n h = inr (h refl)

      archive : {n : ℕ} → ZeroOrOneOf archive_numbers n → ZeroOrOneOf ns n
      archive (inl e) = inl e
      archive {n} (inr h) = inr (every_one (λ n. listed n ns) archive_numbers n archives h)

  pub refusal_answers : (ns : List ℕ) → OneOf ns 101 → every (λ n. listed n ns) archive_numbers ≡ true → OneOf ns 123
      → (archive_refusal s ≡ 0 → held k (archive_said s) ≡ true → OneOf ns 124) → ZeroOrOneOf ns (suppress_call s k out).written.refusal
  unfolding effect_by write_archive refuse_archive
  refusal_answers ns short archives range holding =
      subst (ZeroOrOneOf ns) (sym (ap (λ (e : WrittenEffect). e.written.refusal) by_number ∙ same number)) (number_answers ns short archives range holding)
    where
      same : (n : ℕ) → (effect_by n new out).written.refusal ≡ n
      same zero = refl
      same (suc n) = refl

  -- ---- the checks

  module _ (b : Bytes s) where
    abbrev a : Archive
    a = archive_said s

    -- those of k, of an accepted archive
    abbrev last_checks : List Check
    last_checks = check 123 ((1 ≤ k) × (k ≤ length a.operations)) ∷ check 124 (¬ Held k a) ∷ []

    last_checked : archive_refusal s ≡ 0 → RefusalOf last_checks (suppress_refusal k a)
    unfolding suppress_refusal
    last_checked accepted =
        let n = length a.operations in
        refusal_or_else (check 123 _ ∷ []) (check 124 _ ∷ []) (unless (leb 1 k && leb k n) 123) _
        (refusal_unless (leb 1 k && leb k n) 123 (λ e. omega arith) (
          λ e. let h = both (leb 1 k) (leb k n) e in (leb-true 1 k h.0, leb-true k n h.1),
          λ h. rw (le-leb 1 k h.0, le-leb k n h.1) refl,
        ))
        (λ within. refusal_unless (not (held k a)) 124 (λ e. omega arith) (not_decides (held_decides (said_stored s b accepted).1.operations_allowed k)))

    number_checked : RefusalOf (suppress_checks s k out) number
    unfolding number room_refusal
    number_checked =
        refusal_or_else (check 101 _ ∷ []) (archive_checks s ++ last_checks) (room_refusal (length out) (length s + growth)) _
        (refusal_unless (leb (length s + growth) (length out)) 101 (λ e. omega arith) (leb-true (length s + growth) (length out), le-leb (length s + growth) (length out)))
        (λ roomy. refusal_or_else (archive_checks s) last_checks (archive_refusal s) _ (archive_checked s) (λ held. last_checked (refusal_held (archive_checked s) held)))

    pub suppress_checked : WrittenEffectOf (suppress_checks s k out) (archive_bytes (suppressed k (archive_said s))) out (suppress_call s k out)
    suppress_checked = checked_effect number_checked by_number

    -- ---- the call wrote or refused

    fits : number ≡ 0 → (length new ≤ length out) × (length s + growth ≤ length out)
    unfolding number suppressed
    fits e =
        let accepted = then_zero _ _ (then_zero _ _ e).1 in
        let stored = said_stored s b accepted.0 in
        let within = (held_refusal (last_checked accepted.0) accepted.1).0 in
        let grows = (suppressed_lengths (archive_said s) stored.1 k within.0 within.1).0 in
        let long : length s ≡ length (archive_bytes (archive_said s)) = ap length stored.0 in
        let roomy = (held_refusal number_checked e).0 in
        (omega (arith, grows, long, roomy), roomy)

    pub suppress_wrote_or_refused : WroteOrRefused s suppress_numbers out (suppress_call s k out)
    unfolding effect_by listed
    suppress_wrote_or_refused = by number (number_answers suppress_numbers refl refl refl (λ accepted h. refl)) fits by_number
      where
        by : (n : ℕ) → ZeroOrOneOf suppress_numbers n → (n ≡ 0 → (length new ≤ length out) × (length s + growth ≤ length out)) → suppress_call s k out ≡ effect_by n new out
            → WroteOrRefused s suppress_numbers out (suppress_call s k out)
        by zero h f e = wrote new (f refl).0 (f refl).1 e
        by (suc n) (inl h) f e = absurd (omega arith)
        by (suc n) (inr h) f e = kept (suc n) h e

    pub suppress_decides : RefusalDecides s suppress_numbers out (suppress_call s k out)
    unfolding write_archive refuse_archive listed
    suppress_decides = by suppress_wrote_or_refused
      where
        by : {e : WrittenEffect} → WroteOrRefused s suppress_numbers out e → RefusalDecides s suppress_numbers out e
        by (wrote bytes short roomy is) = record { wrote = λ z. (bytes, short, roomy, is); kept = λ z. absurd (z (ap (λ (e : WrittenEffect). e.written.refusal) is)) }
        by (kept n one is) =
            let number : _ = ap (λ (e : WrittenEffect). e.written.refusal) is in
            record {
              wrote = λ z. absurd (true≢false (sym one ∙ ap (λ (i : ℕ). listed i suppress_numbers) (sym number ∙ z)));
              kept = λ z. (subst (OneOf suppress_numbers) (sym number) one, ap (λ (e : WrittenEffect). e.written.length) is, ap (λ (e : WrittenEffect). e.output) is);
            }

-- ---- outputs of the same length

module _ (s : List ℕ) (k : ℕ) (out other : List ℕ) (same : length out ≡ length other) where
  -- the answer with the bytes written
  response : WrittenEffect → Written × List ℕ
  response e = (e.written, take e.written.length e.output)

  same_response : response (suppress_call s k out) ≡ response (suppress_call s k other)
  unfolding suppress_call put_archive write_archive refuse_archive response
  same_response = go (suppress_archive (length out) s k) ∙ ap (λ (n : ℕ). response (put_archive (suppress_archive n s k) other)) same
    where
      go : (x : Reading Archive) → response (put_archive x out) ≡ response (put_archive x other)
      go (found a end) =
          let bytes = archive_bytes a in
          ap (λ (xs : List ℕ). (length_written (length bytes), xs)) (take-append_seam bytes (drop (length bytes) out) ∙ sym (take-append_seam bytes (drop (length bytes) other)))
      go (refused n) = refl

  pub same_answer : (suppress_call s k out).written ≡ (suppress_call s k other).written
  unfolding response
  same_answer = ap (λ (p : Written × List ℕ). p.0) same_response

  pub same_bytes : take (suppress_call s k out).written.length (suppress_call s k out).output ≡ take (suppress_call s k other).written.length (suppress_call s k other).output
  unfolding response
  same_bytes = ap (λ (p : Written × List ℕ). p.1) same_response
