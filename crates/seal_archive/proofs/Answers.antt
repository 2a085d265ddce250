-- What the call does, check by check.
-- `short`, `unread`, `archive_refused`: the output is too short; the archive is refused.
-- `below_first`, `above_last`, `is_held`, `accepted_writes`: of an accepted archive with room, k is no operation's
-- number; operation k is held; else the suppressed archive is written. `suppresses`: as the code writes it.
-- `header_accepted`, `accepted_as`: the header of an archive that no check refuses is read, and the archive is accepted.
use Prim.Native.Nat.{ℕ, ◌+◌, ◌≤◌, ◌<◌}
use mathlib.Core.Path.{◌≡◌, refl, sym, ap, ◌∙◌}
use mathlib.Core.Bool.{true, false}
use mathlib.Core.List.{List}
use native.Mathlib.Omega.{arith}
use lib.ListN.{length}
use borrow.Author.Tests.{lt-leb, le-leb}
use Rattle.std.specs.Prelude.{Result, Ok, Err}
use Rattle.std.specs.Result.{IsOk}
use Rattle.refusals.specs.{Refusals.number, declared.Refusal.Refusal}
use Rattle.jacobian.specs.Checks.{unless, ◌or_else◌}
use Rattle.stored_form.specs.{Number.Bytes, Reading.Reading, Reading.found, Reading.refused, Reading.checked, Reading.reading_refusal, Cuts.fields_end, Reader.header_layout}
use Rattle.binary_field.proofs.Refusing.{number_positive}
use Rattle.stored_form.proofs.Readings.{then_found, then_refused, checked_none, checked_some, same_found}
use Rattle.stored_form_theorems.specs.Checking.{record_values}
use Rattle.written_form.specs.Effect.{Effect, effect, write, room_refusal}
use Rattle.archive.specs.{Archive.Archive, Archive.read_archive, Archive.archive_said, Archive.archive_refusal, Reader.read_header, Reader.reader, Reader.operations_expected, Reader.advance_reading, declared.Reader.Reader, declared.Advance.Advance}
use Rattle.archive_theorems.specs.Written.{archive_bytes}
use Rattle.suppression_theory.specs.Archives.{held, suppressed}
use Rattle.seal_archive.specs.Suppress.{written_effect, length_written, refuse_archive, write_archive, put_archive, growth, suppress_refusal, suppress_archive, suppress_call}
use Rattle.seal_archive.specs.internal.Accepted.{IsAccepted}
use Rattle.seal_archive.proofs.Accepted.{said_read, header_found}

refused_read : {A : Type 0} (x : Reading A) → ¬ (reading_refusal x ≡ 0) → x ≡ refused (reading_refusal x)
refused_read (found a next) z = absurd (z refl)
refused_read (refused n) z = refl

module _ (s : List ℕ) (k : ℕ) (out : List ℕ) where
  pub short : length out < length s + growth → refuse_archive 101 out ≡ suppress_call s k out
  unfolding suppress_call suppress_archive room_refusal unless put_archive
  short h = sym (ap (λ (x : Reading Archive). put_archive x out) (then_refused _ (rw (lt-leb (length s + growth) (length out) h) (checked_some 101 _ (λ e. omega arith)))))

  module _ (roomy : length s + growth ≤ length out) where
    -- the archive is read
    read_first : checked (room_refusal (length out) (length s + growth)) (read_archive s) ≡ read_archive s
    unfolding room_refusal unless
    read_first = rw (le-leb (length s + growth) (length out) roomy) (checked_none 0 _ refl)

    pub unread : {n : ℕ} → n ≡ archive_refusal s → ¬ (n ≡ 0) → refuse_archive n out ≡ suppress_call s k out
    unfolding suppress_call suppress_archive put_archive archive_refusal
    unread {n} e z =
        sym (ap (λ (x : Reading Archive). put_archive x out) (then_refused _ (read_first ∙ refused_read (read_archive s) (λ f. z (e ∙ f)) ∙ ap refused (sym e))))

    -- as the code answers it
    pub archive_refused : (r : Refusal) → number r ≡ archive_refusal s → refuse_archive (number r) out ≡ suppress_call s k out
    archive_refused r e = unread e (number_positive r)

    module _ (b : Bytes s) (accepted : archive_refusal s ≡ 0) where
      abbrev a : Archive
      a = archive_said s

      read : (end : ℕ) × (read_archive s ≡ found a end)
      read = said_read s b accepted

      by_number : {n : ℕ} → suppress_refusal k a ≡ n → suppress_call s k out ≡ put_archive (checked n (found (suppressed k a) read.0)) out
      unfolding suppress_call suppress_archive
      by_number e =
          ap (λ (x : Reading Archive). put_archive x out)
          (then_found _ (read_first ∙ read.1) ∙ ap (λ (n : ℕ). checked n (found (suppressed k a) read.0)) e)

      pub below_first : k < 1 → refuse_archive 123 out ≡ suppress_call s k out
      unfolding suppress_refusal unless ◌or_else◌ put_archive
      below_first h = sym (by_number (rw (lt-leb 1 k h) refl) ∙ ap (λ (x : Reading Archive). put_archive x out) (checked_some 123 _ (λ e. omega arith)))

      module _ (low : 1 ≤ k) where
        pub above_last : length a.operations < k → refuse_archive 123 out ≡ suppress_call s k out
        unfolding suppress_refusal unless ◌or_else◌ put_archive
        above_last h = sym (by_number (rw (le-leb 1 k low, lt-leb k (length a.operations) h) refl) ∙ ap (λ (x : Reading Archive). put_archive x out) (checked_some 123 _ (λ e. omega arith)))

        module _ (high : k ≤ length a.operations) where
          pub is_held : held k a ≡ true → refuse_archive 124 out ≡ suppress_call s k out
          unfolding suppress_refusal unless ◌or_else◌ put_archive
          is_held e =
              sym (by_number (rw (le-leb 1 k low, le-leb k (length a.operations) high, e) refl) ∙ ap (λ (x : Reading Archive). put_archive x out) (checked_some 124 _ (λ z. omega arith)))

          pub accepted_writes : held k a ≡ false → write_archive (archive_bytes (suppressed k a)) out ≡ suppress_call s k out
          unfolding suppress_refusal unless ◌or_else◌ put_archive
          accepted_writes e =
              sym (by_number (rw (le-leb 1 k low, le-leb k (length a.operations) high, e) refl) ∙ ap (λ (x : Reading Archive). put_archive x out) (checked_none 0 _ refl))

          pub suppresses : held k a ≡ false → {n : ℕ} {after : List ℕ} → effect n after ≡ write (archive_bytes (suppressed k a)) out → written_effect (length_written n) after ≡ suppress_call s k out
          unfolding write_archive write
          suppresses h e = ap (λ (x : Effect). written_effect (length_written x.answer) x.output) e ∙ accepted_writes h

-- ---- what the code knows

module _ (s : List ℕ) (b : Bytes s) (passes : archive_refusal s ≡ 0) where
  read_is : read_header s ≡ found (reader (operations_expected (record_values header_layout s).count) (record_values header_layout s)) (fields_end (length header_layout) s 0)
  unfolding read_header
  read_is = then_found _ (header_found s b passes)

  pub header_accepted : (x : Result Advance Refusal) → advance_reading x ≡ read_header s → IsOk x
  header_accepted (Ok t) e = refl
  header_accepted (Err r) e = let f : refused (number r) ≡ _ = e ∙ read_is in cc

  pub accepted_as : {x : Result Advance Refusal} {t : Advance} → advance_reading x ≡ read_header s → x ≡ Ok t → IsAccepted s t.reader.values t.next.at
  accepted_as e is =
      let same = same_found (ap advance_reading (sym is) ∙ e ∙ read_is) in
      record { in_range = b; passes = passes; header = ap (λ (r : Reader). r.values) same.0; begins = same.1 }
