-- What the call that suppresses an operation leaves: of every input and output, where the call is accepted.
-- `suppress_effect`: what was written is the stored form of the suppressed archive, and all after it stays.
-- `suppress_reads`: it is bytes that are accepted and read as that archive.
-- `suppress_kept`: degree and curve, drawing number, count and pairs are unchanged.
-- `suppress_forward`: a fresh walk forward from the earliest seal over the new operations ends in the new seal.
-- `suppress_earliest`: the walk back reaches the same earliest seal.
-- `suppress_older`, `suppress_newer`: the seals of the walk with more than n - k operations undone are the same; with
-- i, at most n - k, they are the old one minus n - k - i doublings of the operation's class.
-- `suppress_letter`: the report's letter of the operation is M.
-- `suppress_lengths`: it is at most 32 bytes longer than the input, and at most 96 shorter.
-- `suppress_again`: with room, suppressing the same operation again is accepted and writes the same bytes.
-- `suppress_either_order`: two operations suppressed in either order give the same bytes.
use Prim.Native.Nat.{ℕ, zero, suc, ◌+◌, ◌-◌, ◌≤◌, ◌<◌}
use mathlib.Core.Path.{◌≡◌, refl, sym, ap, ◌∙◌, subst}
use mathlib.Core.Bool.{Bool, true, false}
use mathlib.Core.List.{List, reverse}
use native.Mathlib.Omega.{arith}
use lib.Dec.{leb}
use lib.ListN.{length, drop}
use lib.Seq.{take-append_seam}
use borrow.Author.Tests.{leb-true, leb-false}
use Rattle.jacobian.specs.{Answer.neutral_class, Group.difference, Group.doublings, declared.Class.Class}
use Rattle.history.specs.Calls.{walk_back, walk_forward}
use Rattle.stored_form.specs.{Number.Bytes, Reading.found, Reading.reading_refusal}
use Rattle.archive.specs.Archive.{Archive, neutral, archive_said, read_archive, archive_refusal}
use Rattle.archive_theorems.specs.Written.{archive_bytes, Storable}
use Rattle.archive_theorems.proofs.{ArchiveRoundTrips.archive_read_back, ArchiveBytes.archive_is_bytes}
use Rattle.walk_report.specs.Walk.{seals, mark, letter}
use Rattle.suppression_theory.specs.{Suppression.operation_of, Archives.held, Archives.suppressed}
use Rattle.suppression_theory.proofs.{Suppression.suppressed_count, Suppression.suppressed_forward, Suppression.suppressed_earliest, Suppression.suppressed_neutral, Walks.older_seals, Walks.newer_seals}
use Rattle.suppression_theory.proofs.{Lengths.suppressed_lengths, Archives.suppressed_storable, Archives.suppressed_again, Archives.either_order, Archives.held_again}
use Rattle.seal_archive.specs.Suppress.{WrittenEffect, refuse_archive, write_archive, growth, suppress_call}
use Rattle.seal_archive.proofs.{Accepted.said_is, Accepted.said_stored, Answers.short, Answers.unread, Answers.below_first, Answers.above_last, Answers.is_held, Answers.accepted_writes}
use Rattle.suppression_theorems.specs.Suppressed.{wrote, Suppresses, walk_seal}

-- what an accepted call requires
pub record Required (s : List ℕ) (k : ℕ) (out : List ℕ) : Type 0 where
  pub roomy : length s + growth ≤ length out
  pub accepts : archive_refusal s ≡ 0
  pub low : 1 ≤ k
  pub high : k ≤ length (archive_said s).operations
  pub unheld : held k (archive_said s) ≡ false

module _ (s : List ℕ) (k : ℕ) (out : List ℕ) (b : Bytes s) (accepted : (suppress_call s k out).written.refusal ≡ 0) where
  -- a refusal's number is not 0
  never : (n : ℕ) → refuse_archive (suc n) out ≡ suppress_call s k out → ⊥
  unfolding refuse_archive
  never n e = let z = ap (λ (x : WrittenEffect). x.written.refusal) e ∙ accepted in omega arith

  pub required : Required s k out
  required = by_room (leb (length s + growth) (length out)) refl
    where
      by_held : (roomy : length s + growth ≤ length out) (accepts : archive_refusal s ≡ 0) (low : 1 ≤ k) (high : k ≤ length (archive_said s).operations) (x : Bool) → held k (archive_said s) ≡ x → Required s k out
      by_held roomy accepts low high true e = absurd (never 123 (is_held s k out roomy b accepts low high e))
      by_held roomy accepts low high false e = record { roomy = roomy; accepts = accepts; low = low; high = high; unheld = e }

      by_high : (roomy : length s + growth ≤ length out) (accepts : archive_refusal s ≡ 0) (low : 1 ≤ k) (x : Bool) → leb k (length (archive_said s).operations) ≡ x → Required s k out
      by_high roomy accepts low true e = by_held roomy accepts low (leb-true _ _ e) (held k (archive_said s)) refl
      by_high roomy accepts low false e = absurd (never 122 (above_last s k out roomy b accepts low (leb-false _ _ e)))

      by_low : (roomy : length s + growth ≤ length out) (accepts : archive_refusal s ≡ 0) (x : Bool) → leb 1 k ≡ x → Required s k out
      by_low roomy accepts true e = by_high roomy accepts (leb-true _ _ e) (leb k (length (archive_said s).operations)) refl
      by_low roomy accepts false e = absurd (never 122 (below_first s k out roomy b accepts (leb-false _ _ e)))

      by_archive : (roomy : length s + growth ≤ length out) (n : ℕ) → archive_refusal s ≡ n → Required s k out
      by_archive roomy zero e = by_low roomy e (leb 1 k) refl
      by_archive roomy (suc n) e = absurd (never n (unread s k out roomy {n = suc n} (sym e) (λ z. omega arith)))

      by_room : (x : Bool) → leb (length s + growth) (length out) ≡ x → Required s k out
      by_room true e = by_archive (leb-true _ _ e) (archive_refusal s) refl
      by_room false e = absurd (never 100 (short s k out (leb-false _ _ e)))

  pub suppress_effect : suppress_call s k out ≡ write_archive (archive_bytes (suppressed k (archive_said s))) out
  suppress_effect = let r = required in sym (accepted_writes s k out r.roomy b r.accepts r.low r.high r.unheld)

-- ---- what was written

wrote_written : (bytes out : List ℕ) → wrote (write_archive bytes out) ≡ bytes
unfolding wrote write_archive
wrote_written bytes out = take-append_seam bytes (drop (length bytes) out)

module _ {s : List ℕ} {k : ℕ} {out t : List ℕ} (b : Bytes s) (does : Suppresses s k out t) where
  need : Required s k out
  need = required s k out b does.accepted

  ok : Storable (archive_said s)
  ok = (said_stored s b need.accepts).1

  pub suppress_form : t ≡ archive_bytes (suppressed k (archive_said s))
  suppress_form = sym does.written ∙ ap wrote (suppress_effect s k out b does.accepted) ∙ wrote_written (archive_bytes (suppressed k (archive_said s))) out

  new_ok : Storable (suppressed k (archive_said s))
  new_ok = suppressed_storable (archive_said s) ok k need.low need.high

  pub suppress_reads : Bytes t × (read_archive t ≡ found (suppressed k (archive_said s)) (length t))
  suppress_reads = (
    subst Bytes (sym suppress_form) (archive_is_bytes (suppressed k (archive_said s)) new_ok.drawing_printable),
    subst (λ (x : List ℕ). read_archive x ≡ found (suppressed k (archive_said s)) (length x)) (sym suppress_form) (archive_read_back (suppressed k (archive_said s)) new_ok),
  )

  -- the archive that was written
  pub suppress_said : archive_said t ≡ suppressed k (archive_said s)
  suppress_said = said_is t suppress_reads.1

  pub suppress_kept : ((archive_said t).curve ≡ (archive_said s).curve) × ((archive_said t).drawing ≡ (archive_said s).drawing) × (length (archive_said t).operations ≡ length (archive_said s).operations) × ((archive_said t).pairs ≡ (archive_said s).pairs)
  unfolding suppressed
  suppress_kept = (
    ap (λ (x : Archive). x.curve) suppress_said,
    ap (λ (x : Archive). x.drawing) suppress_said,
    ap (λ (x : Archive). length x.operations) suppress_said ∙ suppressed_count k (archive_said s).operations,
    ap (λ (x : Archive). x.pairs) suppress_said,
  )

  -- ---- walks

  pub suppress_forward : walk_forward (archive_said s).curve (walk_back (archive_said s).curve (archive_said s).seal (archive_said s).operations) (reverse (archive_said t).operations) ≡ (archive_said t).seal
  unfolding suppressed
  suppress_forward =
      ap (λ (x : Archive). walk_forward (archive_said s).curve (walk_back (archive_said s).curve (archive_said s).seal (archive_said s).operations) (reverse x.operations)) suppress_said
      ∙ suppressed_forward ok.seal_allowed ok.operations_allowed k need.low need.high
      ∙ ap (λ (x : Archive). x.seal) (sym suppress_said)

  pub suppress_earliest : walk_back (archive_said t).curve (archive_said t).seal (archive_said t).operations ≡ walk_back (archive_said s).curve (archive_said s).seal (archive_said s).operations
  unfolding suppressed
  suppress_earliest =
      ap (λ (x : Archive). walk_back x.curve x.seal x.operations) suppress_said
      ∙ suppressed_earliest ok.seal_allowed ok.operations_allowed k need.low need.high

  pub suppress_older : (i : ℕ) → length (archive_said s).operations - k < i → walk_seal (archive_said t) i ≡ walk_seal (archive_said s) i
  unfolding walk_seal seals suppressed
  suppress_older i h = ap (λ (x : Archive). walk_seal x i) suppress_said ∙ older_seals ok.seal_allowed ok.operations_allowed k need.low need.high i neutral_class h

  pub suppress_newer : (i : ℕ) → i ≤ length (archive_said s).operations - k →
      walk_seal (archive_said t) i ≡ difference (archive_said s).curve (walk_seal (archive_said s) i) (doublings (archive_said s).curve (length (archive_said s).operations - k - i) (operation_of k (archive_said s).operations))
  unfolding walk_seal seals suppressed
  suppress_newer i h = ap (λ (x : Archive). walk_seal x i) suppress_said ∙ newer_seals ok.seal_allowed ok.operations_allowed k need.low need.high i neutral_class h

  pub suppress_letter : (older : List Class) → letter (archive_said t).curve (operation_of k (archive_said t).operations) older ≡ 0x4D
  unfolding letter mark neutral neutral_class suppressed
  suppress_letter older =
      ap (λ (x : Class). letter (archive_said t).curve x older)
      (ap (λ (x : Archive). operation_of k x.operations) suppress_said ∙ suppressed_neutral k (archive_said s).operations need.low need.high)

  pub suppress_lengths : (length t ≤ length s + 32) × (length s ≤ length t + 96)
  suppress_lengths =
      let new : length t ≡ length (archive_bytes (suppressed k (archive_said s))) = ap length suppress_form in
      let old : length s ≡ length (archive_bytes (archive_said s)) = ap length (said_stored s b need.accepts).0 in
      let l = suppressed_lengths (archive_said s) ok k need.low need.high in
      (omega (arith, new, old, l.0), omega (arith, new, old, l.1))

  -- ---- again

  pub suppress_again : (out' : List ℕ) → length t + growth ≤ length out' → suppress_call t k out' ≡ write_archive t out'
  unfolding archive_refusal
  suppress_again out' roomy =
      let is = suppress_said in
      let accepts : archive_refusal t ≡ 0 = ap reading_refusal suppress_reads.1 in
      let high : k ≤ length (archive_said t).operations = omega (arith, need.high, suppress_kept.2) in
      let unheld = ap (held k) is ∙ held_again (archive_said s) ok k need.low need.high ∙ need.unheld in
      let same = ap (λ (x : Archive). archive_bytes (suppressed k x)) is ∙ ap archive_bytes (suppressed_again (archive_said s) ok k need.low need.high) ∙ sym suppress_form in
      sym (accepted_writes t k out' roomy suppress_reads.0 accepts need.low high unheld) ∙ ap (λ (x : List ℕ). write_archive x out') same

-- ---- two operations

module _ {s : List ℕ} {j k : ℕ} {out₁ out₂ out₃ out₄ t₁ t₂ u₁ u₂ : List ℕ} (b : Bytes s)
    (first : Suppresses s k out₁ t₁) (then_other : Suppresses t₁ j out₂ u₁) (other : Suppresses s j out₃ t₂) (then_first : Suppresses t₂ k out₄ u₂) where
  pub suppress_either_order : u₁ ≡ u₂
  suppress_either_order =
      let n₁ = need b first in
      let n₂ = need b other in
      suppress_form (suppress_reads b first).0 then_other
      ∙ ap (λ (x : Archive). archive_bytes (suppressed j x)) (suppress_said b first)
      ∙ ap archive_bytes (either_order (archive_said s) (ok b first) k n₁.low n₁.high j n₂.low n₂.high)
      ∙ sym (suppress_form (suppress_reads b other).0 then_first ∙ ap (λ (x : Archive). archive_bytes (suppressed k x)) (suppress_said b other))
