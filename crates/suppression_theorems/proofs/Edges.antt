-- The call that suppresses an operation, at the edges (docs/SPECIFICATION.md, 6 and 9).
-- `one_short`: an output 47 bytes longer than the input is refused with 101, whatever the input and k.
-- `empty_to_none`, `empty_to_47`, `empty_to_48`: with no input, outputs of 0 and 47 bytes are 101, one of 48 is 102.
-- `refused_archive`: with room, an archive that is refused gives its number, whatever k.
-- `number_0`, `number_after_last`, `number_greatest`: with room and an accepted archive of n operations, 0, n + 1 and
-- 2^64 - 1 are 123. `no_operations`: with n = 0 every k is.
-- `newest_never_124`: suppressing operation n is never 124. `without_pairs`: nor is it in an archive without pairs.
-- `suppress_never`: the call never answers one of 113 to 121.
use Prim.Native.Nat.{ℕ, zero, suc, ◌+◌, ◌-◌, ◌^◌, ◌≤◌, ◌<◌}
use mathlib.Core.Path.{◌≡◌, refl, sym, ap, ◌∙◌}
use mathlib.Core.Bool.{Bool, true≢false, ◌||◌}
use mathlib.Core.List.{List, [], ◌∷◌, ◌++◌}
use mathlib.Core.Logic.{inl, inr}
use native.Mathlib.Omega.{arith}
use lib.Dec.{leb}
use lib.ListN.{length}
use borrow.Author.Tests.{lt-leb}
use Rattle.lists.proofs.Lists.{all_at}
use Rattle.jacobian.specs.Refusals.{listed}
use Rattle.stored_form.specs.{Number.Bytes, Fields.count_limit, Reading.◌then◌, Reader.read_fields, Reader.read_field, Reader.read_body, Reader.read_head_by}
use Rattle.stored_form_theorems.specs.Numbers.{ZeroOrOneOf}
use Rattle.written_form.proofs.Checking.{every_one}
use Rattle.archive.specs.Archive.{read_archive, archive_said, archive_refusal}
use Rattle.archive_theorems.specs.Checking.{archive_numbers}
use Rattle.suppression_theory.specs.Archives.{Held}
use Rattle.suppression_theory.proofs.Holding.{held_decides}
use Rattle.seal_archive.specs.Suppress.{refuse_archive, growth, suppress_numbers, suppress_call}
use Rattle.seal_archive.proofs.{Accepted.said_stored, Answers.short, Answers.unread, Answers.below_first, Answers.above_last}
use Rattle.suppression_theorems.proofs.Checking.{refusal_answers}

-- ---- 101

pub one_short : (s : List ℕ) (k : ℕ) (out : List ℕ) → length out ≡ length s + 47 → suppress_call s k out ≡ refuse_archive 101 out
one_short s k out e = sym (short s k out (omega arith))

pub empty_to_none : (k : ℕ) → suppress_call [] k [] ≡ refuse_archive 101 []
empty_to_none k = sym (short [] k [] (omega arith))

pub empty_to_47 : (k : ℕ) (out : List ℕ) → length out ≡ 47 → suppress_call [] k out ≡ refuse_archive 101 out
empty_to_47 k out e = one_short [] k out e

-- ---- with room

module _ (s out : List ℕ) (roomy : length s + growth ≤ length out) where
  pub refused_archive : (n : ℕ) → archive_refusal s ≡ n → ¬ (n ≡ 0) → (k : ℕ) → suppress_call s k out ≡ refuse_archive n out
  refused_archive n e z k = sym (unread s k out roomy (sym e) z)

  module _ (b : Bytes s) (accepted : archive_refusal s ≡ 0) where
    pub number_0 : suppress_call s 0 out ≡ refuse_archive 123 out
    number_0 = sym (below_first s 0 out roomy b accepted (omega arith))

    -- a number above that of the newest operation
    above : (k : ℕ) → length (archive_said s).operations < k → suppress_call s k out ≡ refuse_archive 123 out
    above k h = sym (above_last s k out roomy b accepted (omega arith) h)

    pub number_after_last : suppress_call s (length (archive_said s).operations + 1) out ≡ refuse_archive 123 out
    number_after_last = above (length (archive_said s).operations + 1) (omega arith)

    pub number_greatest : suppress_call s (2 ^ 64 - 1) out ≡ refuse_archive 123 out
    unfolding count_limit
    number_greatest = let within = (said_stored s b accepted).1.count_within in above (2 ^ 64 - 1) (omega (arith, within))

    pub no_operations : length (archive_said s).operations ≡ 0 → (k : ℕ) → suppress_call s k out ≡ refuse_archive 123 out
    no_operations e zero = number_0
    no_operations e (suc k) = above (suc k) (omega (arith, e))

pub empty_to_48 : (k : ℕ) (out : List ℕ) → length out ≡ 48 → suppress_call [] k out ≡ refuse_archive 102 out
unfolding archive_refusal read_archive ◌then◌ read_fields read_field read_body read_head_by
empty_to_48 k out e = refused_archive [] out (omega (arith, e)) 102 refl (λ z. omega arith) k

-- ---- 124

module _ (s : List ℕ) (k : ℕ) (out : List ℕ) (b : Bytes s) where
  -- an operation that is not held
  not_held : (archive_refusal s ≡ 0 → ¬ Held k (archive_said s)) → ¬ ((suppress_call s k out).written.refusal ≡ 124)
  unfolding listed
  not_held none e = by (refusal_answers s k out others refl refl refl (λ accepted h. absurd (none accepted ((held_decides (said_stored s b accepted).1.operations_allowed k).0 h))))
    where
      -- the numbers without 124
      others : List ℕ
      others = 101 ∷ (archive_numbers ++ 123 ∷ [])

      by : ZeroOrOneOf others (suppress_call s k out).written.refusal → ⊥
      by (inl z) = omega (arith, e, z)
      by (inr one) = true≢false (sym one ∙ ap (λ (i : ℕ). listed i others) e)

pub newest_never_124 : (s out : List ℕ) → Bytes s → ¬ ((suppress_call s (length (archive_said s).operations) out).written.refusal ≡ 124)
newest_never_124 s out b =
    not_held s _ out b
    (λ accepted h.
    let pair = all_at h.place 0 h.inside (said_stored s b accepted).1.pairs_allowed.within in
    omega (arith, h.pairs_it, pair.earlier_below, pair.later_within))

pub without_pairs : (s : List ℕ) (k : ℕ) (out : List ℕ) → Bytes s → length (archive_said s).pairs ≡ 0 → ¬ ((suppress_call s k out).written.refusal ≡ 124)
without_pairs s k out b e = not_held s k out b (λ accepted h. omega (arith, h.inside, e))

-- ---- the numbers

pub suppress_never : (s : List ℕ) (k : ℕ) (out : List ℕ) (number : ℕ) → 113 ≤ number → number ≤ 121 → ¬ ((suppress_call s k out).written.refusal ≡ number)
unfolding listed
suppress_never s k out number low high e = by (refusal_answers s k out suppress_numbers refl refl refl (λ accepted h. refl))
  where
    test : ℕ → Bool
    test i = leb i 112 || leb 122 i

    by : ZeroOrOneOf suppress_numbers (suppress_call s k out).written.refusal → ⊥
    by (inl z) = omega (arith, e, z)
    by (inr one) =
        true≢false
        (sym (every_one test suppress_numbers (suppress_call s k out).written.refusal refl one) ∙ ap test e ∙ rw (lt-leb number 112 (omega arith), lt-leb 122 number (omega arith)) refl)
