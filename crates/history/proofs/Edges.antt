-- The refusals 109, 113, 114, 120 and 121 by the counts (docs/SPECIFICATION.md, 6); the limit is written as a number
-- here.
-- Where curve, seal and class are accepted and the released step is up to the count:
-- `commit_below_limit`: a commit is accepted at a count up to 1,023.
-- `commit_to_limit`: a commit at 1,023 gives 1,024.
-- `commit_at_limit`: a commit at 1,024 is refused with 114.
-- `undo_above_released`: an undo is accepted at a count up to 1,024 above the released step.
-- `undo_at_released`: an undo at the released step is refused with 121, if the count is not 0.
-- `undo_at_zero`: an undo at 0 is refused with 113.
-- Where curve and seal are accepted and the released step is up to the count:
-- `release_within_limit`: a release is accepted at a count up to 1,024, and sets the released step to it.
-- Where the curve is accepted, whatever the seal and the class:
-- `above_limit_refused`: at 1,025 or more every call is refused with 109.
-- `released_above_count`: at a count up to 1,024 with a released step above it every call is refused with 120.
use Prim.Native.Nat.{ℕ, ◌+◌, ◌≤◌, ◌<◌}
use mathlib.Core.Path.{◌≡◌, sym, ◌∙◌, ap, ap₂}
use native.Mathlib.Omega.{arith}
use borrow.Author.Tests.{eq-eqb, ne_eqb}
use Rattle.jacobian.specs.{Checks.◌or_else◌, Curves.curve_refusal, Classes.class_refusal, Answer.accepted, Answer.refused, Answer.refusal, Answer.refusal_of_two}
use Rattle.jacobian.specs.declared.Class.{Class}
use Rattle.jacobian.proofs.ByValue.Checks.{then_zero}
use Rattle.count_limit.specs.Limit.{count_limit, count_refusal, released_refusal}
use Rattle.count_limit.proofs.Limit.{within_limit, above_limit, released_within, released_above}
use Rattle.history.specs.Register.{register_refusal, edge_refusal, commit_seal, with_count_and_seal, with_released, stepped, follows, step_answer, commit_answer, undo_answer, release_answer}
use Rattle.history.specs.Calls.{Call, answer}
use Rattle.history.specs.declared.{Register.Register, Step.Step, Step.TheVariants.Commit, Step.TheVariants.Undo}
use Rattle.history.proofs.{Registers.follows_zero, Registers.off_edge, Registers.OffEdge, Registers.passes_register, Numbers.step_within, Failing.failing_answer}

module _ (r : Register) (a : Class) (none : refusal_of_two r.curve r.seal a ≡ 0) where
  -- ---- a released step up to the count, which is up to the limit
  module _ (few : r.count ≤ count_limit) (behind : r.released ≤ r.count) where
    counts : count_refusal r.count or_else released_refusal r.count r.released ≡ 0
    unfolding ◌or_else◌
    counts = rw (within_limit r.count few) (released_within r.count r.released behind)

    off : (k : Step) → OffEdge k r.count r.released → step_answer k r a ≡ record { outcome = accepted; register = stepped k r a }
    unfolding step_answer ◌or_else◌
    off k h = follows_zero _ r (stepped k r a) (step_within k r a counts ∙ ap₂ ◌or_else◌ none (off_edge k r.count r.released h))

    at : (k : Step) {n : ℕ} → edge_refusal k r.count r.released ≡ n → step_answer k r a ≡ follows n r (stepped k r a)
    unfolding step_answer ◌or_else◌
    at k e = ap (λ m. follows m r (stepped k r a)) (step_within k r a counts ∙ ap₂ ◌or_else◌ none e)

    -- ---- an undo
    pub undo_above_released : r.released < r.count → undo_answer r a ≡ record { outcome = accepted; register = stepped Undo r a }
    unfolding OffEdge
    undo_above_released l = off Undo (λ e. omega arith, λ e. omega arith)

    pub undo_at_released : ¬ (r.count ≡ 0) → r.count ≡ r.released → undo_answer r a ≡ record { outcome = refused 121; register = r }
    unfolding edge_refusal follows
    undo_at_released h e = at Undo {n = 121} (rw (ne_eqb r.count 0 h, eq-eqb r.count r.released e))

    pub undo_at_zero : r.count ≡ 0 → undo_answer r a ≡ record { outcome = refused 113; register = r }
    unfolding edge_refusal follows
    undo_at_zero e = at Undo {n = 113} (rw (eq-eqb r.count 0 e))

    -- ---- a commit
    commit_off : ¬ (r.count ≡ count_limit) → commit_answer r a ≡ record { outcome = accepted; register = stepped Commit r a }
    unfolding OffEdge
    commit_off h = off Commit h

    commit_at : r.count ≡ count_limit → commit_answer r a ≡ record { outcome = refused 114; register = r }
    unfolding edge_refusal follows
    commit_at e = at Commit {n = 114} (rw (eq-eqb r.count count_limit e))

  module _ (behind : r.released ≤ r.count) where
    pub commit_below_limit : r.count ≤ 1023 → commit_answer r a ≡ record { outcome = accepted; register = stepped Commit r a }
    unfolding count_limit
    commit_below_limit h = commit_off (omega arith) behind (λ e. omega arith)

    pub commit_to_limit : r.count ≡ 1023 → commit_answer r a ≡ record { outcome = accepted; register = with_count_and_seal 1024 (commit_seal r.curve r.seal a) r }
    unfolding stepped
    commit_to_limit e =
        commit_below_limit (omega arith)
        ∙ ap (λ n. record { outcome = accepted; register = with_count_and_seal (n + 1) (commit_seal r.curve r.seal a) r }) e

    pub commit_at_limit : r.count ≡ 1024 → commit_answer r a ≡ record { outcome = refused 114; register = r }
    unfolding count_limit
    commit_at_limit e = commit_at (omega arith) behind e

-- ---- a release
module _ (r : Register) (none : refusal r.curve r.seal ≡ 0) where
  pub release_within_limit : r.count ≤ 1024 → r.released ≤ r.count → release_answer r ≡ record { outcome = accepted; register = with_released r.count r }
  unfolding release_answer refusal count_limit
  release_within_limit few behind =
      let p = then_zero (curve_refusal r.curve) (class_refusal r.curve r.seal) none in
      follows_zero _ r (with_released r.count r)
      (passes_register r (record { curve_passes = p.0; count_passes = omega arith; released_passes = behind; seal_passes = p.1 }))

-- ---- counts that are refused, whatever seal and class are
module _ (r : Register) (none : curve_refusal r.curve ≡ 0) (c : Call) where
  fails : (n : ℕ) → register_refusal r ≡ n → ¬ (n ≡ 0) → answer r c ≡ record { outcome = refused n; register = r }
  fails n e nz = failing_answer r (λ z. nz (sym e ∙ z)) c ∙ ap (λ m. record { outcome = refused m; register = r }) e

  pub above_limit_refused : 1025 ≤ r.count → answer r c ≡ record { outcome = refused 109; register = r }
  unfolding register_refusal ◌or_else◌ count_limit
  above_limit_refused h = fails 109 (rw (none, above_limit r.count (omega arith))) (λ z. omega arith)

  pub released_above_count : r.count ≤ 1024 → r.count < r.released → answer r c ≡ record { outcome = refused 120; register = r }
  unfolding register_refusal ◌or_else◌ count_limit
  released_above_count h l = fails 120 (rw (none, within_limit r.count (omega arith), released_above r.count r.released l)) (λ z. omega arith)
