-- Readings that make checks in order (docs/SPECIFICATION.md, 6).
-- `Reads`: a reading makes these checks in order, and finds a value where all hold.
-- `found_reads`, `refuse_reads`, `checked_reads`: a value without a check, and one after a check.
-- `then_reads`: the checks of a reading, then those of the one that follows it.
use Prim.Native.Nat.{ℕ, zero, suc}
use mathlib.Core.{Path.◌≡◌, Path.refl, Path.sym, Path.ap, Path.subst, Path.◌∙◌, Bool.Bool, Bool.true, Bool.false, Bool.true≢false, List.List, List.[], List.◌∷◌, List.◌++◌, Logic.◌↔◌}
use native.Mathlib.Omega.{arith}
use Rattle.jacobian.specs.Checks.{Check, check, AllHold, RefusalOf, unless, ◌or_else◌}
use Rattle.jacobian.proofs.Checking.{refusal_unless, refusal_or_else, refusal_held, held_refusal}
use Rattle.stored_form.specs.Reading.{Reading, found, refused, refuse, checked, ◌then◌, reading_refusal}
use Rattle.stored_form.proofs.Readings.{found_not_refused, same_found}

-- the reading makes these checks in order, and finds this value and the next offset where all hold
pub record Reads (cs : List Check) {A : Type 0} (a : A) (next : ℕ) (r : Reading A) : Type 0 where
  pub refusal : RefusalOf cs (reading_refusal r)
  pub value : reading_refusal r ≡ 0 → r ≡ found a next

module _ {A : Type 0} {a : A} {next : ℕ} where
  pub found_reads : {cs : List Check} → RefusalOf cs 0 → Reads cs a next (found a next)
  found_reads h = record { refusal = h; value = λ e. refl }

  -- a check that the code makes by a test of its contrary
  pub refuse_reads : {cs : List Check} (k : ℕ) (b : Bool) {P : Type 0} {r : Reading A} → ¬ (k ≡ 0) → ((b ≡ false) ↔ P) → (P → Reads cs a next r) → Reads (check k P ∷ cs) a next (refuse k b r)
  unfolding unless ◌or_else◌
  refuse_reads {cs} zero b {P} {r} z i h = absurd (z refl)
  refuse_reads {cs} (suc k) true {P} {r} z i h = record {
    refusal = refusal_or_else (check (suc k) P ∷ []) cs (suc k) 0 (refusal_unless false (suc k) z (λ e. i.0 (sym e), λ p. sym (i.1 p))) (λ p. absurd (true≢false (i.1 p.0)));
    value = λ e. absurd (z e);
  }
  refuse_reads {cs} (suc k) false {P} {r} z i h = record {
    refusal = refusal_or_else (check (suc k) P ∷ []) cs 0 (reading_refusal r) (refusal_unless true (suc k) z (λ e. i.0 refl, λ p. refl)) (λ p. (h p.0).refusal);
    value = λ e. (h (i.0 refl)).value e;
  }

  pub checked_reads : {cs : List Check} (n : ℕ) → RefusalOf cs n → Reads cs a next (checked n (found a next))
  unfolding checked
  checked_reads zero h = record { refusal = h; value = λ e. refl }
  checked_reads (suc n) h = record { refusal = h; value = λ e. absurd (omega arith) }

pub then_reads : {A B : Type 0} {cs ds : List Check} {a : A} {b : B} {next end : ℕ} (f : A → ℕ → Reading B) (x : Reading A) → Reads cs a next x → (AllHold cs → Reads ds b end (f a next)) →
    Reads (cs ++ ds) b end (x then f)
unfolding ◌then◌ ◌or_else◌
then_reads {A} {B} {cs} {ds} {a} {b} {next} {end} f (found y n) h k =
    let same = same_found (h.value refl) in
    let all = held_refusal h.refusal refl in
    subst (Reads (cs ++ ds) b end) (ap (λ (m : ℕ). f a m) (sym same.1) ∙ ap (λ (x : A). f x n) (sym same.0))
    (record { refusal = refusal_or_else cs ds 0 (reading_refusal (f a next)) h.refusal (λ p. (k p).refusal); value = (k all).value })
then_reads {cs = cs} {ds = ds} f (refused zero) h k = absurd (found_not_refused (h.value refl))
then_reads {cs = cs} {ds = ds} f (refused (suc n)) h k = record {
  refusal = refusal_or_else cs ds (suc n) 0 h.refusal (λ p. absurd (omega (arith, refusal_held h.refusal p)));
  value = λ e. absurd (omega arith);
}
