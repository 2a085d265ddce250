-- Whether an operation is held.
-- `not_decides`: the negation of a test decides the negation of what the test decides.
-- `held_decides`: of an archive with accepted operations, `held` is true exactly where the operation is held.
use Prim.Native.Nat.{ℕ, zero, suc, ◌-◌, ◌<◌}
use mathlib.Core.Path.{◌≡◌, refl, sym, ap}
use mathlib.Core.Bool.{Bool, true, false, true≢false, not, ◌||◌}
use mathlib.Core.List.{List, [], ◌∷◌}
use mathlib.Core.Logic.{◌↔◌}
use native.Mathlib.Omega.{arith}
use lib.Dec.{eqb}
use lib.ListN.{length, get_or}
use borrow.Author.Tests.{eq-eqb, eqb-true}
use Rattle.lists.specs.Lists.{All, none, more}
use Rattle.jacobian.specs.{Answer.Accepts, Answer.neutral_class, declared.Curve.Curve, declared.Class.Class}
use Rattle.jacobian.proofs.{ByValue.Checks.both, Calls.only_neutral}
use Rattle.stored_form.specs.Pairs.{later, earlier}
use Rattle.archive.specs.Archive.{Archive, neutral}
use Rattle.suppression_theory.specs.{Suppression.operation_of, Archives.Held, Archives.holds, Archives.held_by, Archives.held}

-- the class at a place is neutral exactly where its degree is 0; past the end it is the neutral one
neutral_decides : {c : Curve} {ops : List Class} → All (Accepts c) ops → (i : ℕ) → (neutral (get_or ops i neutral_class) ≡ true) ↔ (get_or ops i neutral_class ≡ neutral_class)
unfolding neutral neutral_class
neutral_decides none i = (λ h. refl, λ h. refl)
neutral_decides {c} (more {a = a} h r) zero = (λ e. only_neutral c h (eqb-true a.degree 0 e), λ e. eq-eqb a.degree 0 (ap (λ (x : Class). x.degree) e))
neutral_decides (more h r) (suc i) = neutral_decides r i

pub not_decides : {b : Bool} {P : Type 0} → ((b ≡ true) ↔ P) → (not b ≡ true) ↔ (¬ P)
not_decides {b = true} i = (λ e. absurd (true≢false (sym e)), λ n. absurd (n (i.0 refl)))
not_decides {b = false} i = (λ e p. true≢false (sym (i.1 p)), λ n. refl)

module _ {c : Curve} {ops : List Class} (accepted : All (Accepts c) ops) (k : ℕ) where
  -- a pair holds operation k
  abbrev Holds : ℕ → Type 0
  Holds p = (earlier p ≡ k) × ¬ (operation_of (later p) ops ≡ neutral_class)

  holds_decides : (p : ℕ) → (holds k ops p ≡ true) ↔ Holds p
  unfolding holds operation_of
  holds_decides p =
      let other = not_decides (neutral_decides accepted (length ops - later p)) in
      (λ e. let h = both (eqb (earlier p) k) _ e in (eqb-true (earlier p) k h.0, other.0 h.1), λ h. rw (eq-eqb (earlier p) k h.0, other.1 h.1) refl)

  by_decides : (ps : List ℕ) → (held_by k ops ps ≡ true) ↔ ((i : ℕ) × (i < length ps) × Holds (get_or ps i 0))
  unfolding held_by
  by_decides [] = (λ e. absurd (true≢false (sym e)), λ h. absurd (omega (arith, h.1)))
  by_decides (p ∷ ps) = go (holds k ops p) (holds_decides p) (by_decides ps)
    where
      go : (b : Bool) → ((b ≡ true) ↔ Holds p) → ((held_by k ops ps ≡ true) ↔ ((i : ℕ) × (i < length ps) × Holds (get_or ps i 0))) → ((b || held_by k ops ps) ≡ true) ↔ ((i : ℕ) × (i < suc (length ps)) × Holds (get_or (p ∷ ps) i 0))
      go true d rest = (λ e. (0, omega arith, d.0 refl), λ h. refl)
      go false d rest = (λ e. let r = rest.0 e in (suc r.0, omega (arith, r.1), r.2), after)
        where
          after : ((i : ℕ) × (i < suc (length ps)) × Holds (get_or (p ∷ ps) i 0)) → held_by k ops ps ≡ true
          after (zero, h, held) = absurd (true≢false (sym (d.1 held)))
          after (suc i, h, held) = rest.1 (i, omega arith, held)

pub held_decides : {a : Archive} → All (Accepts a.curve) a.operations → (k : ℕ) → (held k a ≡ true) ↔ Held k a
unfolding held
held_decides {a} accepted k =
    let d = by_decides accepted k a.pairs in
    (λ e. let h = d.0 e in record { place = h.0; inside = h.1; pairs_it = h.2.0; not_neutral = h.2.1 }, λ h. d.1 (h.place, h.inside, (h.pairs_it, h.not_neutral)))
