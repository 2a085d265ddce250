-- Archives with an operation suppressed, as values.
-- `suppressed_storable`: no check refuses the values of a suppressed archive.
-- `suppressed_again`: suppressing an operation twice changes nothing more.
-- `either_order`: suppressing two operations in either order gives the same archive.
-- `neutral_unchanged`: suppressing a neutral operation changes nothing.
-- `held_less`: no operation is held that was not held before.
-- `held_again`: the operation itself is held after it exactly if it was before.
use Prim.Native.Nat.{ℕ, ◌≤◌}
use mathlib.Core.Path.{◌≡◌, refl, sym, ap, ap₂, ◌∙◌, subst}
use mathlib.Core.Bool.{Bool, true, false, not, ◌&&◌, ◌||◌, false≢true}
use mathlib.Core.List.{List}
use native.Mathlib.Omega.{arith}
use lib.Dec.{eqb}
use lib.ListN.{length}
use borrow.Author.Tests.{eqb-true, eqb-false}
use Rattle.lists.specs.Lists.{All, none, more}
use Rattle.jacobian.specs.{Answer.neutral_class, declared.Class.Class}
use Rattle.stored_form.specs.{Passing.CountPasses, Pairs.later, Pairs.earlier}
use Rattle.stored_form_theorems.specs.Pairs.{PairWithin, PairsAllowed}
use Rattle.archive.specs.Archive.{Archive, neutral}
use Rattle.archive_theorems.specs.Written.{Storable}
use Rattle.suppression_theory.specs.{Suppression.operation_of, Suppression.suppressed_operations, Archives.suppressed, Archives.holds, Archives.held_by, Archives.held}
use Rattle.suppression_theory.proofs.Suppression.{suppressed_count, suppressed_neutral, suppressed_others, suppressed_accept, suppressed_seal_accepts, suppressed_twice_operations, suppressed_twice_seal, either_order_operations, either_order_seal, neutral_unchanged_operations, neutral_unchanged_seal}

-- an archive with another seal and other operations
abbrev with : Archive → Class → List Class → Archive
with a seal ops = record { curve = a.curve; drawing = a.drawing; seal = seal; operations = ops; pairs = a.pairs }

module _ (a : Archive) (ok : Storable a) where
  module _ (k : ℕ) (low : 1 ≤ k) (high : k ≤ length a.operations) where
    pub suppressed_storable : Storable (suppressed k a)
    unfolding suppressed
    suppressed_storable = record {
      curve_allowed = ok.curve_allowed;
      drawing_printable = ok.drawing_printable;
      drawing_short = ok.drawing_short;
      count_within = subst CountPasses (sym (suppressed_count k a.operations)) ok.count_within;
      seal_allowed = suppressed_seal_accepts ok.seal_allowed ok.operations_allowed k low high;
      operations_allowed = suppressed_accept ok.seal_allowed ok.operations_allowed k;
      pairs_allowed = subst (λ (n : ℕ). PairsAllowed n a.pairs) (sym (suppressed_count k a.operations)) ok.pairs_allowed;
      pairs_few = ok.pairs_few;
    }

    pub suppressed_again : suppressed k (suppressed k a) ≡ suppressed k a
    unfolding suppressed
    suppressed_again = ap₂ (with a) (suppressed_twice_seal ok.seal_allowed ok.operations_allowed k low high) (suppressed_twice_operations k a.operations)

    pub neutral_unchanged : operation_of k a.operations ≡ neutral_class → suppressed k a ≡ a
    unfolding suppressed
    neutral_unchanged e = ap₂ (with a) (neutral_unchanged_seal ok.seal_allowed k a.operations e) (neutral_unchanged_operations k a.operations e)

    pub either_order : (j : ℕ) → 1 ≤ j → j ≤ length a.operations → suppressed j (suppressed k a) ≡ suppressed k (suppressed j a)
    unfolding suppressed
    either_order j l h = ap₂ (with a) (either_order_seal ok.seal_allowed ok.operations_allowed j k l h low high) (either_order_operations j k a.operations)

    -- ---- held

    -- the later operation of a pair after the suppression: neutral, or as it was
    later_after : (p : ℕ) → PairWithin (length a.operations) p → (b : Bool) → eqb (later p) k ≡ b →
        neutral (operation_of (later p) (suppressed_operations k a.operations)) ≡ (b || neutral (operation_of (later p) a.operations))
    unfolding neutral neutral_class
    later_after p w true e =
        ap (λ (j : ℕ). neutral (operation_of j (suppressed_operations k a.operations))) (eqb-true (later p) k e) ∙ ap neutral (suppressed_neutral k a.operations low high)
    later_after p w false e = ap neutral (suppressed_others (later p) k a.operations w.later_within high (eqb-false (later p) k e))

    less : (j p : ℕ) → PairWithin (length a.operations) p → holds j (suppressed_operations k a.operations) p ≡ true → holds j a.operations p ≡ true
    unfolding holds
    less j p w h = go (eqb (earlier p) j) (eqb (later p) k) (neutral (operation_of (later p) a.operations)) (ap (λ (n : Bool). eqb (earlier p) j && not n) (sym (later_after p w (eqb (later p) k) refl)) ∙ h)
      where
        go : (x b n : Bool) → (x && not (b || n)) ≡ true → (x && not n) ≡ true
        go true true n e = absurd (false≢true e)
        go true false n e = e
        go false b n e = absurd (false≢true e)

    same : (p : ℕ) → PairWithin (length a.operations) p → holds k (suppressed_operations k a.operations) p ≡ holds k a.operations p
    unfolding holds
    same p w = go (eqb (earlier p) k) refl (eqb (later p) k) refl
      where
        go : (x : Bool) → eqb (earlier p) k ≡ x → (b : Bool) → eqb (later p) k ≡ b → (x && not (neutral (operation_of (later p) (suppressed_operations k a.operations)))) ≡ (x && not (neutral (operation_of (later p) a.operations)))
        go false e b f = refl
        go true e true f = let x = eqb-true (earlier p) k e in let y = eqb-true (later p) k f in absurd (omega (arith, w.earlier_below, x, y))
        go true e false f = ap not (later_after p w false f)

    pub held_less : (j : ℕ) → held j (suppressed k a) ≡ true → held j a ≡ true
    unfolding held suppressed held_by
    held_less j = go ok.pairs_allowed.within
      where
        either : (x y x' y' : Bool) → (x ≡ true → x' ≡ true) → (y ≡ true → y' ≡ true) → (x || y) ≡ true → (x' || y') ≡ true
        either true y x' y' f g e = ap (λ (z : Bool). z || y') (f refl)
        either false y true y' f g e = refl
        either false y false y' f g e = g e

        go : {ps : List ℕ} → All (PairWithin (length a.operations)) ps → held_by j (suppressed_operations k a.operations) ps ≡ true → held_by j a.operations ps ≡ true
        go none e = e
        go (more {a = p} {l = ps} w r) e = either (holds j (suppressed_operations k a.operations) p) (held_by j (suppressed_operations k a.operations) ps) (holds j a.operations p) (held_by j a.operations ps) (less j p w) (go r) e

    pub held_again : held k (suppressed k a) ≡ held k a
    unfolding held suppressed held_by
    held_again = go ok.pairs_allowed.within
      where
        go : {ps : List ℕ} → All (PairWithin (length a.operations)) ps → held_by k (suppressed_operations k a.operations) ps ≡ held_by k a.operations ps
        go none = refl
        go (more {a = p} {l = ps} w r) = ap₂ (λ (x y : Bool). x || y) (same p w) (go r)
