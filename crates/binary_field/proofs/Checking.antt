-- Each refusal of a call on elements, under its condition and in its order (docs/SPECIFICATION.md, 1 and 6).
-- `degree_checked`: the refusal of a degree is 106 exactly for a degree other than 5 and 61.
-- `element_checked`: the refusal of a call on elements is that of the degree, then of the numbers' range.
-- `inverse_checked`: the refusal of an inverse is these, then 117 for 0.
-- `below_decides`: the test of a range is true exactly where every number is below the bound.
use Prim.Native.Nat.{ℕ, zero, suc, ◌^◌}
use mathlib.Core.{Path.◌≡◌, Path.refl, Path.sym, Bool.Bool, Bool.true, Bool.false, Bool.◌&&◌, Bool.true≢false, List.List, List.[], List.◌∷◌, Logic.◌↔◌, Logic.◌⊎◌, Logic.inl, Logic.inr}
use native.Mathlib.Omega.{arith}
use lib.Dec.{eqb, ltb}
use borrow.Author.Tests.{lt-ltb, ltb-true, eqb-true}
use Rattle.lists.specs.Lists.{none, more}
use Rattle.binary_field_theory.specs.Element.{is_degree}
use Rattle.binary_field.specs.{Checks.unless, Checks.check, Checks.RefusalOf, Answer.below, Answer.degree_refusal, Answer.element_refusal, Answer.inverse_refusal}
use Rattle.binary_field.specs.Checking.{Below, degree_check, element_checks, inverse_checks}
use Rattle.binary_field.proofs.RefusalOf.{refusal_unless, refusal_or_else}

-- ---- the tests

and_true : (x y : Bool) → (x && y) ≡ true → (x ≡ true) × (y ≡ true)
and_true true y e = (refl, e)
and_true false y e = absurd (true≢false (sym e))

below_all : (m : ℕ) (ns : List ℕ) → below m ns ≡ true → Below m ns
unfolding below
below_all m [] e = none
below_all m (n ∷ ns) e = let h = and_true (ltb n m) (below m ns) e in more (ltb-true n m h.0) (below_all m ns h.1)

all_below : (m : ℕ) {ns : List ℕ} → Below m ns → below m ns ≡ true
unfolding below
all_below m none = refl
all_below m (more {a} h k) = rw (lt-ltb a m h) (all_below m k)

pub below_decides : (m : ℕ) (ns : List ℕ) → (below m ns ≡ true) ↔ Below m ns
below_decides m ns = (below_all m ns, all_below m)

degree_decides : (d : ℕ) → (is_degree d ≡ true) ↔ ((d ≡ 5) ⊎ (d ≡ 61))
degree_decides d = (go (eqb d 5) refl, back)
  where
    go : (b : Bool) → eqb d 5 ≡ b → is_degree d ≡ true → (d ≡ 5) ⊎ (d ≡ 61)
    go true e h = inl (eqb-true d 5 e)
    go false e h = inr (eqb-true d 61 (rw e at h))

    back : (d ≡ 5) ⊎ (d ≡ 61) → is_degree d ≡ true
    back (inl e) = rw e refl
    back (inr e) = rw e refl

positive_decides : (a : ℕ) → (ltb 0 a ≡ true) ↔ ¬ (a ≡ 0)
positive_decides zero = (λ e. absurd (true≢false (sym e)), λ h. absurd (h refl))
positive_decides (suc a) = (λ e h. omega arith, λ h. lt-ltb 0 (suc a) (omega arith))

-- ---- the refusals

pub degree_checked : (d : ℕ) → RefusalOf (degree_check d ∷ []) (degree_refusal d)
unfolding degree_refusal
degree_checked d = refusal_unless (is_degree d) 106 (λ e. omega arith) (degree_decides d)

pub element_checked : (d : ℕ) (ns : List ℕ) → RefusalOf (element_checks d ns) (element_refusal d ns)
unfolding element_refusal
element_checked d ns =
    refusal_or_else (degree_check d ∷ []) (check 110 (Below (2 ^ d) ns) ∷ []) (degree_refusal d) (unless (below (2 ^ d) ns) 110) (degree_checked d)
    (λ h. refusal_unless (below (2 ^ d) ns) 110 (λ e. omega arith) (below_decides (2 ^ d) ns))

pub inverse_checked : (d a : ℕ) → RefusalOf (inverse_checks d a) (inverse_refusal d a)
unfolding inverse_refusal
inverse_checked d a =
    refusal_or_else (element_checks d (a ∷ [])) (check 117 (¬ (a ≡ 0)) ∷ []) (element_refusal d (a ∷ [])) (unless (ltb 0 a) 117) (element_checked d (a ∷ []))
    (λ h. refusal_unless (ltb 0 a) 117 (λ e. omega arith) (positive_decides a))
