-- What the tests on classes decide, of accepted classes.
-- `decides_same`: `same_class` is true exactly where the classes are equal.
-- `decides_opposed`: `opposed` is true exactly where the first class is the opposite of the second.
-- `decides_neutral`: `neutral` is true exactly where the class is the neutral one.
-- `decides_older`: `next_older` is true exactly where there is a next older operation and the test is true of it.
use Prim.Native.Nat.{ℕ, zero, suc, ◌<◌}
use mathlib.Core.Path.{◌≡◌, refl, sym, ap, ◌∙◌, subst}
use mathlib.Core.Bool.{Bool, true, true≢false}
use mathlib.Core.List.{List, [], ◌∷◌}
use mathlib.Core.Logic.{◌↔◌}
use native.Mathlib.Omega.{arith}
use lib.Dec.{eqb}
use lib.ListN.{length, get_or, drop}
use borrow.Author.Tests.{eq-eqb, eqb-true}
use Rattle.jacobian.specs.{Classes.same_row, Classes.same_class, Answer.Accepts, Answer.neutral_class, Group.opposite_of, declared.Curve.Curve, declared.Class.Class}
use Rattle.jacobian.proofs.{ByValue.Threes.by_three, ByValue.Checks.both, ByValue.Answers.passes, Calls.only_neutral, Calls.opposite_accepts}
use Rattle.walk_report.specs.Walk.{opposed, neutral, next_older}

-- rows of three numbers
row_same : (r s : List ℕ) → length r ≡ 3 → length s ≡ 3 → same_row r s ≡ true → r ≡ s
unfolding same_row
row_same r s e f =
    by_three (λ r. same_row r s ≡ true → r ≡ s)
    (λ x y z. by_three (λ s. same_row (x ∷ y ∷ z ∷ []) s ≡ true → x ∷ y ∷ z ∷ [] ≡ s) (λ p q t h.
    let m = both (eqb x p) _ h in
    let n = both (eqb y q) _ m.1 in
    rw (eqb-true x p m.0, eqb-true y q n.0, eqb-true z t n.1)) s f) r e

row_refl : (r : List ℕ) → same_row r r ≡ true
unfolding same_row
row_refl r = rw (eq-eqb (get_or r 0 0) (get_or r 0 0) refl, eq-eqb (get_or r 1 0) (get_or r 1 0) refl, eq-eqb (get_or r 2 0) (get_or r 2 0) refl)

class_refl : (a : Class) → same_class a a ≡ true
unfolding same_class
class_refl a = rw (eq-eqb a.degree a.degree refl, row_refl a.u, row_refl a.v)

module _ {c : Curve} where
  pub decides_same : {a b : Class} → Accepts c a → Accepts c b → (same_class a b ≡ true) ↔ (a ≡ b)
  unfolding same_class
  decides_same {a} {b} ha hb = (ahead, λ e. subst (λ (x : Class). same_class a x ≡ true) e (class_refl a))
    where
      ahead : same_class a b ≡ true → a ≡ b
      ahead h =
          let p = (passes c a (sym ha.none) refl).1.shape in
          let q = (passes c b (sym hb.none) refl).1.shape in
          let m = both (eqb a.degree b.degree) _ h in
          let n = both (same_row a.u b.u) _ m.1 in
          ap (λ (k : ℕ). record { degree = k; u = a.u; v = a.v }) (eqb-true a.degree b.degree m.0)
          ∙ ap (λ (r : List ℕ). record { degree = b.degree; u = r; v = a.v }) (row_same a.u b.u p.u_three q.u_three n.0)
          ∙ ap (λ (r : List ℕ). record { degree = b.degree; u = b.u; v = r }) (row_same a.v b.v p.v_three q.v_three n.1)

  pub decides_opposed : {a b : Class} → Accepts c a → Accepts c b → (opposed c a b ≡ true) ↔ (a ≡ opposite_of c b)
  unfolding opposed
  decides_opposed ha hb = decides_same ha (opposite_accepts c hb)

  pub decides_neutral : {a : Class} → Accepts c a → (neutral a ≡ true) ↔ (a ≡ neutral_class)
  unfolding neutral neutral_class
  decides_neutral {a} ha = (λ h. only_neutral c ha (eqb-true a.degree 0 h), λ e. eq-eqb a.degree 0 (ap (λ (x : Class). x.degree) e))

pub decides_older : (holds : Class → Bool) (k : ℕ) (ops : List Class) → (next_older holds (drop k ops) ≡ true) ↔ ((k < length ops) × (holds (get_or ops k neutral_class) ≡ true))
unfolding next_older
decides_older holds zero [] = (λ h. absurd (true≢false (sym h)), λ h. absurd (omega (arith, h.0)))
decides_older holds (suc k) [] = (λ h. absurd (true≢false (sym h)), λ h. absurd (omega (arith, h.0)))
decides_older holds zero (b ∷ ops) = (λ h. (omega arith, h), λ h. h.1)
decides_older holds (suc k) (b ∷ ops) =
    let rest = decides_older holds k ops in
    (λ h. let r = rest.0 h in (omega (arith, r.0), r.1), λ h. rest.1 (omega (arith, h.0), h.1))
