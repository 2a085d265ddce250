-- The search over the candidates of a stamp in order, and the answer of the call.
-- `candidate_lt`: the candidates of a stamp below 2^(d-3) are elements.
-- `found_means`, `none_means`: what the root of a candidate's equation means.
-- `class_found`, `class_missed`: a candidate has a class exactly where its equation has a root.
-- `root_answered`: the search for a root of a candidate's equation is never refused.
-- `found_at`, `found_none`: the search finds the first candidate with a class, or none.
-- `refused_first`, `answered_last`: the answer is the refusal before the search, or what the search finds.
use Prim.Native.Nat.{ℕ, zero, suc, ◌+◌, ◌-◌, ◌*◌, ◌/◌, ◌^◌, ◌≤◌, ◌<◌}
use mathlib.Core.{Path.◌≡◌, Path.refl, Path.sym, Path.ap, Path.subst, Path.fun_ext, Path.◌∙◌, List.List, Option.Option, Option.none, Option.some, Option.map, Logic.◌↔◌}
use native.Mathlib.{Numerals.add-one, Omega.arith}
use borrow.Author.Tests.{lt-ltb, le-ltb, ltb-true}
use Rattle.binary_field_theory.specs.{Element.Accepted, Search.first, Quadratic.Root, Quadratic.EvenRoot, Quadratic.even_root}
use Rattle.binary_field_theory.proofs.Search.{first_zero, none_yet, found_first}
use Rattle.std.specs.Prelude.{Result, Ok, Err, Some, None}
use Rattle.std.specs.Prelude as std
use Rattle.refusals.specs.{Refusals.number, declared.Refusal.Refusal}
use Rattle.binary_field.specs.{Answer.bound, Answer.found, Answer.no_root, Answer.solution_reply, Answer.quadratic_reply, Answer.QuadraticMeans}
use Rattle.binary_field.specs.Answer as quadratic
use Rattle.binary_field.proofs.Degrees.{bound_accepted}
use Rattle.binary_field.proofs.Refusing.{number_positive, goes_on}
use Rattle.binary_field.proofs.Replies.{quadratic_means, quadratic_none, quadratic_some, found_is, none_found}
use Rattle.row_theory.specs.Row.{filled}
use Rattle.jacobian.specs.{Checks.unless, Curves.f_row, Curves.curve_refusal, Answer.Reply, Answer.refusing, declared.Curve.Curve, declared.Class.Class}
use Rattle.jacobian.proofs.ByValue.{Degrees.by_degree, Checks.then_zero, Checks.unless_zero}
use Rattle.stamps.specs.Stamps.{value_at, point_class, class_at, first_class, stamp_refusal, stamped, stamp_answer}
use Rattle.stamps.proofs.Values.{value_lt, value_filled}

-- ---- the candidates are elements

pub eight_times : (d : ℕ) → Accepted d → 8 * 2 ^ (d - 3) ≡ 2 ^ d
eight_times = by_degree (λ d. 8 * 2 ^ (d - 3) ≡ 2 ^ d) refl refl

pub candidate_lt : (d s i : ℕ) → Accepted d → s < 2 ^ (d - 3) → i < 8 → 8 * s + i < 2 ^ d
candidate_lt d s i ok hs hi = let e : 8 * 2 ^ (d - 3) ≡ 2 ^ d = eight_times d ok in omega arith

-- an eighth of the field's elements, which is one more than the largest stamp
pub eighth : (d : ℕ) → Accepted d → {m : ℕ} → m ≡ bound d → m / 8 ≡ 2 ^ (d - 3)
eighth d ok e = ap (λ m. m / 8) (e ∙ bound_accepted _ ok) ∙ by_degree (λ (d : ℕ). 2 ^ d / 8 ≡ 2 ^ (d - 3)) refl refl d ok

pub bound_le : (d : ℕ) → Accepted d → 2 ^ (d - 3) ≤ 2 ^ 58
bound_le = by_degree (λ d. 2 ^ (d - 3) ≤ 2 ^ 58) (omega arith) (omega arith)

-- ---- one candidate

-- what the root that is searched for means, as the call on elements says it
module _ (d v : ℕ) (ok : Accepted d) (lt : v < 2 ^ d) where
  pub found_means : {y : ℕ} → even_root d v ≡ some y → EvenRoot d v y
  found_means e = (subst (QuadraticMeans d v) (quadratic_some d v ok lt e) (quadratic_means d v)).1

  pub none_means : (even_root d v ≡ none) ↔ ((y : ℕ) → Root d v y → ⊥)
  none_means = (λ e. (subst (QuadraticMeans d v) (quadratic_none d v ok lt e) (quadratic_means d v)).1, λ h. by h (even_root d v) refl)
    where
      by : ((y : ℕ) → Root d v y → ⊥) → (o : Option ℕ) → even_root d v ≡ o → even_root d v ≡ none
      by h none e = e
      by h (some y) e = absurd (h y (found_means e).root)

-- no root is not a root
rootless_found : {t : Result (std.Option ℕ) Refusal} {y : ℕ} → t ≡ Ok None → solution_reply t ≡ found y → ⊥
rootless_found {t} {y} e g =
    let h : solution_reply t ≡ no_root = ap solution_reply e in
    let z : ◌≡◌ {A = ℕ} 0 1 = cc in
    omega arith

-- a refusal is neither a root nor that there is none
found_unrefused : {t : Result (std.Option ℕ) Refusal} {r : Refusal} {y : ℕ} → t ≡ Err r → solution_reply t ≡ found y → ⊥
found_unrefused {t} {r} {y} e g =
    let h : solution_reply t ≡ quadratic.refused (number r) = ap solution_reply e in
    let z : ◌≡◌ {A = ℕ} 0 1 = cc in
    omega arith

none_unrefused : {t : Result (std.Option ℕ) Refusal} {r : Refusal} → t ≡ Err r → solution_reply t ≡ no_root → ⊥
none_unrefused {t} {r} e g =
    let h : solution_reply t ≡ quadratic.refused (number r) = ap solution_reply e in
    let z : ◌≡◌ {A = ℕ} 0 1 = cc in
    omega arith

module _ (d : ℕ) (f : List ℕ) (x : ℕ) where
  class_some : {y : ℕ} → even_root d (value_at d f x) ≡ some y → class_at d f x ≡ some (point_class x y)
  unfolding class_at
  class_some e = ap (map (point_class x)) e

  class_none : even_root d (value_at d f x) ≡ none → class_at d f x ≡ none
  unfolding class_at
  class_none e = ap (map (point_class x)) e

  -- what `quadratic_root` answers for the candidate's value
  module _ (ok : Accepted d) {v : ℕ} (is : v ≡ value_at d f x) where
    v_lt : v < 2 ^ d
    v_lt = rw is (value_lt d ok f x)

    pub class_found : {t : Result (std.Option ℕ) Refusal} {y : ℕ} → t ≡ Ok (Some y) → solution_reply t ≡ quadratic_reply d v → class_at d f x ≡ some (point_class x y)
    class_found {t} {y} e g = by (even_root d v) refl
      where
        by : (o : Option ℕ) → even_root d v ≡ o → class_at d f x ≡ some (point_class x y)
        by none h = absurd (none_found e (g ∙ quadratic_none d v ok v_lt h))
        by (some z) h = class_some (ap (even_root d) (sym is) ∙ h ∙ ap some (sym (found_is e (g ∙ quadratic_some d v ok v_lt h))))

    pub class_missed : {t : Result (std.Option ℕ) Refusal} → t ≡ Ok None → solution_reply t ≡ quadratic_reply d v → class_at d f x ≡ none
    class_missed {t} e g = by (even_root d v) refl
      where
        by : (o : Option ℕ) → even_root d v ≡ o → class_at d f x ≡ none
        by none h = class_none (ap (even_root d) (sym is) ∙ h)
        by (some z) h = absurd (rootless_found e (g ∙ quadratic_some d v ok v_lt h))

    pub root_answered : {t : Result (std.Option ℕ) Refusal} {r : Refusal} → t ≡ Err r → solution_reply t ≡ quadratic_reply d v → ⊥
    root_answered {t} {r} e g = by (even_root d v) refl
      where
        by : (o : Option ℕ) → even_root d v ≡ o → ⊥
        by none h = none_unrefused e (g ∙ quadratic_none d v ok v_lt h)
        by (some z) h = found_unrefused e (g ∙ quadratic_some d v ok v_lt h)

-- ---- the search

module _ (d : ℕ) (f : List ℕ) (s : ℕ) where
  -- none of the first i candidates has a class
  abbrev pub NoneYet : ℕ → Type 0
  NoneYet i = first (λ j. class_at d f (8 * s + j)) i ≡ none

  pub none_first : NoneYet 0
  none_first = first_zero _

  pub one_more : (i : ℕ) → NoneYet i → class_at d f (8 * s + i) ≡ none → NoneYet (i + 1)
  one_more i e g = rw (add-one i) (none_yet _ i e g)

  pub found_at : (i : ℕ) {a : Class} → i < 8 → NoneYet i → class_at d f (8 * s + i) ≡ some a → some a ≡ first_class d f s
  unfolding first_class
  found_at i h e g = sym (found_first _ i 8 h e g)

  pub found_none : (i : ℕ) → i ≤ 8 → 8 ≤ i → NoneYet i → none ≡ first_class d f s
  unfolding first_class
  found_none i h k e = let z : i ≡ 8 = omega arith in sym (rw z at e)

-- ---- the answer

pub too_large : (c : Curve) (s : ℕ) {m : ℕ} → 0 ≡ curve_refusal c → m ≡ 2 ^ (c.degree - 3) → m ≤ s → 115 ≡ stamp_refusal c s
unfolding stamp_refusal unless
too_large c s z l h = goes_on z (rw (le-ltb s _ (rw l at h)))

pub none_due : (c : Curve) (s : ℕ) {m : ℕ} → 0 ≡ curve_refusal c → m ≡ 2 ^ (c.degree - 3) → s < m → 0 ≡ stamp_refusal c s
unfolding stamp_refusal unless
none_due c s z l h = goes_on z (rw (lt-ltb s _ (rw l at h)))

pub none_stamped : refusing 116 ≡ stamped 0 none
unfolding stamped
none_stamped = refl

refusing_stamped : (n : ℕ) (o : Option Class) → ¬ (n ≡ 0) → refusing n ≡ stamped n o
unfolding stamped
refusing_stamped zero o h = absurd (h refl)
refusing_stamped (suc n) o h = refl

pub refused_first : (c : Curve) (s : ℕ) (r : Refusal) → number r ≡ stamp_refusal c s → refusing (number r) ≡ stamp_answer c s
unfolding stamp_answer
refused_first c s r e = refusing_stamped (number r) _ (number_positive r) ∙ ap (λ m. stamped m (first_class c.degree (f_row c) s)) e

pub answered_last : (c : Curve) (s : ℕ) {f : List ℕ} {r : Reply} → 0 ≡ stamp_refusal c s → f ≡ filled (f_row c)
    → r ≡ stamped 0 (first_class c.degree f s) → r ≡ stamp_answer c s
unfolding stamp_answer first_class class_at
answered_last c s {f} e g h =
    let d = c.degree in
    h ∙ ap (λ (v : ℕ → ℕ). stamped 0 (first (λ i. map (point_class (8 * s + i)) (even_root d (v (8 * s + i)))) 8))
    (fun_ext (λ x. ap (λ k. value_at d k x) g ∙ value_filled d (f_row c) x))
    ∙ ap (λ m. stamped m (first (λ i. map (point_class (8 * s + i)) (even_root d (value_at d (f_row c) (8 * s + i)))) 8)) e

-- a stamp that is not refused before the search: the curve is accepted, and the stamp is below the bound
pub passed : (c : Curve) (s : ℕ) → 0 ≡ stamp_refusal c s → (curve_refusal c ≡ 0) × (s < 2 ^ (c.degree - 3))
unfolding stamp_refusal
passed c s e =
    let p = then_zero _ _ (sym e) in
    (p.0, ltb-true _ _ (unless_zero _ 115 (omega arith) p.1))
