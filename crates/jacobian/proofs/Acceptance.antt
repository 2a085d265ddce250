-- Which curves and classes are accepted (docs/SPECIFICATION.md, 2, 3 and 6).
-- `curve_accepted_iff`: a curve is accepted exactly where its degree is 5 or 61 and f3, f1 and f0 are below 2^d.
-- `curve_polynomial`: the polynomial of an accepted curve is x^7 + f3 x^3 + f1 x + f0.
-- `of_accepts`: membership is answered for a class that no check refuses.
-- `membership_iff`: a class is accepted exactly where the curve is and the class stands for a reduced class of it.
use Prim.Native.Nat.{ℕ, zero, suc, ◌^◌, ◌≤◌, ◌<◌}
use mathlib.Core.{Path.◌≡◌, Path.refl, Path.sym, Path.ap, Path.subst, Path.◌∙◌, List.[], List.◌∷◌, Logic.◌↔◌, Logic.◌⊎◌}
use native.Mathlib.{Omega.arith, Decide.dec_le, Decide.ℕ_discrete}
use lib.ListN.{get_or}
use Rattle.lists.specs.Lists.{All, none, more}
use Rattle.char2_algebra.proofs.Lead.{len_by_top}
use Rattle.class_group.specs.Mumford.{Pair}
use Rattle.row_theory.specs.{Field.degree_of, Field.K, Field.Poly, Field.𝔸, Field.el}
use Rattle.row_theory.proofs.{Rows.Elements.degree_is, Rows.Elements.zero_lt, Rows.Elements.el_number, Rows.Elements.el_of, Rows.Elements.el_zero, Rows.Elements.el_one, Rows.Coefficients.coeff_poly}
use Rattle.jacobian.specs.{Checks.AllHold, Curves.coefficients, Curves.f_row, Curves.curve_refusal, Curves.curve, Classes.pair, Answer.accepted, Answer.verdict_of, Answer.refusal, Answer.Accepts, Answer.curve_answer, Answer.membership_answer, declared.Curve.Curve, declared.Class.Class}
use Rattle.jacobian.specs.{Checking.curve_checks, Membership.PolynomialOf, Membership.StandsFor, Membership.ClassOn}
use Rattle.jacobian.proofs.{Checking.refusal_held, Checking.held_refusal, Checking.curve_checked, ByValue.Checks.curve_passes, ByValue.Passing.f_is}
use Rattle.jacobian.proofs.{Representation.accepts_curve, Representation.accepts_class, Representation.accepts_both, Representation.accepted_formed, Representation.formed_accepted, Representation.accepted_reduced}
use Rattle.jacobian.proofs.Representation.Form.{Formed, coeff_u_below, coeff_u_top, coeff_u_past, coeff_v}

-- ---- a verdict

verdict_zero : (n : ℕ) → verdict_of n ≡ accepted → n ≡ 0
unfolding verdict_of
verdict_zero zero e = refl
verdict_zero (suc n) e = let z : ◌≡◌ {A = ℕ} 0 1 = cc in absurd (omega arith)

zero_verdict : (n : ℕ) → n ≡ 0 → verdict_of n ≡ accepted
unfolding verdict_of
zero_verdict n e = ap verdict_of e

-- ---- a curve

module _ (c : Curve) where
  curve_zero : curve_answer c ≡ accepted → curve_refusal c ≡ 0
  unfolding curve_answer
  curve_zero e = verdict_zero (curve_refusal c) e

  zero_curve : curve_refusal c ≡ 0 → curve_answer c ≡ accepted
  unfolding curve_answer
  zero_curve e = zero_verdict (curve_refusal c) e

  three : AllHold (curve_checks c) → ((c.degree ≡ 5) ⊎ (c.degree ≡ 61)) × (c.f3 < 2 ^ c.degree) × (c.f1 < 2 ^ c.degree) × (c.f0 < 2 ^ c.degree)
  unfolding coefficients
  three h = by h.0 h.1
    where
      by : {P : Type 0} → P → All (λ n. n < 2 ^ c.degree) (c.f3 ∷ c.f1 ∷ c.f0 ∷ []) × Unit {0} → P × (c.f3 < 2 ^ c.degree) × (c.f1 < 2 ^ c.degree) × (c.f0 < 2 ^ c.degree)
      by p (more x (more y (more z none)), t) = (p, x, y, z)

  pub curve_accepted_iff : (curve_answer c ≡ accepted) ↔ (((c.degree ≡ 5) ⊎ (c.degree ≡ 61)) × (c.f3 < 2 ^ c.degree) × (c.f1 < 2 ^ c.degree) × (c.f0 < 2 ^ c.degree))
  unfolding coefficients
  curve_accepted_iff = (
    λ e. three (held_refusal (curve_checked c) (curve_zero e)),
    λ h. zero_curve (refusal_held (curve_checked c) (h.0, (more h.1 (more h.2 (more h.3 none)), tt))),
  )

  module _ (accepts : curve_answer c ≡ accepted) where
    abbrev d : ℕ
    d = c.degree

    coefficient : (i : ℕ) → (𝔸 d).coeff (curve c).f i ≡ el d (get_or (f_row c) i 0)
    coefficient i = ap (λ (p : Poly d). (𝔸 d).coeff p i) (sym (f_is c)) ∙ coeff_poly d (f_row c) i

    number_at : (i : ℕ) → ((𝔸 d).coeff (curve c).f i).0 ≡ get_or (f_row c) i 0
    number_at i =
        let p = curve_passes c (curve_zero accepts) in
        ap (λ (e : K d). e.0) (coefficient i) ∙ el_number d (get_or (f_row c) i 0) (rw (degree_is d p.accepted) (p.f_below i))

    pub curve_polynomial : PolynomialOf c (curve c).f
    unfolding f_row
    curve_polynomial = record {
      at_7 = coefficient 7 ∙ el_one d;
      at_3 = number_at 3;
      at_1 = number_at 1;
      at_0 = number_at 0;
      elsewhere = λ i a b e g. coefficient i ∙ ap (el d) (blank i a b e g) ∙ el_zero d;
    }
      where
        blank : (i : ℕ) → ¬ (i ≡ 7) → ¬ (i ≡ 3) → ¬ (i ≡ 1) → ¬ (i ≡ 0) → get_or (f_row c) i 0 ≡ 0
        blank zero a b e g = absurd (g refl)
        blank (suc zero) a b e g = absurd (e refl)
        blank (suc (suc zero)) a b e g = refl
        blank (suc (suc (suc zero))) a b e g = absurd (b refl)
        blank (suc (suc (suc (suc zero)))) a b e g = refl
        blank (suc (suc (suc (suc (suc zero))))) a b e g = refl
        blank (suc (suc (suc (suc (suc (suc zero)))))) a b e g = refl
        blank (suc (suc (suc (suc (suc (suc (suc zero))))))) a b e g = absurd (a refl)
        blank (suc (suc (suc (suc (suc (suc (suc (suc i)))))))) a b e g = refl

-- ---- a class in form stands for its pair

module _ (d : ℕ) (a : Class) where
  formed_stands : Formed d a → StandsFor d a (pair d a)
  formed_stands h = record {
    u_below = λ i k. ap (λ (e : K d). e.0) (coeff_u_below d a h i k) ∙ el_number d (get_or a.u i 0) (h.u_range i);
    u_top = coeff_u_top d a h;
    u_above = coeff_u_past d a h;
    v_below = λ i k. ap (λ (e : K d). e.0) (coeff_v d a h i) ∙ el_number d (get_or a.v i 0) (h.v_range i);
    v_above = λ i k. coeff_v d a h i ∙ ap (el d) (h.shape.v_blank i k) ∙ el_zero d;
    u_padded = record { three = h.shape.u_three; zeros = h.shape.u_blank };
    v_padded = record { three = h.shape.v_three; zeros = h.shape.v_blank };
  }

  module _ {D : Pair (Poly d)} (s : StandsFor d a D) where
    stands_formed : (𝔸 d).len D.u ≤ 4 → Formed d a
    stands_formed l =
        let n : (𝔸 d).len D.u ≡ suc a.degree = len_by_top (𝔸 d) D.u a.degree s.u_top s.u_above in
        record {
          shape = record {
            low = omega arith;
            u_three = s.u_padded.three;
            v_three = s.v_padded.three;
            u_blank = s.u_padded.zeros;
            v_blank = s.v_padded.zeros;
          };
          u_range = λ i. elim (dec_le a.degree i) [
            | yes k ↦ rw (s.u_padded.zeros i k) (zero_lt d)
            | no k ↦ subst (λ (m : ℕ). m < 2 ^ degree_of d) (s.u_below i (omega arith)) ((𝔸 d).coeff D.u i).1
          ];
          v_range = λ i. elim (dec_le a.degree i) [
            | yes k ↦ rw (s.v_padded.zeros i k) (zero_lt d)
            | no k ↦ subst (λ (m : ℕ). m < 2 ^ degree_of d) (s.v_below i (omega arith)) ((𝔸 d).coeff D.v i).1
          ];
        }

    -- the element of the number is the coefficient
    back : {e : K d} {n : ℕ} → e.0 ≡ n → el d n ≡ e
    back {e} h = ap (el d) (sym h) ∙ el_of d e

    u_is : Formed d a → (pair d a).u ≡ D.u
    u_is h = (𝔸 d).ext (pair d a).u D.u (λ i. at i (dec_le a.degree i) (ℕ_discrete i a.degree))
      where
        at : (i : ℕ) → Dec (a.degree ≤ i) → Dec (i ≡ a.degree) → (𝔸 d).coeff (pair d a).u i ≡ (𝔸 d).coeff D.u i
        at i (no k) _ = coeff_u_below d a h i (omega arith) ∙ back (s.u_below i (omega arith))
        at i (yes k) (yes e) = ap ((𝔸 d).coeff (pair d a).u) e ∙ coeff_u_top d a h ∙ sym (ap ((𝔸 d).coeff D.u) e ∙ s.u_top)
        at i (yes k) (no e) = coeff_u_past d a h i (omega arith) ∙ sym (s.u_above i (omega arith))

    v_is : Formed d a → (pair d a).v ≡ D.v
    v_is h = (𝔸 d).ext (pair d a).v D.v (λ i. at i (dec_le a.degree i))
      where
        at : (i : ℕ) → Dec (a.degree ≤ i) → (𝔸 d).coeff (pair d a).v i ≡ (𝔸 d).coeff D.v i
        at i (no k) = coeff_v d a h i ∙ back (s.v_below i (omega arith))
        at i (yes k) = coeff_v d a h i ∙ ap (el d) (s.v_padded.zeros i k) ∙ el_zero d ∙ sym (s.v_above i k)

    pub stands_pair : (𝔸 d).len D.u ≤ 4 → pair d a ≡ D
    stands_pair l = let h = stands_formed l in let u = u_is h in let v = v_is h in λ i. record { u = u i; v = v i }

-- ---- membership

module _ (c : Curve) (a : Class) where
  accepts_of : membership_answer c a ≡ accepted → Accepts c a
  unfolding membership_answer
  accepts_of e = record { none = verdict_zero (refusal c a) e }

  pub of_accepts : Accepts c a → membership_answer c a ≡ accepted
  unfolding membership_answer
  of_accepts h = zero_verdict (refusal c a) h.none

  pub membership_iff : (membership_answer c a ≡ accepted) ↔ ((curve_answer c ≡ accepted) × ClassOn c a)
  membership_iff = (
    λ e.
        let h = accepts_of e in
        let ok = accepts_curve h in
        (zero_curve c ok, (pair c.degree a, formed_stands c.degree a (accepted_formed c ok a (accepts_class h)), accepted_reduced c a h)),
    λ h.
        let ok = curve_zero c h.0 in
        let D = h.1.0 in
        let s = h.1.1 in
        let r = h.1.2 in
        let same = stands_pair c.degree a s r.u_len in
        of_accepts (accepts_both c a ok (formed_accepted c ok a (stands_formed c.degree a s r.u_len) (rw same r.divides))),
  )
