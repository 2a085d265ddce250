-- Each refusal of a curve and of classes by value under its condition, in its order (docs/SPECIFICATION.md, 3 and 6).
-- `curve_checked`: the refusal of a curve is 106 of the degree, then 107 of the coefficients.
-- `class_checked`: on an accepted curve that of a class is 104 of its form, then 110 of its numbers, then 111.
-- `one_checked`: the refusal of a call on one class is that of the curve, then that of the class.
-- `two_checked`: that of a call on two classes is this of the first, then that of the second.
-- `curve_answered`, `membership_answered`: the answer on a curve and on a class is accepted where all checks hold, else
-- refused with the number of the first that fails.
-- `unary_answered`, `binary_answered`: so is that of each call on one class and on two; a refusal has the neutral class
-- and no step.
-- `reply_number`: an answer by checks is refused with the number of the first that fails.
-- `reply_fails`: where it is refused with a number, the first check that fails has it.
-- `curve_numbered`, `membership_numbered`, `unary_numbered`, `binary_numbered`: each call refuses with its own numbers.
use Prim.Native.Nat.{ℕ, zero, suc, ◌^◌, ◌≤◌}
use mathlib.Core.{Path.◌≡◌, Path.refl, Path.sym, Path.ap, Path.subst, Path.◌∙◌, Bool.Bool, Bool.true, Bool.◌&&◌, List.List, List.[], List.◌∷◌, Logic.◌↔◌}
use native.Mathlib.Omega.{arith}
use lib.{Dec.eqb, Dec.leb, ListN.length, ListN.drop}
use borrow.Author.Tests.{le-leb, leb-true, eq-eqb, eqb-true}
use Rattle.binary_field.specs.Answer.{below}
use Rattle.binary_field.proofs.Checking.{degree_checked, below_decides}
pub use Rattle.binary_field.proofs.RefusalOf.{refusal_none, refusal_unless, refusal_or_else, not_both, one_number, refusal_held, held_refusal, refusal_number, among, fails_among, refusal_among, refusal_listed, among_append}
use Rattle.char2_algebra.specs.Divides.{Divides}
use Rattle.char2_algebra.proofs.{Degree.len_zero, Degree.len_of_zero, Lead.monic_nonzero, Division.rem_of_divides, Division.divides_of_rem}
use Rattle.class_group.specs.{Mumford.value, Reduction.Counted}
use Rattle.row_theory.specs.Field.{Poly, 𝔸}
use Rattle.class_rows.specs.{Operations.unary, Operations.binary, declared.Unary.Unary, declared.Binary.Binary}
use Rattle.jacobian.specs.{Checks.Check, Checks.check, Checks.FirstFails, Checks.blank, Checks.RefusalOf, Checks.all_hold, Checks.first_fails, Curves.coefficients, Curves.degree_refusal, Curves.coefficient_refusal, Curves.curve_refusal, Curves.curve, Refusals.listed}
use Rattle.jacobian.specs.{Classes.pair, Classes.padded, Classes.shape_refusal, Classes.range_refusal, Classes.class_refusal, Answer.refusal, Answer.refusal_of_two, declared.Curve.Curve, declared.Class.Class}
use Rattle.jacobian.specs.Checking.{Below, degree_check, curve_checks, Padded, class_checks, checks_of_one, checks_of_two, curve_numbers, class_call_numbers, VerdictOf, ReplyOf}
use Rattle.jacobian.specs.Checking as checking
use Rattle.jacobian.specs.Answer.{Verdict, accepted, refused, Reply, verdict_of, answered, curve_answer, membership_answer, unary_answer, binary_answer}
use Rattle.jacobian.proofs.ByValue.{Checks.then_zero, Checks.both, Checks.blank_past, Checks.curve_passes, Checks.shape_passes, Checks.range_passes, Below.from_blank}
use Rattle.jacobian.proofs.Representation.Form.{passes_formed, u_monic}

-- ---- a curve

pub curve_checked : (c : Curve) → RefusalOf (curve_checks c) (curve_refusal c)
unfolding curve_refusal coefficient_refusal
curve_checked c =
    refusal_or_else (degree_check c.degree ∷ []) (check 107 (Below (2 ^ c.degree) (coefficients c)) ∷ []) (degree_refusal c.degree) (coefficient_refusal c) (degree_checked c.degree)
    (λ h. refusal_unless (below (2 ^ c.degree) (coefficients c)) 107 (λ e. omega arith) (below_decides (2 ^ c.degree) (coefficients c)))

-- ---- the tests of a class

and_both : {x y : Bool} {P Q : Type 0} → ((x ≡ true) ↔ P) → ((y ≡ true) ↔ Q) → ((x && y) ≡ true) ↔ (P × Q)
and_both {x} {y} i j = (λ e. let h = both x y e in (i.0 h.0, j.0 h.1), λ h. rw (i.1 h.0, j.1 h.1) refl)

padded_decides : (n : ℕ) (r : List ℕ) → (padded n r ≡ true) ↔ Padded n r
unfolding padded
padded_decides n r = (
  λ e. let h = both (eqb (length r) 3) (blank (drop n r)) e in record { three = eqb-true (length r) 3 h.0; zeros = blank_past n r h.1 },
  λ h. rw (eq-eqb (length r) 3 h.three, from_blank n r h.zeros) refl,
)

low_decides : (n : ℕ) → (leb n 3 ≡ true) ↔ (n ≤ 3)
low_decides n = (leb-true n 3, le-leb n 3)

module _ (c : Curve) (a : Class) where
  divides_decides : curve_refusal c ≡ 0 → shape_refusal a ≡ 0 → range_refusal c.degree a ≡ 0 →
      let d = c.degree in
      (eqb ((𝔸 d).len ((𝔸 d).rem (value (curve c) (pair d a).v) (pair d a).u)) 0 ≡ true) ↔ Divides (𝔸 d).ring (pair d a).u (value (curve c) (pair d a).v)
  divides_decides ok shape range =
      let d = c.degree in
      let P = 𝔸 d in
      let D = pair d a in
      let h = passes_formed d (curve_passes c ok).accepted a (shape_passes a shape) (range_passes d a range) in
      let nonzero = monic_nonzero P D.u (u_monic d a h) in (
        λ e. divides_of_rem P D.u nonzero (value (curve c) D.v) (len_zero P (P.rem (value (curve c) D.v) D.u) (eqb-true _ 0 e)),
        λ k. eq-eqb _ 0 (ap P.len (rem_of_divides P D.u nonzero (value (curve c) D.v) k) ∙ len_of_zero P),
      )

  shape_decides : ((leb a.degree 3 && padded a.degree a.u && padded a.degree a.v) ≡ true)
      ↔ ((a.degree ≤ 3) × Padded a.degree a.u × Padded a.degree a.v)
  shape_decides =
      let i = and_both (and_both (low_decides a.degree) (padded_decides a.degree a.u)) (padded_decides a.degree a.v) in
      (λ e. let h = i.0 e in (h.0.0, h.0.1, h.1), λ h. i.1 ((h.0, h.1), h.2))

  pub class_checked : curve_refusal c ≡ 0 → RefusalOf (class_checks c a) (class_refusal c a)
  unfolding class_refusal shape_refusal range_refusal
  class_checked ok =
      let d = c.degree in
      let n = a.degree in
      let shape = refusal_unless (leb n 3 && padded n a.u && padded n a.v) 104 (λ e. omega arith) shape_decides in
      let range = refusal_unless (below (2 ^ d) a.u && below (2 ^ d) a.v) 110 (λ e. omega arith) (and_both (below_decides (2 ^ d) a.u) (below_decides (2 ^ d) a.v)) in
      refusal_or_else (check 104 _ ∷ []) (check 110 _ ∷ check 111 _ ∷ []) (shape_refusal a) _ shape
      (λ h. refusal_or_else (check 110 _ ∷ []) (check 111 _ ∷ []) (range_refusal d a) _ range
      (λ k. refusal_unless _ 111 (λ e. omega arith) (divides_decides ok (refusal_held shape h) (refusal_held range k))))

pub one_checked : (c : Curve) (a : Class) → RefusalOf (checks_of_one c a) (refusal c a)
unfolding refusal
one_checked c a = refusal_or_else (curve_checks c) (class_checks c a) (curve_refusal c) (class_refusal c a) (curve_checked c) (λ h. class_checked c a (refusal_held (curve_checked c) h))

pub two_checked : (c : Curve) (a b : Class) → RefusalOf (checks_of_two c a b) (refusal_of_two c a b)
unfolding refusal_of_two refusal
two_checked c a b =
    refusal_or_else (checks_of_one c a) (class_checks c b) (refusal c a) (class_refusal c b) (one_checked c a)
    (λ h. class_checked c b (then_zero _ _ (refusal_held (one_checked c a) h)).0)

-- ---- the answers

verdict_by : (cs : List Check) (n : ℕ) → RefusalOf cs n → VerdictOf cs (verdict_of n)
unfolding verdict_of
verdict_by cs zero (all_hold e h) = checking.VerdictOf.accepts refl h
verdict_by cs (suc n) (all_hold e h) = absurd (omega arith)
verdict_by cs zero (first_fails z h) = absurd (z refl)
verdict_by cs (suc n) (first_fails z h) = checking.VerdictOf.refuses (suc n) refl h

reply_by : (cs : List Check) (n d : ℕ) (D : Counted (Poly d)) → RefusalOf cs n → ReplyOf cs (answered d n D)
unfolding answered
reply_by cs zero d D (all_hold e h) = checking.ReplyOf.accepts refl h
reply_by cs (suc n) d D (all_hold e h) = absurd (omega arith)
reply_by cs zero d D (first_fails z h) = absurd (z refl)
reply_by cs (suc n) d D (first_fails z h) = checking.ReplyOf.refuses (suc n) refl h

pub reply_number : {cs : List Check} {r : Reply} (n : ℕ) → ¬ (n ≡ 0) → ReplyOf cs r → FirstFails cs n → r.outcome ≡ refused n
reply_number {cs} n z (checking.ReplyOf.accepts e h) k = absurd (z (refusal_held {cs = cs} (first_fails z k) h))
reply_number {cs} n z (checking.ReplyOf.refuses m e f) k = ap (λ (r : Reply). r.outcome) e ∙ ap refused (sym (refusal_number {cs = cs} m (first_fails z k) f))

accepted_not_refused : {n : ℕ} → ◌≡◌ {A = Verdict} accepted (refused n) → ⊥
accepted_not_refused h = let z : ◌≡◌ {A = ℕ} 0 1 = cc in omega arith

refused_number : {m n : ℕ} → ◌≡◌ {A = Verdict} (refused m) (refused n) → m ≡ n
refused_number h = cc

pub reply_fails : {cs : List Check} {r : Reply} {n : ℕ} → ReplyOf cs r → r.outcome ≡ refused n → FirstFails cs n
reply_fails (checking.ReplyOf.accepts e h) is = absurd (accepted_not_refused (sym e ∙ is))
reply_fails {cs} (checking.ReplyOf.refuses m e f) is = subst (FirstFails cs) (refused_number (sym (ap (λ (r : Reply). r.outcome) e) ∙ is)) f

pub curve_answered : (c : Curve) → VerdictOf (curve_checks c) (curve_answer c)
unfolding curve_answer
curve_answered c = verdict_by (curve_checks c) (curve_refusal c) (curve_checked c)

pub membership_answered : (c : Curve) (a : Class) → VerdictOf (checks_of_one c a) (membership_answer c a)
unfolding membership_answer
membership_answered c a = verdict_by (checks_of_one c a) (refusal c a) (one_checked c a)

pub unary_answered : (op : Unary) (c : Curve) (a : Class) → ReplyOf (checks_of_one c a) (unary_answer op c a)
unary_answered op c a = reply_by (checks_of_one c a) (refusal c a) c.degree (unary op (curve c) (pair c.degree a)) (one_checked c a)

pub binary_answered : (op : Binary) (c : Curve) (a b : Class) → ReplyOf (checks_of_two c a b) (binary_answer op c a b)
binary_answered op c a b = reply_by (checks_of_two c a b) (refusal_of_two c a b) c.degree (binary op (curve c) (pair c.degree a) (pair c.degree b)) (two_checked c a b)

-- ---- the numbers

verdict_fails : {cs : List Check} {v : Verdict} {n : ℕ} → VerdictOf cs v → v ≡ refused n → FirstFails cs n
verdict_fails (checking.VerdictOf.accepts e h) is = absurd (accepted_not_refused (sym e ∙ is))
verdict_fails {cs} (checking.VerdictOf.refuses m e f) is = subst (FirstFails cs) (refused_number (sym e ∙ is)) f

pub curve_numbered : (c : Curve) (n : ℕ) → curve_answer c ≡ refused n → listed n curve_numbers ≡ true
unfolding curve_numbers listed
curve_numbered c n e = fails_among (curve_checks c) curve_numbers n refl (verdict_fails (curve_answered c) e)

module _ (c : Curve) (a : Class) (n : ℕ) where
  pub membership_numbered : membership_answer c a ≡ refused n → listed n class_call_numbers ≡ true
  unfolding class_call_numbers listed
  membership_numbered e = fails_among (checks_of_one c a) class_call_numbers n refl (verdict_fails (membership_answered c a) e)

  pub unary_numbered : (op : Unary) → (unary_answer op c a).outcome ≡ refused n → listed n class_call_numbers ≡ true
  unfolding class_call_numbers listed
  unary_numbered op e = fails_among (checks_of_one c a) class_call_numbers n refl (reply_fails (unary_answered op c a) e)

  pub binary_numbered : (op : Binary) (b : Class) → (binary_answer op c a b).outcome ≡ refused n → listed n class_call_numbers ≡ true
  unfolding class_call_numbers listed
  binary_numbered op b e = fails_among (checks_of_two c a b) class_call_numbers n refl (reply_fails (binary_answered op c a b) e)
