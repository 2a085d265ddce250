-- The answers of the call on a stamp (docs/SPECIFICATION.md, 2 and 6).
-- `stamp_valid`: every answer is a class, or a refusal with a listed number, the neutral class and no step.
-- `stamp_refuses`: a refused stamp is refused with a listed number.
-- `stamp_gives`: an accepted stamp's class is that of its first candidate with a root.
-- `stamp_accepts`: it is accepted on the curve and has degree 1.
-- `stamp_checked`: each refusal under its condition and in its order: those of the curve, then 115, then 116.
-- `stamp_numbered`: a stamp is refused with one of 106, 107, 115 and 116.
-- `stamp_too_large`: on an accepted curve a stamp of 2^(d-3) or more is refused with 115.
-- `stamp_rootless`: a stamp is refused with 116 exactly where the curve is accepted, the stamp is below 2^(d-3) and
-- none of its eight candidates has a root.
-- `stamp_injective`: two accepted stamps of a curve with the same class are equal.
use Prim.Native.Nat.{ℕ, zero, suc, ◌+◌, ◌-◌, ◌*◌, ◌/◌, ◌^◌, ◌≤◌, ◌<◌}
use mathlib.Core.{Path.◌≡◌, Path.refl, Path.sym, Path.ap, Path.subst, Path.◌∙◌, Bool.true, List.List, List.[], List.◌∷◌, List.◌++◌, Logic.◌↔◌, Logic.inl, Logic.inr, Option.Option, Option.none, Option.some, Option.map-eq-none_iff, Option.map-eq-some_iff}
use native.Mathlib.Omega.{arith}
use lib.{Dec.ltb, ListN.get_or}
use borrow.Author.Tests.{lt-ltb, ltb-true}
use Rattle.binary_field_theory.specs.{Element.Accepted, Quadratic.even_root}
use Rattle.binary_field_theory.proofs.Search.{first_found, none_before}
use Rattle.jacobian.specs.{Checks.Check, Checks.check, Checks.RefusalOf, Checks.FirstFails, Checks.all_hold, Checks.first_fails, Checking.curve_checks, Checking.ReplyOf}
use Rattle.jacobian.specs.Checking as checking
use Rattle.jacobian.specs.{Checks.unless, Checks.◌or_else◌, Refusals.IsRefusal, Refusals.refusals, Refusals.listed, Refusals.ValidRefusal, Valid.ValidReply, Curves.f_row, Curves.curve_refusal, Answer.Reply, Answer.Verdict, Answer.accepted, Answer.refused, Answer.Accepts, declared.Curve.Curve, declared.Class.Class}
use Rattle.jacobian.specs.Valid as valid
use Rattle.jacobian.proofs.Checking.{refusal_unless, refusal_or_else, refusal_held, held_refusal, fails_among, curve_checked, reply_number, reply_fails}
use Rattle.jacobian.proofs.{Refusals.valid_unless, Refusals.valid_or_else, Valid.curve_refusal_valid, ByValue.Checks.curve_passes}
use Rattle.stamps.specs.Stamps.{value_at, point_class, class_at, first_class, stamp_refusal, stamped, stamp_answer, SomeRoot, stamp_checks, stamp_numbers, Rootless, FirstClass}
use Rattle.stamps.proofs.{Values.value_lt, Search.candidate_lt, Search.found_means, Search.none_means, Search.passed, Points.point_accepts}

-- ---- every answer is valid

accepted_not_refused : {n : ℕ} → ◌≡◌ {A = Verdict} (refused n) accepted → ⊥
accepted_not_refused e = let z : ◌≡◌ {A = ℕ} 0 1 = cc in omega arith

verdict_number : Verdict → ℕ
verdict_number accepted = 0
verdict_number (refused n) = n

refusal_valid : (c : Curve) (s : ℕ) → ValidRefusal (stamp_refusal c s)
unfolding stamp_refusal IsRefusal refusals listed
refusal_valid c s = valid_or_else _ _ (curve_refusal_valid c) (valid_unless _ 115 refl)

stamped_valid : (n : ℕ) (o : Option Class) → ValidRefusal n → ValidReply (stamped n o)
unfolding stamped ValidRefusal IsRefusal refusals listed
stamped_valid zero (some a) t = valid.ValidReply.acceptance a 0
stamped_valid zero none t = valid.ValidReply.refusal 116 refl
stamped_valid (suc n) o (inl e) = absurd (omega arith)
stamped_valid (suc n) o (inr r) = valid.ValidReply.refusal (suc n) r

pub stamp_valid : (c : Curve) (s : ℕ) → ValidReply (stamp_answer c s)
unfolding stamp_answer
stamp_valid c s = stamped_valid (stamp_refusal c s) _ (refusal_valid c s)

reply_refuses : {r : Reply} {k : ℕ} → ValidReply r → r.outcome ≡ refused k → IsRefusal k
unfolding verdict_number
reply_refuses (valid.ValidReply.acceptance a n) e = absurd (accepted_not_refused (sym e))
reply_refuses (valid.ValidReply.refusal n i) e = subst IsRefusal (ap verdict_number e) i

pub stamp_refuses : (c : Curve) (s k : ℕ) → (stamp_answer c s).outcome ≡ refused k → IsRefusal k
stamp_refuses c s k e = reply_refuses (stamp_valid c s) e

-- ---- an accepted stamp

stamped_accepted : (n : ℕ) (o : Option Class) → (stamped n o).outcome ≡ accepted → (n ≡ 0) × (o ≡ some (stamped n o).class)
unfolding stamped
stamped_accepted zero (some a) e = (refl, refl)
stamped_accepted zero none e = absurd (accepted_not_refused e)
stamped_accepted (suc n) o e = absurd (accepted_not_refused e)

point_degree : (x y : ℕ) → (point_class x y).degree ≡ 1
unfolding point_class
point_degree x y = refl

module _ (c : Curve) (s : ℕ) where
  abbrev d : ℕ
  d = c.degree

  -- a candidate without a class has no root
  none_rootless : (x : ℕ) → Accepted d → class_at d (f_row c) x ≡ none → Rootless c x
  unfolding class_at
  none_rootless x ok e = (none_means d _ ok (value_lt d ok _ x)).0 ((map-eq-none_iff (point_class x) _).0 e)

  pub stamp_gives : (stamp_answer c s).outcome ≡ accepted → (i : ℕ) × FirstClass c s i (stamp_answer c s).class
  unfolding stamp_answer first_class class_at
  stamp_gives e =
      let p = stamped_accepted (stamp_refusal c s) (first_class d (f_row c) s) e in
      let ok = (curve_passes c (passed c s (sym p.0)).0).accepted in
      let f = first_found (λ i. class_at d (f_row c) (8 * s + i)) 8 p.1 in
      let m = (map-eq-some_iff (point_class (8 * s + f.0)) (even_root d (value_at d (f_row c) (8 * s + f.0)))).0 f.2 in (
        f.0,
        record {
          place = f.1;
          y = m.0;
          root = found_means d _ ok (value_lt d ok _ _) m.1;
          class = sym m.2;
          earlier = λ j h. none_rootless (8 * s + j) ok (none_before (λ i. class_at d (f_row c) (8 * s + i)) f.0 f.3 j h);
        },
      )

  pub stamp_accepts : (stamp_answer c s).outcome ≡ accepted → Accepts c (stamp_answer c s).class × ((stamp_answer c s).class.degree ≡ 1)
  unfolding stamp_answer
  stamp_accepts e =
      let none_due = (stamped_accepted (stamp_refusal c s) (first_class d (f_row c) s) e).0 in
      let p = passed c s (sym none_due) in
      let g = stamp_gives e in
      let h = g.1 in
      let x_lt = candidate_lt d s g.0 (curve_passes c p.0).accepted p.1 h.place in
      (subst (Accepts c) (sym h.class) (point_accepts c p.0 (8 * s + g.0) h.y x_lt h.root.root), ap (λ (a : Class). a.degree) h.class ∙ point_degree (8 * s + g.0) h.y)

-- ---- each refusal under its condition

-- 116 where the search finds no class, else 0
search_refusal : Option Class → ℕ
search_refusal none = 116
search_refusal (some a) = 0

searched : {P : Type 0} (o : Option Class) → ((a : Class) → o ≡ some a → P) → (o ≡ none → ¬ P) → RefusalOf (check 116 P ∷ []) (search_refusal o)
unfolding search_refusal
searched none h k = first_fails (λ e. omega arith) (inl (k refl, refl))
searched (some a) h k = all_hold refl (h a refl, tt)

reply_by : (cs : List Check) (m : ℕ) (o : Option Class) → RefusalOf cs (m or_else search_refusal o) → ReplyOf cs (stamped m o)
unfolding stamped search_refusal ◌or_else◌
reply_by cs zero none (all_hold e h) = absurd (omega arith)
reply_by cs zero none (first_fails z h) = checking.ReplyOf.refuses 116 refl h
reply_by cs zero (some a) (all_hold e h) = checking.ReplyOf.accepts refl h
reply_by cs zero (some a) (first_fails z h) = absurd (z refl)
reply_by cs (suc n) o (all_hold e h) = absurd (omega arith)
reply_by cs (suc n) o (first_fails z h) = checking.ReplyOf.refuses (suc n) refl h

module _ (c : Curve) (s : ℕ) where
  refusal_checked : RefusalOf (curve_checks c ++ check 115 (s < 2 ^ (c.degree - 3)) ∷ []) (stamp_refusal c s)
  unfolding stamp_refusal
  refusal_checked =
      let m = 2 ^ (c.degree - 3) in
      refusal_or_else (curve_checks c) (check 115 (s < m) ∷ []) (curve_refusal c) (unless (ltb s m) 115) (curve_checked c)
      (λ h. refusal_unless (ltb s m) 115 (λ e. omega arith) (ltb-true s m, lt-ltb s m))

  search_checked : curve_refusal c ≡ 0 → RefusalOf (check 116 (SomeRoot c s) ∷ []) (search_refusal (first_class c.degree (f_row c) s))
  unfolding first_class class_at
  search_checked ok =
      let d = c.degree in
      let degree = (curve_passes c ok).accepted in
      searched (first_class d (f_row c) s)
      (λ a e.
      let f = first_found (λ i. class_at d (f_row c) (8 * s + i)) 8 e in
      let m = (map-eq-some_iff (point_class (8 * s + f.0)) (even_root d (value_at d (f_row c) (8 * s + f.0)))).0 f.2 in
      (f.0, f.1, (m.0, (found_means d _ degree (value_lt d degree _ _) m.1).root)))
      (λ e h. none_rootless c s (8 * s + h.0) degree (none_before (λ i. class_at d (f_row c) (8 * s + i)) 8 e h.0 h.1) h.2.0 h.2.1)

  pub stamp_checked : ReplyOf (stamp_checks c s) (stamp_answer c s)
  unfolding stamp_answer
  stamp_checked =
      reply_by (stamp_checks c s) (stamp_refusal c s) (first_class c.degree (f_row c) s)
      (refusal_or_else (curve_checks c ++ check 115 (s < 2 ^ (c.degree - 3)) ∷ []) (check 116 (SomeRoot c s) ∷ []) (stamp_refusal c s) _ refusal_checked
      (λ h. search_checked (refusal_held (curve_checked c) (h.0, (h.1.0, tt)))))

  pub stamp_numbered : (n : ℕ) → (stamp_answer c s).outcome ≡ refused n → listed n stamp_numbers ≡ true
  unfolding stamp_numbers listed
  stamp_numbered n e = fails_among (stamp_checks c s) stamp_numbers n refl (reply_fails stamp_checked e)

  pub stamp_too_large : curve_refusal c ≡ 0 → 2 ^ (c.degree - 3) ≤ s → (stamp_answer c s).outcome ≡ refused 115
  stamp_too_large ok h =
      let held = held_refusal (curve_checked c) ok in
      reply_number 115 (λ e. omega arith) stamp_checked (inr (held.0, inr (held.1.0, inl (λ l. omega arith, refl))))

  pub stamp_rootless : ((stamp_answer c s).outcome ≡ refused 116) ↔ ((curve_refusal c ≡ 0) × (s < 2 ^ (c.degree - 3)) × ((i : ℕ) → i < 8 → Rootless c (8 * s + i)))
  stamp_rootless = (
    λ e. fails (reply_fails stamp_checked e),
    λ h.
        let held = held_refusal (curve_checked c) h.0 in
        reply_number 116 (λ e. omega arith) stamp_checked (inr (held.0, inr (held.1.0, inr (h.1, inl (λ r. h.2 r.0 r.1 r.2.0 r.2.1, refl))))),
  )
    where
      fails : FirstFails (stamp_checks c s) 116 → (curve_refusal c ≡ 0) × (s < 2 ^ (c.degree - 3)) × ((i : ℕ) → i < 8 → Rootless c (8 * s + i))
      fails (inl f) = absurd (omega (arith, f.1))
      fails (inr (_, inl f)) = absurd (omega (arith, f.1))
      fails (inr (_, inr (_, inl f))) = absurd (omega (arith, f.1))
      fails (inr (p, inr (q, inr (l, inl f)))) = (refusal_held (curve_checked c) (p, (q, tt)), l, λ i k y r. f.0 (i, k, (y, r)))
      fails (inr (_, inr (_, inr (_, inr f)))) = absurd f.1

-- ---- two stamps

point_number : Class → ℕ
point_number a = get_or a.u 0 0 / 8

point_of_stamp : (s i y : ℕ) → i < 8 → point_number (point_class (8 * s + i) y) ≡ s
unfolding point_number point_class
point_of_stamp s i y h = omega arith

pub stamp_injective : (c : Curve) (s t : ℕ) → (stamp_answer c s).outcome ≡ accepted → (stamp_answer c t).outcome ≡ accepted
    → (stamp_answer c s).class ≡ (stamp_answer c t).class → s ≡ t
stamp_injective c s t e f same =
    let g = stamp_gives c s e in
    let h = stamp_gives c t f in
    sym (point_of_stamp s g.0 g.1.y g.1.place)
    ∙ ap point_number (sym g.1.class ∙ same ∙ h.1.class)
    ∙ point_of_stamp t h.0 h.1.y h.1.place
