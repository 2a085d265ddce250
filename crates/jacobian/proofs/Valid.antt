-- Demand 1 of the calls by value: every answer is valid.
-- `curve_refusal_valid`, `class_refusal_valid`: the refusal of a curve and of a class is valid, 0 or a listed number.
-- `refusal_valid`, `refusal_of_two_valid`: so is the refusal of a call on one class and on two.
-- `verdict_valid`: the verdict of a valid refusal is valid.
-- `curve_valid`, `membership_valid`: a curve or a class is accepted, or refused with a listed number.
-- `unary_valid`: an opposite, double or half is accepted, or refused with a listed number, the neutral class and
-- no step.
-- `binary_valid`: so are a sum and the two rules that move a seal.
use Prim.Native.Nat.{ℕ, zero, suc}
use mathlib.Core.{Path.refl, Logic.inl, Logic.inr}
use native.Mathlib.Omega.{arith}
use Rattle.class_group.specs.Reduction.{Counted}
use Rattle.row_theory.specs.Field.{Poly}
use Rattle.class_rows.specs.{declared.Unary.Unary, declared.Binary.Binary}
use Rattle.jacobian.specs.{Refusals.refusals, Refusals.listed, Refusals.IsRefusal, Refusals.ValidRefusal, Curves.degree_refusal, Curves.coefficient_refusal, Curves.curve_refusal, Classes.shape_refusal, Classes.range_refusal, Classes.class_refusal}
use Rattle.jacobian.specs.Answer.{verdict_of, refusal, refusal_of_two, answered, curve_answer, membership_answer, unary_answer, binary_answer}
use Rattle.jacobian.specs.Valid.{ValidVerdict, ValidReply}
use Rattle.jacobian.specs.Valid as valid
use Rattle.jacobian.specs.declared.{Curve.Curve, Class.Class}
use Rattle.jacobian.proofs.Refusals.{valid_unless, valid_or_else}

-- ---- the checks
pub curve_refusal_valid : (c : Curve) → ValidRefusal (curve_refusal c)
unfolding curve_refusal degree_refusal coefficient_refusal IsRefusal refusals listed
curve_refusal_valid c = valid_or_else _ _ (valid_unless _ 106 refl) (valid_unless _ 107 refl)

pub class_refusal_valid : (c : Curve) (a : Class) → ValidRefusal (class_refusal c a)
unfolding class_refusal shape_refusal range_refusal IsRefusal refusals listed
class_refusal_valid c a = valid_or_else _ _ (valid_unless _ 104 refl) (valid_or_else _ _ (valid_unless _ 110 refl) (valid_unless _ 111 refl))

pub refusal_valid : (c : Curve) (a : Class) → ValidRefusal (refusal c a)
unfolding refusal
refusal_valid c a = valid_or_else _ _ (curve_refusal_valid c) (class_refusal_valid c a)

pub refusal_of_two_valid : (c : Curve) (a b : Class) → ValidRefusal (refusal_of_two c a b)
unfolding refusal_of_two
refusal_of_two_valid c a b = valid_or_else _ _ (refusal_valid c a) (class_refusal_valid c b)

-- ---- the calls
pub verdict_valid : (n : ℕ) → ValidRefusal n → ValidVerdict (verdict_of n)
unfolding ValidRefusal verdict_of
verdict_valid zero t = valid.ValidVerdict.acceptance
verdict_valid (suc n) (inl e) = absurd (omega arith)
verdict_valid (suc n) (inr r) = valid.ValidVerdict.refusal (suc n) r

answered_valid : (d n : ℕ) (D : Counted (Poly d)) → ValidRefusal n → ValidReply (answered d n D)
unfolding ValidRefusal answered
answered_valid d zero D t = valid.ValidReply.acceptance _ _
answered_valid d (suc n) D (inl e) = absurd (omega arith)
answered_valid d (suc n) D (inr r) = valid.ValidReply.refusal (suc n) r

pub curve_valid : (c : Curve) → ValidVerdict (curve_answer c)
unfolding curve_answer
curve_valid c = verdict_valid _ (curve_refusal_valid c)

pub membership_valid : (c : Curve) (a : Class) → ValidVerdict (membership_answer c a)
unfolding membership_answer
membership_valid c a = verdict_valid _ (refusal_valid c a)

pub unary_valid : (op : Unary) (c : Curve) (a : Class) → ValidReply (unary_answer op c a)
unary_valid op c a = answered_valid c.degree _ _ (refusal_valid c a)

pub binary_valid : (op : Binary) (c : Curve) (a b : Class) → ValidReply (binary_answer op c a b)
binary_valid op c a b = answered_valid c.degree _ _ (refusal_of_two_valid c a b)
