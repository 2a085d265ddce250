-- The answers of the calls: the refusal where there is one, else the class.
use Prim.Native.Nat.{ℕ, zero, suc}
use mathlib.Core.Path.{◌≡◌, refl, sym, ◌∙◌, ap}
use native.Mathlib.Omega.{arith}
use Rattle.class_group.specs.Reduction.{Counted}
use Rattle.row_theory.specs.Field.{Poly}
use Rattle.jacobian.specs.{Answer.refused, Answer.verdict, Answer.verdict_of, Answer.refusal, Answer.Reply, Answer.reply, Answer.refusing, Answer.answered, declared.Curve.Curve, declared.Class.Class, declared.CountedClass.CountedClass}
use Rattle.std.specs.Prelude.{Result, Ok, Err}
use Rattle.refusals.specs.{Refusals.number, Refusals.refusal_of, declared.Refusal.Refusal}
use Rattle.binary_field.proofs.Refusing.{number_positive}
use Rattle.jacobian.proofs.ByValue.Checks.{CurvePasses, ClassPasses, then_zero, curve_passes, class_passes}

pub refused_verdict : (n : ℕ) → ¬ (n ≡ 0) → refused n ≡ verdict_of n
unfolding verdict_of
refused_verdict zero h = absurd (h refl)
refused_verdict (suc n) h = refl

-- a verdict has one number
numbered : {m n : ℕ} → verdict_of m ≡ verdict_of n → m ≡ n
unfolding verdict_of
numbered {m = zero} {n = zero} e = refl
numbered {m = zero} {n = suc n} e = let z : ◌≡◌ {A = ℕ} 0 1 = cc in absurd (omega arith)
numbered {m = suc m} {n = zero} e = let z : ◌≡◌ {A = ℕ} 0 1 = cc in absurd (omega arith)
numbered {m = suc m} {n = suc n} e = cc

-- the verdict is that of the refusal's number
pub verdict_is : (o : Result (Unit {0}) Refusal) → verdict o ≡ verdict_of (refusal_of o)
unfolding verdict_of
verdict_is (Ok _) = refl
verdict_is (Err r) = refused_verdict (number r) (number_positive r)

pub verdict_of_number : (o : Result (Unit {0}) Refusal) {n : ℕ} → refusal_of o ≡ n → verdict o ≡ verdict_of n
verdict_of_number o e = verdict_is o ∙ ap verdict_of e

-- the number of an outcome is the refusal of the call
pub refusal_of_is : (o : Result (Unit {0}) Refusal) (n : ℕ) → verdict o ≡ verdict_of n → refusal_of o ≡ n
refusal_of_is o n e = numbered (sym (verdict_is o) ∙ e)

-- the number of an answer with a class is the refusal of the call
pub reply_refusal_is : (x : Result CountedClass Refusal) (n : ℕ) → (reply x).outcome ≡ verdict_of n → refusal_of x ≡ n
unfolding verdict_of
reply_refusal_is (Ok a) n e = numbered {m = 0} e
reply_refusal_is (Err r) n e = numbered (sym (refused_verdict (number r) (number_positive r)) ∙ e)

module _ (d : ℕ) (D : Counted (Poly d)) where
  pub refused_answered : (n : ℕ) → ¬ (n ≡ 0) → refusing n ≡ answered d n D
  unfolding answered
  refused_answered zero h = absurd (h refl)
  refused_answered (suc n) h = refl

  -- a refusal is answered
  pub refuses : (r : Refusal) {n : ℕ} → number r ≡ n → refusing (number r) ≡ answered d n D
  refuses r e = refused_answered (number r) (number_positive r) ∙ ap (λ k. answered d k D) e

  -- equal refusals give the same answer
  pub at_refusal : {n m : ℕ} → n ≡ m → {r : Reply} → r ≡ answered d n D → r ≡ answered d m D
  at_refusal e h = h ∙ ap (λ k. answered d k D) e

-- the curve and the class of a call that is not refused pass their checks
pub passes : (c : Curve) (a : Class) {n : ℕ} → n ≡ refusal c a → n ≡ 0 → CurvePasses c × ClassPasses c a
unfolding refusal
passes c a e h = let z = then_zero _ _ (sym e ∙ h) in (curve_passes c z.0, class_passes c a z.1)
