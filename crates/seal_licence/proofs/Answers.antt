-- The answers of the two calls by their checks.
-- `halvings_accepted`: where no check of k halvings refuses, the class is accepted.
-- `multiple_stops`: where a check of n times refuses, the answer is that refusal.
-- `multiple_given`: where none refuses, the answer is the class.
-- `halvings_answer_stops`, `halvings_answer_given`: the same of k halvings.
-- `multiple_passes`: where no check of n times refuses, the class is accepted and n is below the limit.
-- `halvings_passes`: where no check of k halvings refuses, the class is accepted and k is at most the limit.
use Prim.Native.Nat.{ℕ, zero, suc, ◌≤◌, ◌<◌}
use mathlib.Core.Path.{◌≡◌, sym, ap}
use native.Mathlib.Omega.{arith}
use lib.Dec.{lit<}
use borrow.Author.Tests.{ltb-true, leb-true}
use Rattle.refusals.specs.{Refusals.number, declared.Refusal.Refusal}
use Rattle.binary_field.proofs.Refusing.{number_positive}
use Rattle.jacobian.specs.Answer.{gives, Accepts}
use Rattle.jacobian.specs.declared.{Curve.Curve, Class.Class}
use Rattle.jacobian.proofs.ByValue.Checks.{then_zero, unless_zero}
use Rattle.seal_licence.specs.Multiples.{multiple_limit, halvings_limit, refuses, given, multiple_class, halved_class, multiple_refusal, halvings_refusal, multiple_answer, halvings_answer}

given_some : {m n : ℕ} (a : Class) → n ≡ m → ¬ (n ≡ 0) → refuses n ≡ given m a
unfolding given
given_some {m = zero} a e h = absurd (h e)
given_some {m = suc m} a e h = ap refuses e

given_none : {m : ℕ} {x a : Class} → 0 ≡ m → x ≡ a → gives x ≡ given m a
unfolding given
given_none {m = zero} e f = ap gives f
given_none {m = suc m} e f = absurd (omega arith)

module _ (c : Curve) (a : Class) (n : ℕ) where
  pub multiple_passes : multiple_refusal c a n ≡ 0 → Accepts c a × (n < multiple_limit)
  unfolding multiple_refusal
  multiple_passes e = let p = then_zero _ _ e in (record { none = p.0 }, ltb-true _ _ (unless_zero _ 118 (lit< tt) p.1))

  pub halvings_passes : halvings_refusal c a n ≡ 0 → Accepts c a × (n ≤ halvings_limit)
  unfolding halvings_refusal
  halvings_passes e = let p = then_zero _ _ e in (record { none = p.0 }, leb-true _ _ (unless_zero _ 119 (lit< tt) p.1))

  pub halvings_accepted : 0 ≡ halvings_refusal c a n → Accepts c a
  halvings_accepted e = (halvings_passes (sym e)).0

  pub multiple_stops : (r : Refusal) → number r ≡ multiple_refusal c a n → refuses (number r) ≡ multiple_answer c a n
  unfolding multiple_answer
  multiple_stops r e = given_some _ e (number_positive r)

  pub multiple_given : {x : Class} → 0 ≡ multiple_refusal c a n → x ≡ multiple_class c a n → gives x ≡ multiple_answer c a n
  unfolding multiple_answer
  multiple_given e f = given_none e f

  pub halvings_answer_stops : (r : Refusal) → number r ≡ halvings_refusal c a n → refuses (number r) ≡ halvings_answer c a n
  unfolding halvings_answer
  halvings_answer_stops r e = given_some _ e (number_positive r)

  pub halvings_answer_given : {x : Class} → 0 ≡ halvings_refusal c a n → x ≡ halved_class c a n → gives x ≡ halvings_answer c a n
  unfolding halvings_answer
  halvings_answer_given e f = given_none e f
