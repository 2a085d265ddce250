-- Multiples and repeated halves of an accepted class.
-- `multiple_given`: n times it, for n below the limit, is not refused and gives an accepted class.
-- `halvings_given`: k halvings of it, for k within the limit, are not refused and give an accepted class.
use Prim.Native.Nat.{ℕ, ◌≤◌, ◌<◌}
use mathlib.Core.Path.{sym, ap, subst}
use Rattle.jacobian.specs.{Answer.Result, Answer.Accepts, declared.Curve.Curve, declared.Class.Class}
use Rattle.seal.proofs.Passing.{Given, given}
use Rattle.seal_licence.specs.Multiples.{multiple_limit, halvings_limit, multiple_answer, halvings_answer}
use Rattle.seal_licence.proofs.{Values.multiple_accepts, Values.halved_accepts, Theorems.multiple_gives, Theorems.halvings_give}

module _ {c : Curve} {a : Class} (p : Accepts c a) where
  pub multiple_given : (n : ℕ) → n < multiple_limit → Given c (multiple_answer c a n)
  multiple_given n l =
      let e = multiple_gives p n l in
      given e (subst (Accepts c) (sym (ap (λ (r : Result). r.class) e)) (multiple_accepts p n))

  pub halvings_given : (k : ℕ) → k ≤ halvings_limit → Given c (halvings_answer c a k)
  halvings_given k l =
      let e = halvings_give p k l in
      given e (subst (Accepts c) (sym (ap (λ (r : Result). r.class) e)) (halved_accepts p k))
