-- Refusals: 0 or a listed number, and never 117.
-- `valid_unless`, `valid_or_else`: one check, and one check after another, give valid refusals.
-- `refused_valid`: a verdict of a valid refusal refuses with a listed number.
-- `above_100`: every listed number is above 100, so that no length up to 100 is one.
-- `never_117`: no valid refusal is 117.
-- `verdict_never_117`, `reply_never_117`: no valid verdict and no valid reply refuses with 117.
use Prim.Native.Nat.{ℕ, zero, suc, ◌<◌}
use mathlib.Core.{Path.◌≡◌, Path.refl, Path.sym, Path.ap, Path.subst, Bool.Bool, Bool.true, Bool.false, Bool.true≢false, Bool.false≢true, Bool.◌||◌, Bool.◌&&◌, List.List, List.[], List.◌∷◌, Logic.inl, Logic.inr}
use native.Mathlib.Omega.{arith}
use lib.Dec.{eqb, ltb}
use borrow.Author.Tests.{ltb-true, eqb-true}
use Rattle.jacobian.specs.{Checks.unless, Checks.◌or_else◌, Refusals.refusals, Refusals.listed, Refusals.IsRefusal, Refusals.ValidRefusal}
use Rattle.jacobian.specs.Answer.{Verdict, accepted, refused, verdict_of, Reply}
use Rattle.jacobian.specs.Valid.{ValidVerdict, ValidReply}
use Rattle.jacobian.specs.Valid as valid
use Rattle.jacobian.proofs.ByValue.Checks.{both}

-- ---- every number of the list is above 100
all_above : ℕ → List ℕ → Bool
all_above k [] = true
all_above k (m ∷ ms) = ltb k m && all_above k ms

second : (x y : Bool) → x ≡ false → (x || y) ≡ true → y ≡ true
second true y is e = absurd (true≢false is)
second false y is e = e

listed_above : (k n : ℕ) (ms : List ℕ) → all_above k ms ≡ true → listed n ms ≡ true → k < n
unfolding listed all_above
listed_above k n [] a e = absurd (false≢true e)
listed_above k n (m ∷ ms) a e = from (eqb n m) refl (λ is. listed_above k n ms (both (ltb k m) (all_above k ms) a).1 (second (eqb n m) (listed n ms) is e))
  where
    from : (x : Bool) → eqb n m ≡ x → (eqb n m ≡ false → k < n) → k < n
    from true is rest = subst (λ (i : ℕ). k < i) (sym (eqb-true n m is)) (ltb-true k m (both (ltb k m) (all_above k ms) a).0)
    from false is rest = rest is

pub above_100 : (n : ℕ) → IsRefusal n → 100 < n
unfolding IsRefusal refusals all_above
above_100 n e = listed_above 100 n refusals refl e

-- ---- 117 is not in the list
not_listed : ¬ IsRefusal 117
unfolding IsRefusal refusals listed
not_listed e = false≢true e

pub never_117 : (n : ℕ) → ValidRefusal n → ¬ (n ≡ 117)
unfolding ValidRefusal
never_117 n (inl z) e = omega arith
never_117 n (inr r) e = not_listed (subst IsRefusal e r)

-- ---- checks
pub valid_unless : (b : Bool) (n : ℕ) → IsRefusal n → ValidRefusal (unless b n)
unfolding ValidRefusal unless
valid_unless true n r = inl refl
valid_unless false n r = inr r

pub valid_or_else : (m n : ℕ) → ValidRefusal m → ValidRefusal n → ValidRefusal (m or_else n)
unfolding ◌or_else◌
valid_or_else zero n t u = u
valid_or_else (suc m) n t u = t

accepted_not_refused : {n : ℕ} → ◌≡◌ {A = Verdict} accepted (refused n) → ⊥
accepted_not_refused h = let z : ◌≡◌ {A = ℕ} 0 1 = cc in omega arith

number : Verdict → ℕ
number accepted = 0
number (refused n) = n

-- no valid verdict and no valid reply refuses with 117
pub verdict_never_117 : {v : Verdict} → ValidVerdict v → ¬ (v ≡ refused 117)
unfolding ValidRefusal number
verdict_never_117 valid.ValidVerdict.acceptance e = accepted_not_refused e
verdict_never_117 (valid.ValidVerdict.refusal n i) e = never_117 n (inr i) (ap number e)

pub reply_never_117 : {r : Reply} → ValidReply r → ¬ (r.outcome ≡ refused 117)
reply_never_117 (valid.ValidReply.acceptance a n) = verdict_never_117 valid.ValidVerdict.acceptance
reply_never_117 (valid.ValidReply.refusal n i) = verdict_never_117 (valid.ValidVerdict.refusal n i)

-- a verdict of a valid refusal refuses with a listed number
pub refused_valid : (m n : ℕ) → ValidRefusal m → verdict_of m ≡ refused n → IsRefusal n
unfolding ValidRefusal verdict_of number
refused_valid zero n t e = absurd (accepted_not_refused e)
refused_valid (suc m) n (inl z) e = absurd (omega arith)
refused_valid (suc m) n (inr r) e = subst IsRefusal (ap number e) r
