-- The edges of degree and coefficients, as numbers (docs/SPECIFICATION.md, 6).
-- `bench_within`: over the bench field a curve with every coefficient 31 is accepted.
-- `bench_f3`: one with 32 as f3 is refused with 107, whatever the others are.
-- `wide_within`: over the field of degree 61 a curve with every coefficient 2305843009213693951 is accepted.
-- `wide_f3`: one with 2305843009213693952 as f3 is refused with 107, whatever the others are.
-- `degree_62`: a curve of degree 62 is refused with 106, whatever its coefficients are.
use Prim.Native.Nat.{ℕ, ◌<◌, ◌^◌}
use mathlib.Core.{Path.◌≡◌, Path.refl, Path.ap, List.[], List.◌∷◌, Logic.◌⊎◌, Logic.inl, Logic.inr}
use native.Mathlib.Omega.{arith}
use Rattle.lists.specs.Lists.{none, more}
use Rattle.jacobian.specs.{Checks.FirstFails, Curves.coefficients, Checking.Below, Checking.curve_checks, Answer.accepted, Answer.refused, Answer.verdict_of, Answer.curve_answer, declared.Curve.Curve}
use Rattle.jacobian.proofs.{Checking.refusal_number, Checking.curve_checked, Acceptance.curve_accepted_iff}

-- ---- the number with which a curve is refused

curve_refused : (c : Curve) (n : ℕ) → FirstFails (curve_checks c) n → curve_answer c ≡ verdict_of n
unfolding curve_answer
curve_refused c n h = ap verdict_of (refusal_number n (curve_checked c) h)

three_below : {m x y z : ℕ} → Below m (x ∷ y ∷ z ∷ []) → (x < m) × (y < m) × (z < m)
three_below (more h (more k (more l none))) = (h, k, l)

too_large : (c : Curve) → (c.degree ≡ 5) ⊎ (c.degree ≡ 61) → (Below (2 ^ c.degree) (c.f3 ∷ c.f1 ∷ c.f0 ∷ []) → ⊥) → curve_answer c ≡ refused 107
unfolding coefficients verdict_of
too_large c d h = curve_refused c 107 (inr (d, inl (h, refl)))

-- ---- the bench field

pub bench_within : curve_answer (record { degree = 5; f3 = 31; f1 = 31; f0 = 31 }) ≡ accepted
bench_within = (curve_accepted_iff _).1 (inl refl, omega arith, omega arith, omega arith)

pub bench_f3 : (f1 f0 : ℕ) → curve_answer (record { degree = 5; f3 = 32; f1 = f1; f0 = f0 }) ≡ refused 107
bench_f3 f1 f0 = too_large _ (inl refl) (λ h. omega (arith, (three_below h).0))

-- ---- the field of degree 61

pub wide_within : curve_answer (record { degree = 61; f3 = 2305843009213693951; f1 = 2305843009213693951; f0 = 2305843009213693951 }) ≡ accepted
wide_within = (curve_accepted_iff _).1 (inr refl, omega arith, omega arith, omega arith)

pub wide_f3 : (f1 f0 : ℕ) → curve_answer (record { degree = 61; f3 = 2305843009213693952; f1 = f1; f0 = f0 }) ≡ refused 107
wide_f3 f1 f0 = too_large _ (inr refl) (λ h. omega (arith, (three_below h).0))

-- ---- other degrees

other_degree : (c : Curve) → ¬ (c.degree ≡ 5) → ¬ (c.degree ≡ 61) → curve_answer c ≡ refused 106
unfolding verdict_of
other_degree c h k = curve_refused c 106 (inl (neither, refl))
  where
    neither : (c.degree ≡ 5) ⊎ (c.degree ≡ 61) → ⊥
    neither (inl e) = h e
    neither (inr e) = k e

module _ (f3 f1 f0 : ℕ) where
  pub degree_62 : curve_answer (record { degree = 62; f3 = f3; f1 = f1; f0 = f0 }) ≡ refused 106
  degree_62 = other_degree _ (λ e. omega arith) (λ e. omega arith)
