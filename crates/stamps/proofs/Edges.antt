-- The edges of a stamp, as numbers (docs/SPECIFICATION.md, 2.10 and 6): the largest is 2^(d-3) - 1.
-- `bench_within`: over the bench field stamp 3 has a class on each accepted curve, or is refused with 116.
-- `bench_above`: stamp 4 is refused with 115 there.
-- `wide_within`, `wide_above`: so are 288230376151711743 and 288230376151711744 over the field of degree 61.
-- `bench_example`: stamp 3 on a curve of our own: its first candidates 24 and 25 have no root, and 26 has 30.
use Prim.Native.Nat.{ℕ, ◌-◌, ◌^◌, ◌<◌}
use mathlib.Core.{Path.◌≡◌, Path.refl, Path.ap, Path.◌∙◌, List.[], List.◌∷◌, Logic.◌⊎◌, Logic.inl, Logic.inr}
use native.Mathlib.Omega.{arith}
use Rattle.jacobian.specs.{Checks.AllHold, Checks.FirstFails, Checking.curve_checks, Checking.ReplyOf, Curves.curve_refusal, Answer.Reply, Answer.accepted, Answer.refused, declared.Curve.Curve}
use Rattle.jacobian.specs.Checking as checking
use Rattle.jacobian.proofs.Checking.{held_refusal, curve_checked}
use Rattle.jacobian.specs.FurtherExamples.{bench_curve}
use Rattle.jacobian.proofs.Computing.{computing}
use Rattle.binary_field_theory.specs.{Element.square, Search.first, Search.earlier, Quadratic.quadratic, Quadratic.even_solution, Quadratic.even_root}
use Rattle.class_group.specs.NonSingular.{evaluate}
use Rattle.stamps.specs.Stamps.{value_at, point_class, class_at, first_class, stamp_refusal, stamped, stamp_answer, stamp_checks}
use Rattle.stamps.proofs.Theorems.{stamp_checked, stamp_too_large}

module _ (c : Curve) (ok : curve_refusal c ≡ 0) where
  -- a stamp below the bound is refused with 116 or not at all
  below : (s : ℕ) → s < 2 ^ (c.degree - 3) → ((stamp_answer c s).outcome ≡ accepted) ⊎ ((stamp_answer c s).outcome ≡ refused 116)
  below s h = elim (stamp_checked c s) [
    | checking.ReplyOf.accepts e held ↦ inl e
    | checking.ReplyOf.refuses n e fails ↦ inr (ap (λ (r : Reply). r.outcome) e ∙ ap refused (last n (held_refusal (curve_checked c) ok) fails))
  ]
    where
      last : (n : ℕ) → AllHold (curve_checks c) → FirstFails (stamp_checks c s) n → n ≡ 116
      last n k (inl f) = absurd (f.0 k.0)
      last n k (inr (_, inl f)) = absurd (f.0 k.1.0)
      last n k (inr (_, inr (_, inl f))) = absurd (f.0 h)
      last n k (inr (_, inr (_, inr (_, inl f)))) = f.1
      last n k (inr (_, inr (_, inr (_, inr f)))) = absurd f.1

  module _ (bench : c.degree ≡ 5) where
    pub bench_within : ((stamp_answer c 3).outcome ≡ accepted) ⊎ ((stamp_answer c 3).outcome ≡ refused 116)
    bench_within = below 3 (rw bench (omega arith))

    pub bench_above : (stamp_answer c 4).outcome ≡ refused 115
    bench_above = stamp_too_large c 4 ok (rw bench (omega arith))

  module _ (wide : c.degree ≡ 61) where
    pub wide_within : ((stamp_answer c 288230376151711743).outcome ≡ accepted) ⊎ ((stamp_answer c 288230376151711743).outcome ≡ refused 116)
    wide_within = below 288230376151711743 (rw wide (omega arith))

    pub wide_above : (stamp_answer c 288230376151711744).outcome ≡ refused 115
    wide_above = stamp_too_large c 288230376151711744 ok (rw wide (omega arith))

-- ---- an example

pub bench_example : stamp_answer bench_curve 3 ≡ record { outcome = accepted; class = record { degree = 1; u = 26 ∷ 0 ∷ 0 ∷ []; v = 30 ∷ 0 ∷ 0 ∷ [] }; steps = 0 }
unfolding computing stamp_answer stamp_refusal stamped first_class class_at point_class value_at evaluate first earlier even_root even_solution quadratic square
bench_example = refl
