-- A curve or class that passes every check is not refused: the converse of ByValue/Checks.antt.
use Prim.Native.Nat.{ℕ, zero, suc}
use mathlib.Core.Path.{◌≡◌, refl, sym}
use mathlib.Core.Bool.{Bool, true, false, true≢false}
use borrow.Author.Tests.{le-leb, eq-eqb}
use Rattle.jacobian.specs.Checks.{unless, ◌or_else◌}
use Rattle.jacobian.specs.declared.Curve.{Curve}
use Rattle.jacobian.specs.declared.Class.{Class}
use Rattle.jacobian.specs.Classes.{padded, shape_refusal, range_refusal, class_refusal}
use Rattle.jacobian.proofs.ByValue.{Checks.ClassPasses, Below.below_all, Below.from_blank}

pub zero_then : (m n : ℕ) → m ≡ 0 → n ≡ 0 → m or_else n ≡ 0
unfolding ◌or_else◌
zero_then zero n e f = f
zero_then (suc m) n e f = e

zero_unless : (b : Bool) (n : ℕ) → b ≡ true → unless b n ≡ 0
unfolding unless
zero_unless true n e = refl
zero_unless false n e = absurd (true≢false (sym e))

pub passes_unrefused : (c : Curve) (a : Class) → ClassPasses c a → class_refusal c a ≡ 0
unfolding class_refusal shape_refusal range_refusal padded
passes_unrefused c a p =
    zero_then _ _ (zero_unless _ 104
    (rw (
      le-leb a.degree 3 p.shape.low,
      eq-eqb _ 3 p.shape.u_three,
      eq-eqb _ 3 p.shape.v_three,
      from_blank a.degree a.u p.shape.u_blank,
      from_blank a.degree a.v p.shape.v_blank,
    )))
    (zero_then _ _ (zero_unless _ 110 (rw (below_all _ a.u (λ i _. p.range.u_below i), below_all _ a.v (λ i _. p.range.v_below i)))) (zero_unless _ 111 (eq-eqb _ 0 p.divides)))
