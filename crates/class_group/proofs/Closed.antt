-- The operations give reduced classes.
-- `neutral_reduced`: the neutral class is reduced.
-- `opposite_long`: the opposite of a pair with u of degree at least 1 is [u, v + 1].
-- `opposite_short`: any other pair is its own opposite.
-- `opposite_u`: a pair and its opposite have the same u.
-- `opposite_reduced`: the opposite of a reduced class is reduced.
-- `sum_reduced`: the sum of two reduced classes is reduced.
-- `sum_steps`: it takes at most two reduction steps.
-- `double_reduced`: the double of a reduced class is reduced.
-- `double_steps`: it takes at most two reduction steps.
use Prim.Native.Nat.{ℕ, zero, suc, ◌≤◌, ◌<◌}
use mathlib.Core.Path.{◌≡◌, refl, sym}
use native.Mathlib.{Omega.arith, Decide.dec_le}
use borrow.Author.Tests.{lt-ltb, le-ltb}
use Rattle.field_laws.specs.{Field.Field2}
use Rattle.char2_algebra.specs.Polynomials.{Polynomials}
use Rattle.char2_algebra.proofs.{Degree.len_add, Degree.len_one, Degree.len_of_zero, Divides.divides_eq, Divides.one_divides, Lead.monic_one}
use Rattle.class_group.specs.Curve.{Curve}
use Rattle.class_group.specs.Mumford.{Pair, Reduced, neutral, opposite}
use Rattle.class_group.specs.Operations.{counted_sum, counted_double, sum, double}
use Rattle.class_group.proofs.SemiReduced.{value_one, Ended}
use Rattle.class_group.proofs.Composed.{compose_is, compose_double_is, composed_reduces, bezout3_combines, unit_combines}

module _ {K P : Type 0} {F : Field2 K} {A : Polynomials F P} (C : Curve A) where
  open A use {ring as R, len}
  open A.ring use {add as ◌⊞◌, zero as 𝟘, one as 𝟙}

  infixl 60 ◌⊞◌
  -- demand 2: the neutral class is reduced
  pub neutral_reduced : Reduced C (neutral C)
  unfolding neutral
  neutral_reduced =
      let h : len 𝟙 ≡ 1 = len_one A in
      let k : len 𝟘 ≡ 0 = len_of_zero A in
      record { u_monic = monic_one A; u_len = omega arith; v_len = omega arith; divides = one_divides R _ }

  pub opposite_long : (D : Pair P) → 1 < len D.u → opposite C D ≡ record { u = D.u; v = D.v ⊞ 𝟙 }
  unfolding opposite
  opposite_long D h = rw (lt-ltb 1 (len D.u) h, opposite)

  pub opposite_short : (D : Pair P) → len D.u ≤ 1 → opposite C D ≡ D
  unfolding opposite
  opposite_short D h = rw (le-ltb 1 (len D.u) h, opposite)

  pub opposite_u : (D : Pair P) → (opposite C D).u ≡ D.u
  opposite_u D = elim (dec_le (len D.u) 1) [
    | yes h ↦ rw (opposite_short D h) refl
    | no h ↦ rw (opposite_long D (omega arith)) refl
  ]

  -- demand 2: the opposite of a class is reduced
  pub opposite_reduced : {D : Pair P} → Reduced C D → Reduced C (opposite C D)
  opposite_reduced {D} r = elim (dec_le (len D.u) 1) [
    | yes h ↦ rw (opposite_short D h) r
    | no h ↦ rw (opposite_long D (omega arith)) (go (len D.u) refl (omega arith))
  ]
    where
      go : (n : ℕ) → len D.u ≡ n → 1 < len D.u → Reduced C (record { u = D.u; v = D.v ⊞ 𝟙 })
      go zero e h = absurd (omega arith)
      go (suc n) e h =
          let k : len 𝟙 ≡ 1 = len_one A in
          let m : len D.v < len D.u = r.v_len in
          let l : len (D.v ⊞ 𝟙) ≤ n = len_add A D.v 𝟙 n (omega arith) (omega arith) in
          record { u_monic = r.u_monic; u_len = r.u_len; v_len = omega arith; divides = divides_eq R (sym (value_one C D.v)) r.divides }

  sum_ended : {D E : Pair P} → Reduced C D → Reduced C E → Ended C 2 (counted_sum C D E)
  unfolding counted_sum
  sum_ended {D} {E} r s = rw (compose_is C r s) (composed_reduces C r s (bezout3_combines C D E))

  double_ended : {D : Pair P} → Reduced C D → Ended C 2 (counted_double C D)
  unfolding counted_double
  double_ended {D} r = rw (compose_double_is C r) (composed_reduces C r r (unit_combines C D))

  -- demand 2: the sum of two classes is reduced
  pub sum_reduced : {D E : Pair P} → Reduced C D → Reduced C E → Reduced C (sum C D E)
  unfolding sum
  sum_reduced r s = (sum_ended r s).reduced

  pub sum_steps : {D E : Pair P} → Reduced C D → Reduced C E → (counted_sum C D E).steps ≤ 2
  sum_steps r s = (sum_ended r s).steps_le

  -- demand 2: the double of a class is reduced
  pub double_reduced : {D : Pair P} → Reduced C D → Reduced C (double C D)
  unfolding double
  double_reduced r = (double_ended r).reduced

  pub double_steps : {D : Pair P} → Reduced C D → (counted_double C D).steps ≤ 2
  double_steps r = (double_ended r).steps_le
