-- Rows that stand for semi-reduced pairs: what the functions of a reduction require of each other and promise, from the
-- promises of the functions on rows.
use Prim.Native.Nat.{ℕ, ◌≤◌, ◌<◌}
use mathlib.Core.{Path.◌≡◌, Path.refl, Path.sym, Path.◌∙◌, Path.ap, Path.ap₂, Path.subst, List.List}
use native.Mathlib.Omega.{arith}
use Rattle.char2_algebra.specs.{Lead.monic_of}
use Rattle.char2_algebra.proofs.Divides.{divides_eq}
use Rattle.class_group.specs.Curve as Theory
use Rattle.class_group.specs.{Mumford.Pair, Mumford.Reduced, Mumford.value, Reduction.reduction_step, Reduction.reduce}
use Rattle.class_group.proofs.SemiReduced.{SemiReduced, cofactor_nonzero, step_semi, step_len}
use Rattle.row_theory.specs.{Field.𝔸, Field.Poly, Field.poly, Row.InRange, Row.Stands, Row.row_len}
use Rattle.row_theory.proofs.Rows.Coefficients.{self_stands, stands_eq}
use Rattle.row_theory.proofs.ReductionSteps.{reduce_none, reduce_once, reduce_twice}
use Rattle.class_rows.specs.{Pair.StandsPair, Pair.rows_pair, Core.OnCurve, Core.ReducedRows, Core.StandsCounted}
use Rattle.class_rows.specs.{internal.Cofactor.CofactorRow, internal.Cofactor.SemiReducedRows, declared.row.RowPair.RowPair}

-- the row of v² + v + f stands for the value of v on a curve of f
pub value_stands :
    (d : ℕ) (v : List ℕ) {f r : List ℕ} {C : Theory.Curve (𝔸 d)} → OnCurve d f C
    → Stands d r ((𝔸 d).ring.add ((𝔸 d).ring.add ((𝔸 d).ring.mul (poly d v) (poly d v)) (poly d v)) (poly d f))
    → poly d r ≡ value C (poly d v)
unfolding value
value_stands d v on s = s.stands ∙ ap ((𝔸 d).ring.add _) on.is_f

module _ (d : ℕ) where
  open 𝔸 d use {ring as R, len, quot, rem}
  open (𝔸 d).ring use {add as ◌⊞◌, mul as ◌·◌, zero as 𝟘}

  infixl 60 ◌⊞◌
  infixl 70 ◌·◌
  -- the pair of two rows is the pair that they stand for
  pub pair_eq : {b : RowPair} {D : Pair (Poly d)} → StandsPair d b D → rows_pair d b ≡ D
  unfolding rows_pair
  pair_eq t = λ i. record { u = t.u_stands.stands i; v = t.v_stands.stands i }

  pub stands_pair_eq : {r : RowPair} {D E : Pair (Poly d)} → D ≡ E → StandsPair d r D → StandsPair d r E
  stands_pair_eq e s = record { u_stands = stands_eq d (ap (λ D. D.u) e) s.u_stands; v_stands = stands_eq d (ap (λ D. D.v) e) s.v_stands }

  pub pair_stands : {u v : List ℕ} {D : Pair (Poly d)} → InRange d u → InRange d v → record { u = poly d u; v = poly d v } ≡ D → StandsPair d (record { u = u; v = v }) D
  pair_stands hu hv e = stands_pair_eq e (record { u_stands = self_stands d _ hu; v_stands = self_stands d _ hv })

  -- the rows b are one reduction step after the rows a
  abbrev pub Stepped : List ℕ → RowPair → RowPair → Type 0
  Stepped f a b = (C : Theory.Curve (𝔸 d)) → OnCurve d f C → StandsPair d b (reduction_step C (rows_pair d a))

  module _ {f : List ℕ} where
    -- v² + v + f is the same on every curve of f
    same_value : {C E : Theory.Curve (𝔸 d)} → OnCurve d f C → OnCurve d f E → (v : Poly d) → value C v ≡ value E v
    unfolding value
    same_value c e v = ap (λ z. v · v ⊞ v ⊞ z) (sym c.is_f ∙ e.is_f)

    -- rows that stand for a reduced class of the curve of f are reduced rows
    pub reduced_rows : {b : RowPair} {C : Theory.Curve (𝔸 d)} {D : Pair (Poly d)} → OnCurve d f C → Reduced C D → StandsPair d b D → ReducedRows d f b
    reduced_rows {C = C} on r t =
        record {
          C = C;
          on_curve = on;
          u_range = t.u_stands.in_range;
          v_range = t.v_stands.in_range;
          reduced = subst (Reduced C) (sym (pair_eq t)) r;
        }

    -- the pair is semi-reduced on every curve of f
    pub semi_on : {a : RowPair} → SemiReducedRows d f a → {C : Theory.Curve (𝔸 d)} → OnCurve d f C → SemiReduced C (rows_pair d a)
    unfolding rows_pair
    semi_on {a} s c = record { u_monic = s.u_monic; v_len = s.v_len; divides = divides_eq R (same_value s.on_curve c (poly d a.v)) s.divides }

    -- the pair is reduced on every curve of f
    pub reduced_on : {a : RowPair} → ReducedRows d f a → {C : Theory.Curve (𝔸 d)} → OnCurve d f C → Reduced C (rows_pair d a)
    unfolding rows_pair
    reduced_on {a} s c =
        let r = s.reduced in
        record { u_monic = r.u_monic; u_len = r.u_len; v_len = r.v_len; divides = divides_eq R (same_value s.on_curve c (poly d a.v)) r.divides }

    -- rows that stand for a semi-reduced pair of degree at most 6 are semi-reduced rows
    pub semi_rows : {b : RowPair} {D : Pair (Poly d)} {C : Theory.Curve (𝔸 d)}
        → OnCurve d f C → SemiReduced C D → len D.u ≤ 7 → StandsPair d b D → SemiReducedRows d f b
    unfolding rows_pair
    semi_rows {b} {D} {C} on s h t =
        let r : SemiReduced C (rows_pair d b) = subst (SemiReduced C) (sym (pair_eq t)) s in
        record {
          C = C;
          on_curve = on;
          u_range = t.u_stands.in_range;
          v_range = t.v_stands.in_range;
          u_monic = r.u_monic;
          u_len = subst (λ z. len z ≤ 7) (sym t.u_stands.stands) h;
          v_len = r.v_len;
          divides = r.divides;
        }

    -- the cofactor of a pair: w = (v² + v + f) / u
    pub cofactor_row : (a : RowPair) {n w : List ℕ}
        → Stands d n (poly d a.v · poly d a.v ⊞ poly d a.v ⊞ poly d f)
        → Stands d w (quot (poly d n) (poly d a.u))
        → CofactorRow d f a w
    cofactor_row a n w C on = stands_eq d (ap (λ z. quot z (poly d a.u)) (value_stands d a.v on n)) w

    pub cofactor_row_nonzero : {a : RowPair} {w : List ℕ} → SemiReducedRows d f a → CofactorRow d f a w → ¬ (poly d w ≡ 𝟘)
    unfolding rows_pair
    cofactor_row_nonzero s w e = cofactor_nonzero s.C (semi_on s s.on_curve) (sym (w s.C s.on_curve).stands ∙ e)

    -- a reduction step
    pub step_rows : (a : RowPair) {w n e o r : List ℕ}
        → CofactorRow d f a w
        → Stands d n (monic_of (𝔸 d) (poly d w))
        → Stands d e (𝔸 d).ring.one
        → Stands d o (poly d a.v ⊞ poly d e)
        → Stands d r (rem (poly d o) (poly d n))
        → Stepped f a (record { u = n; v = r })
    unfolding reduction_step rows_pair
    step_rows a w n e o r C on =
        let u : poly d _ ≡ monic_of (𝔸 d) (quot (value C (poly d a.v)) (poly d a.u)) = n.stands ∙ ap (monic_of (𝔸 d)) (w C on).stands in
        record {
          u_stands = record { in_range = n.in_range; stands = u };
          v_stands = record {
            in_range = r.in_range;
            stands = r.stands ∙ ap₂ rem (o.stands ∙ ap (λ z. poly d a.v ⊞ z) e.stands) u;
          };
        }

    -- a reduction step leads to rows of a semi-reduced pair
    pub exchanged_rows : {a b : RowPair} → SemiReducedRows d f a → 4 < row_len d a.u → Stepped f a b → SemiReducedRows d f b
    unfolding rows_pair
    exchanged_rows {a} s h t =
        let r = semi_on s s.on_curve in
        let k : len (reduction_step s.C (rows_pair d a)).u ≤ 5 = (step_len s.C r h s.u_len).0 in
        semi_rows s.on_curve (step_semi s.C r) (omega arith) (t s.C s.on_curve)

    -- the reduction of rows with no step, one step and two steps
    pub none_counted : {a : RowPair} → SemiReducedRows d f a → row_len d a.u ≤ 4 → (C : Theory.Curve (𝔸 d)) → OnCurve d f C
        → StandsCounted d (record { pair = a; steps = 0 }) (reduce C (rows_pair d a))
    unfolding rows_pair
    none_counted {a} s h C on =
        let t : StandsPair d a (rows_pair d a) = record {
          u_stands = record { in_range = s.u_range; stands = refl };
          v_stands = record { in_range = s.v_range; stands = refl };
        } in
        subst (StandsCounted d _) (sym (reduce_none C (rows_pair d a) h)) (record { pair_stands = t; steps_is = refl })

    pub once_counted : {a b : RowPair} → SemiReducedRows d f a → 4 < row_len d a.u → Stepped f a b → row_len d b.u ≤ 4
        → (C : Theory.Curve (𝔸 d)) → OnCurve d f C → StandsCounted d (record { pair = b; steps = 1 }) (reduce C (rows_pair d a))
    unfolding rows_pair
    once_counted {a} s h t k C on =
        let n = subst (λ z. len z ≤ 4) (t C on).u_stands.stands k in
        subst (StandsCounted d _) (sym (reduce_once C (rows_pair d a) h n)) (record { pair_stands = t C on; steps_is = refl })

    pub twice_counted : {a b e : RowPair} → SemiReducedRows d f a → 4 < row_len d a.u → Stepped f a b → 4 < row_len d b.u → Stepped f b e
        → (C : Theory.Curve (𝔸 d)) → OnCurve d f C → StandsCounted d (record { pair = e; steps = 2 }) (reduce C (rows_pair d a))
    unfolding rows_pair
    twice_counted {a} {e = e} s h t k m C on =
        let n = subst (λ z. 4 < len z) (t C on).u_stands.stands k in
        let p = subst (λ D. StandsPair d e (reduction_step C D)) (pair_eq (t C on)) (m C on) in
        subst (StandsCounted d _) (sym (reduce_twice C (rows_pair d a) (semi_on s on) s.u_len h n)) (record { pair_stands = p; steps_is = refl })
