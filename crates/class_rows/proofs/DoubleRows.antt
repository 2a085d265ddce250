-- The composition of a double by rows, and its cofactor: what the functions of a double require of each other, and what
-- they promise.
use Prim.Native.Nat.{ℕ, suc, ◌+◌, ◌≤◌, ◌<◌}
use mathlib.Core.{Path.◌≡◌, Path.sym, Path.◌∙◌, Path.ap, Path.ap₂, Path.subst, List.List}
use native.Mathlib.Omega.{arith}
use Rattle.class_group.specs.Curve as Theory
use Rattle.class_group.specs.{Mumford.value, Composition.compose_double, Reduction.reduce, Operations.counted_double}
use Rattle.class_group.proofs.{SemiReduced.semi_of_reduced, Composed.compose_double_semi, Composed.compose_double_len}
use Rattle.row_theory.specs.{Field.𝔸, Field.poly, Row.Stands, Row.row_len}
use Rattle.class_rows.specs.{Pair.StandsPair, Pair.rows_pair, Core.OnCurve, Core.ReducedRows, Core.StandsCounted}
use Rattle.class_rows.specs.internal.Cofactor.{CofactorRow, SemiReducedRows, SquaredRows}
use Rattle.row_theory.proofs.ReductionSteps.{square_nonzero, square_len, double_cofactor, cofactor_short, quotient_short}
use Rattle.class_rows.specs.declared.{row.RowPair.RowPair, reduction.CountedRows.CountedRows, reduction.Squared.Squared}
use Rattle.class_rows.proofs.ReductionRows.{pair_eq, reduced_on, semi_rows}

module _ (d : ℕ) where
  open 𝔸 d use {len, quot, rem}
  open (𝔸 d).ring use {add as ◌⊞◌, mul as ◌·◌, zero as 𝟘}

  infixl 60 ◌⊞◌
  infixl 70 ◌·◌
  module _ {f : List ℕ} {a : RowPair} (r : ReducedRows d f a) where
    pub reduced_len : (row_len d a.u ≤ 4) × (row_len d a.v < row_len d a.u)
    unfolding rows_pair
    reduced_len = (r.reduced.u_len, r.reduced.v_len)

    pub reduced_semi : SemiReducedRows d f a
    unfolding rows_pair
    reduced_semi =
        let s = semi_of_reduced r.C r.reduced in
        let l = reduced_len in
        record {
          C = r.C;
          on_curve = r.on_curve;
          u_range = r.u_range;
          v_range = r.v_range;
          u_monic = s.u_monic;
          u_len = omega arith;
          v_len = s.v_len;
          divides = s.divides;
        }

    -- u² and the division by it
    pub squared_nonzero : {s : List ℕ} → Stands d s (poly d a.u · poly d a.u) → ¬ (poly d s ≡ 𝟘)
    unfolding rows_pair
    squared_nonzero s e = square_nonzero r.C r.reduced (sym s.stands ∙ e)

  pub squared : {f : List ℕ} (a : RowPair) {s t n q o : List ℕ}
      → Stands d s (poly d a.u · poly d a.u)
      → Stands d t (poly d a.v · poly d a.v)
      → Stands d n (poly d t ⊞ poly d f)
      → Stands d q (quot (poly d n) (poly d s)) × Stands d o (rem (poly d n) (poly d s))
      → SquaredRows d f a (record { pair = record { u = s; v = o }; quotient = q })
  squared {f} a s t n p =
      let e = n.stands ∙ ap (λ z. z ⊞ poly d f) t.stands in
      record {
        u_stands = s;
        v_stands = record { in_range = p.1.in_range; stands = p.1.stands ∙ ap₂ rem e s.stands };
        quotient_stands = record { in_range = p.0.in_range; stands = p.0.stands ∙ ap₂ quot e s.stands };
      }

  module _ {f : List ℕ} {a : RowPair} {s : Squared} (r : ReducedRows d f a) (S : SquaredRows d f a s) where
    pub squared_len : suc (row_len d s.pair.u) ≡ row_len d a.u + row_len d a.u
    unfolding rows_pair
    squared_len = ap (λ z. suc (len z)) S.u_stands.stands ∙ square_len r.C r.reduced

    pub squared_pair : {C : Theory.Curve (𝔸 d)} → OnCurve d f C → StandsPair d s.pair (compose_double C (rows_pair d a))
    unfolding compose_double rows_pair
    squared_pair on = record {
      u_stands = S.u_stands;
      v_stands = record {
        in_range = S.v_stands.in_range;
        stands = S.v_stands.stands ∙ ap (λ z. rem (poly d a.v · poly d a.v ⊞ z) (poly d a.u · poly d a.u)) on.is_f;
      };
    }

    pub squared_semi : SemiReducedRows d f s.pair
    squared_semi = semi_rows d r.on_curve (compose_double_semi r.C r.reduced) (compose_double_len r.C r.reduced) (squared_pair r.on_curve)

    pub double_counted : {c : CountedRows}
        → ((C : Theory.Curve (𝔸 d)) → OnCurve d f C → StandsCounted d c (reduce C (rows_pair d s.pair)))
        → (C : Theory.Curve (𝔸 d)) → OnCurve d f C → StandsCounted d c (counted_double C (rows_pair d a))
    unfolding counted_double
    double_counted {c} h C on = subst (λ D. StandsCounted d c (reduce C D)) (pair_eq d (squared_pair on)) (h C on)

    -- the quotient of v² + f by u², on every curve of f
    quotient_on : {C : Theory.Curve (𝔸 d)} → OnCurve d f C
        → poly d s.quotient ≡ quot (poly d a.v · poly d a.v ⊞ C.f) (poly d a.u · poly d a.u)
    quotient_on on =
        S.quotient_stands.stands ∙ ap (λ z. quot (poly d a.v · poly d a.v ⊞ z) (poly d a.u · poly d a.u)) on.is_f

    -- the squares fit a row for u of degree 2 or 3
    module _ (h : 2 < row_len d a.u) where
      pub cofactor_fits : {w : List ℕ} → CofactorRow d f a w → row_len d w ≤ 6
      unfolding rows_pair
      cofactor_fits w = subst (λ z. len z ≤ 6) (sym (w r.C r.on_curve).stands) (cofactor_short r.C r.reduced h)

      pub quotient_fits : row_len d s.quotient ≤ 6
      unfolding rows_pair
      quotient_fits = subst (λ z. len z ≤ 6) (sym (quotient_on r.on_curve)) (quotient_short r.C r.reduced h).0

      pub product_fits : {p : List ℕ} → Stands d p (poly d s.quotient · poly d s.quotient) → row_len d p + row_len d s.pair.u ≤ 13
      unfolding rows_pair
      product_fits p =
          let e = quotient_on r.on_curve in
          subst (λ z. z ≤ 13) (sym (ap₂ (λ y z. len y + len z) (p.stands ∙ ap₂ ◌·◌ e e) S.u_stands.stands)) (quotient_short r.C r.reduced h).1

    -- the cofactor of the composed pair: w² + q + q² u²
    pub squared_cofactor : {w e p m t o : List ℕ}
        → CofactorRow d f a w
        → Stands d e (poly d w · poly d w)
        → Stands d p (poly d s.quotient · poly d s.quotient)
        → Stands d m (poly d p · poly d s.pair.u)
        → Stands d t (poly d e ⊞ poly d s.quotient)
        → Stands d o (poly d t ⊞ poly d m)
        → CofactorRow d f s.pair o
    unfolding rows_pair compose_double
    squared_cofactor w e p m t o C on =
        let k = (w C on).stands in
        let q = quotient_on on in
        let u = S.u_stands.stands in
        record {
          in_range = o.in_range;
          stands =
              o.stands
              ∙ ap₂ ◌⊞◌ (t.stands ∙ ap₂ ◌⊞◌ (e.stands ∙ ap₂ ◌·◌ k k) q) (m.stands ∙ ap₂ ◌·◌ (p.stands ∙ ap₂ ◌·◌ q q) u)
              ∙ sym (double_cofactor C (reduced_on d r on))
              ∙ sym (ap₂ quot (ap (value C) (squared_pair on).v_stands.stands) u);
        }
