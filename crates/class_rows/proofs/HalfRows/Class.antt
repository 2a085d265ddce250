-- From a reduced class by rows to the rows that the halving rule requires, and from its pair to the half of the class.
use Prim.Native.Nat.{ℕ, zero, suc, ◌≤◌, ◌<◌, ◌+◌}
use mathlib.Core.{Path.◌≡◌, Path.sym, Path.◌∙◌, Path.ap, Path.subst, List.List}
use native.Mathlib.Omega.{arith}
use Rattle.char2_algebra.specs.Lead.{Monic}
use Rattle.char2_algebra.proofs.{Degree.nonzero_of_len, Division.len_quot_exact, Lead.monic_nonzero, Lead.quot_monic}
use Rattle.class_group.specs.Curve as Theory
use Rattle.class_group.specs.{Mumford.value, Mumford.neutral, Half.triple, Half.half, Half.half_by, Half.half_of_degree_1, Half.half_of_degree_2, Half.half_of_degree_3}
use Rattle.class_group.proofs.{HalfChain.value_len, HalfChain.value_monic, Adds.short_is_neutral, SemiReduced.semi_of_reduced}
use Rattle.row_theory.specs.{Field.𝔸, Field.poly, Row.Stands, Row.row_len, internal.Halving.HalvingRows, internal.Halving.rows_triple}
use Rattle.class_rows.specs.{Pair.StandsPair, Pair.rows_pair, Core.OnCurve, Core.ReducedRows, internal.Cofactor.CofactorRow, declared.row.RowPair.RowPair}
use Rattle.class_rows.proofs.{DoubleRows.reduced_len, ReductionRows.stands_pair_eq, ReductionRows.reduced_on}

-- a reduced class that is not neutral: w is its cofactor, n the length of u
pub record NonNeutral (d : ℕ) (f : List ℕ) (a : RowPair) (w : List ℕ) (n : ℕ) : Type 0 where
  pub reduced : ReducedRows d f a
  pub cofactor : CofactorRow d f a w
  pub length_is : n ≡ row_len d a.u
  pub more : 1 < n
  pub short : n ≤ 4

pub non_neutral : (d : ℕ) {f : List ℕ} {a : RowPair} {w : List ℕ} {n : ℕ} → ReducedRows d f a → CofactorRow d f a w → n ≡ row_len d a.u → 1 < n → NonNeutral d f a w n
non_neutral d h w e m = record { reduced = h; cofactor = w; length_is = e; more = m; short = omega (arith, e, (reduced_len d h).0) }

module _ (d : ℕ) {f : List ℕ} {a : RowPair} where
  -- the neutral class is its own half
  pub half_neutral : {n : ℕ} {r : RowPair}
      → ReducedRows d f a
      → n ≡ row_len d a.u
      → n ≤ 1
      → Stands d r.u (𝔸 d).ring.one
      → Stands d r.v (𝔸 d).ring.zero
      → (C : Theory.Curve (𝔸 d))
      → OnCurve d f C
      → StandsPair d r (half C (rows_pair d a))
  unfolding half half_by neutral rows_pair
  half_neutral {n} h e l su sv C on =
      stands_pair_eq d (sym (subst (λ m. half_by C m (rows_pair d a) ≡ neutral C) e (go n l))) (record { u_stands = su; v_stands = sv })
    where
      short : rows_pair d a ≡ neutral C
      short = short_is_neutral C (semi_of_reduced C (reduced_on d h on)) (omega arith)

      go : (n : ℕ) → n ≤ 1 → half_by C n (rows_pair d a) ≡ neutral C
      go zero l = short
      go (suc zero) l = short
      go (suc (suc n)) l = absurd (omega arith)

  module _ {w : List ℕ} {n : ℕ} (c : NonNeutral d f a w n) where
    abbrev E : Theory.Curve (𝔸 d)
    E = c.reduced.C

    w_is : Stands d w ((𝔸 d).quot (value E (poly d a.v)) (poly d a.u))
    w_is = c.cofactor E c.reduced.on_curve

    u_monic : Monic (𝔸 d) (poly d a.u)
    unfolding rows_pair
    u_monic = c.reduced.reduced.u_monic

    v_short : row_len d a.v ≤ 4
    v_short = omega (arith, (reduced_len d c.reduced).0, (reduced_len d c.reduced).1)

    w_monic : Monic (𝔸 d) (poly d w)
    unfolding rows_pair
    w_monic = subst (Monic (𝔸 d)) (sym w_is.stands) (quot_monic (𝔸 d) _ _ (value_monic E (poly d a.v) v_short) u_monic c.reduced.reduced.divides)

    w_len : row_len d w + row_len d a.u ≡ 9
    unfolding rows_pair
    w_len =
        ap (λ p. (𝔸 d).len p + row_len d a.u) w_is.stands
        ∙ sym (len_quot_exact (𝔸 d) (poly d a.u) (monic_nonzero (𝔸 d) _ u_monic) _ (nonzero_of_len (𝔸 d) _ (omega (arith, value_len E (poly d a.v) v_short))) c.reduced.reduced.divides)
        ∙ ap suc (value_len E (poly d a.v) v_short)

    -- the rows that the halving rule requires
    pub halving_rows : (m : ℕ) → n ≡ m → HalvingRows d m a.u a.v w
    halving_rows m e =
        record {
          u_range = c.reduced.u_range;
          v_range = c.reduced.v_range;
          w_range = w_is.in_range;
          u_monic = u_monic;
          w_monic = w_monic;
          u_len = sym c.length_is ∙ e;
          v_len = omega (arith, (reduced_len d c.reduced).1, c.length_is);
          w_len = omega (arith, w_len, c.length_is);
        }

    -- its result is the half on every curve of f
    module _ (C : Theory.Curve (𝔸 d)) (o : OnCurve d f C) where
      triple_path : rows_triple d a.u a.v w ≡ triple C (rows_pair d a)
      unfolding triple rows_pair rows_triple
      triple_path j = record { u = poly d a.u; v = poly d a.v; w = (c.cofactor C o).stands j }

      by_length : (m : ℕ) → n ≡ m → half_by C m (rows_pair d a) ≡ half C (rows_pair d a)
      unfolding half rows_pair
      by_length m e = ap (λ l. half_by C l (rows_pair d a)) (sym e ∙ c.length_is)

      pub half_1 : {r : RowPair} → n ≡ 2 → StandsPair d r (half_of_degree_1 (𝔸 d) (rows_triple d a.u a.v w)) → StandsPair d r (half C (rows_pair d a))
      unfolding half_by
      half_1 e = stands_pair_eq d (ap (half_of_degree_1 (𝔸 d)) triple_path ∙ by_length 2 e)

      pub half_2 : {r : RowPair} → n ≡ 3 → StandsPair d r (half_of_degree_2 (𝔸 d) (rows_triple d a.u a.v w)) → StandsPair d r (half C (rows_pair d a))
      unfolding half_by
      half_2 e = stands_pair_eq d (ap (half_of_degree_2 (𝔸 d)) triple_path ∙ by_length 3 e)

      pub half_3 : {r : RowPair} → n ≡ 4 → StandsPair d r (half_of_degree_3 (𝔸 d) (rows_triple d a.u a.v w)) → StandsPair d r (half C (rows_pair d a))
      unfolding half_by
      half_3 e = stands_pair_eq d (ap (half_of_degree_3 (𝔸 d)) triple_path ∙ by_length 4 e)
