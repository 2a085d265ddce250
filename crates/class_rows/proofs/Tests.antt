-- The tests that `is_divisor` is made of: what each shows where it is true, and that it is true where that holds.
-- `shown`: rows of which `is_divisor` is true have twelve numbers each, and are a divisor of the curve of f.
-- `divisor_iff`: of rows of twelve numbers it is true exactly where the degree is 5 or 61, f is monic of degree 7, and
-- the rows are a reduced class of its curve.
use Prim.Native.Nat.{ℕ, zero, suc, ◌-◌, ◌≤◌, ◌<◌, ◌^◌}
use mathlib.Core.{Path.◌≡◌, Path.refl, Path.sym, Path.◌∙◌, Path.ap, Path.subst, Bool.Bool, Bool.true, Bool.false, Bool.◌&&◌, List.List, List.[], List.◌∷◌, Logic.◌↔◌}
use native.Mathlib.Omega.{arith}
use Rattle.std.specs.Prelude.{Some, None, IsTrue, EachIndex}
use Rattle.std.proofs.lemmas.Option.{same_Some, none-some}
use lib.{Dec.T, Dec.eqb, Dec.ltb, ListN.length, ListN.get_or}
use borrow.Author.Tests.{eqb-true, eq-eqb, ltb-true, lt-ltb, leb-true, le-leb}
use Rattle.binary_field_theory.specs.Element.{is_degree, Accepted}
use Rattle.binary_field.specs.Answer.{below, bound}
use Rattle.char2_algebra.specs.Lead.{Monic}
use Rattle.class_group.specs.Coefficients.{monic_7, curve_of}
use Rattle.row_theory.specs.{Field.𝔸, Field.el, Field.poly, Row.InRange, Row.Stands, Row.places, Row.row_len}
use Rattle.row_theory.proofs.Rows.{Elements.degree_is, Elements.zero_lt, Elements.el_one, Coefficients.coeff_poly, Coefficients.poly_is, Length.places_past, Length.places_len}
use Rattle.class_rows.specs.{Core.OnCurve, Checked.is_row, Checked.is_monic, Checked.is_curve, Checked.is_pair, Checked.row_curve, Checked.divides, Checked.is_divisor}
use Rattle.class_rows.specs.{internal.Check.Decides, Core.Divisor, internal.Check.FormedPair, internal.Check.CheckedRows, internal.Cofactor.CofactorRow, declared.row.RowPair.RowPair}
use Rattle.class_rows.proofs.{CheckRows.same_answer, CheckRows.bound_is, CheckRows.below_range, CheckRows.monic_decides, CheckRows.formed_divisor, CheckRows.remainder_decides, CheckRows.division_decides, ReductionRows.cofactor_row}

-- ---- two tests, and those of a row
pub both : (x y : Bool) → (x && y) ≡ true → (x ≡ true) × (y ≡ true)
both true y e = (refl, e)
both false true e = (e, refl)
both false false e = (e, e)

pub below_at : (m : ℕ) (r : List ℕ) → 0 < m → below m r ≡ true → (i : ℕ) → get_or r i 0 < m
unfolding below
below_at m [] h e i = h
below_at m (n ∷ r) h e zero = ltb-true n m (both (ltb n m) (below m r) e).0
below_at m (n ∷ r) h e (suc i) = below_at m r h (both (ltb n m) (below m r) e).1 i

pub below_all : (m : ℕ) (r : List ℕ) → ((j : ℕ) → j < length r → get_or r j 0 < m) → below m r ≡ true
unfolding below
below_all m [] h = refl
below_all m (n ∷ r) h = rw (lt-ltb n m (h 0 (omega arith))) (below_all m r (λ j k. h (suc j) (omega arith)))

accepted_test : (d : ℕ) → is_degree d ≡ true → Accepted d
accepted_test d e = subst T (sym e) tt

test_accepted : (d : ℕ) → Accepted d → is_degree d ≡ true
test_accepted d = go (is_degree d)
  where
    go : (b : Bool) → T b → b ≡ true
    go true t = refl
    go false t = absurd t

-- a row of twelve elements
record Twelve (d : ℕ) (r : List ℕ) : Type 0 where
  size : length r ≡ 12
  range : InRange d r

module _ {d : ℕ} (ok : Accepted d) where
  row_shown : {r : List ℕ} → is_row d r ≡ true → Twelve d r
  unfolding is_row
  row_shown {r} e =
      let h = both _ _ e in
      record { size = eqb-true _ _ h.0; range = λ i. rw (degree_is d ok) (below_at (2 ^ d) r (rw (degree_is d ok) at (zero_lt d)) h.1 i) }

  row_test : {r : List ℕ} → Twelve d r → is_row d r ≡ true
  unfolding is_row
  row_test {r} h = rw (eq-eqb _ 12 h.size, below_all (2 ^ d) r (λ j _. rw (degree_is d ok) at (h.range j)))

  monic_test : {r : List ℕ} → Twelve d r → ¬ (places r ≡ 0) → Decides (is_monic r) (Monic (𝔸 d) (poly d r))
  unfolding is_monic
  monic_test {r} h n = monic_decides d r h.size h.range (places_len r refl d h.range) n

-- ---- the curve of f
module _ (d : ℕ) (f : List ℕ) where
  abbrev monic_row : List ℕ
  monic_row = get_or f 0 0 ∷ get_or f 1 0 ∷ get_or f 2 0 ∷ get_or f 3 0 ∷ get_or f 4 0 ∷ get_or f 5 0 ∷ get_or f 6 0 ∷ 1 ∷ []

  same_numbers : places f ≡ 8 → get_or f 7 0 ≡ 1 → (i : ℕ) → get_or f i 0 ≡ get_or monic_row i 0
  same_numbers n o zero = refl
  same_numbers n o (suc zero) = refl
  same_numbers n o (suc (suc zero)) = refl
  same_numbers n o (suc (suc (suc zero))) = refl
  same_numbers n o (suc (suc (suc (suc zero)))) = refl
  same_numbers n o (suc (suc (suc (suc (suc zero))))) = refl
  same_numbers n o (suc (suc (suc (suc (suc (suc zero)))))) = refl
  same_numbers n o (suc (suc (suc (suc (suc (suc (suc zero))))))) = o
  same_numbers n o (suc (suc (suc (suc (suc (suc (suc (suc i)))))))) = places_past f _ (omega arith)

  monic_row_is : poly d monic_row ≡ (row_curve d f).f
  unfolding row_curve curve_of monic_7 poly
  monic_row_is = simp (el_one d)

  curve_is : places f ≡ 8 → get_or f 7 0 ≡ 1 → poly d f ≡ (row_curve d f).f
  curve_is n o = poly_is d f (poly d monic_row) (λ i. ap (el d) (same_numbers n o i) ∙ sym (coeff_poly d monic_row i)) ∙ monic_row_is

  module _ (ok : Accepted d) where
    pub curve_shown : is_curve d f ≡ true → (length f ≡ 12) × OnCurve d f (row_curve d f)
    unfolding is_curve is_monic
    curve_shown e =
        let h = both _ _ e in
        let k = both _ _ h.0 in
        let row = row_shown ok k.0 in
        let n : places f ≡ 8 = eqb-true _ _ k.1 in
        let o : get_or f (places f - 1) 0 ≡ 1 = eqb-true _ _ h.1 in
        (row.size, record { in_range = row.range; is_f = curve_is n (ap (λ k. get_or f (k - 1) 0) (sym n) ∙ o) })

    curve_test : length f ≡ 12 → {C : _} → OnCurve d f C → is_curve d f ≡ true
    unfolding is_curve
    curve_test e {C} on =
        let row : Twelve d f = record { size = e; range = on.in_range } in
        let n : places f ≡ 8 = places_len f refl d on.in_range ∙ ap (𝔸 d).len on.is_f ∙ C.f_len in
        rw (row_test ok row, eq-eqb (places f) 8 n, (monic_test ok row (λ z. omega arith)).1 (subst (Monic (𝔸 d)) (sym on.is_f) C.f_monic))

-- ---- the pair
module _ {d : ℕ} {a : RowPair} (ok : Accepted d) where
  pub pair_shown : is_pair d a ≡ true → (length a.u ≡ 12) × (length a.v ≡ 12) × FormedPair d a
  unfolding is_pair
  pair_shown e =
      let h = both _ _ e in
      let k = both _ _ h.0 in
      let l = both _ _ k.0 in
      let m = both _ _ l.0 in
      let u = row_shown ok m.0 in
      let v = row_shown ok m.1 in
      let u_is = places_len a.u refl d u.range in
      let v_is = places_len a.v refl d v.range in
      let low : places a.u ≤ 4 = leb-true _ _ l.1 in
      let short : places a.v < places a.u = ltb-true _ _ k.1 in (
        u.size,
        v.size,
        record {
          u_range = u.range;
          v_range = v.range;
          u_monic = (monic_test ok u (λ z. omega arith)).0 h.1;
          u_len = omega arith;
          v_len = omega arith;
        },
      )

  pair_test : length a.u ≡ 12 → length a.v ≡ 12 → FormedPair d a → is_pair d a ≡ true
  unfolding is_pair
  pair_test us vs p =
      let u : Twelve d a.u = record { size = us; range = p.u_range } in
      let v : Twelve d a.v = record { size = vs; range = p.v_range } in
      let u_is = places_len a.u refl d p.u_range in
      let v_is = places_len a.v refl d p.v_range in
      let low : row_len d a.u ≤ 4 = p.u_len in
      let short : row_len d a.v < row_len d a.u = p.v_len in
      rw (
        row_test ok u,
        row_test ok v,
        le-leb (places a.u) 4 (omega arith),
        lt-ltb (places a.v) (places a.u) (omega arith),
        (monic_test ok u (λ z. omega arith)).1 p.u_monic,
      )

-- the test of each number shows that a row is one of elements
pub row_answer : (d : ℕ) (r : List ℕ) (t : Bool) → Accepted d → length r ≡ 12 → IsTrue t ↔ EachIndex r (λ i. get_or r i 0 < bound d) → t ≡ is_row d r
row_answer d r t ok size h =
    let e = bound_is d ok refl in
    same_answer t (is_row d r) h (
      λ k i _. subst (λ m. get_or r i 0 < m) (sym e) ((row_shown ok k).range i),
      λ k. row_test ok (record { size = size; range = below_range d {i = 12} (record { at = λ j l. subst (λ m. get_or r j 0 < m) e (k j (omega arith)) }) (omega arith) size }),
    )

-- the tests of f
pub curve_formed : (d : ℕ) (f : List ℕ) {n : ℕ} → is_row d f ≡ true → n ≡ places f → n ≡ 8 → get_or f 7 0 ≡ 1 → is_curve d f ≡ true
unfolding is_curve is_monic
curve_formed d f r e n o = let p : places f ≡ 8 = sym e ∙ n in rw (r, p, o)

pub curve_parts : (d : ℕ) (f : List ℕ) → is_curve d f ≡ true → (is_row d f ≡ true) × (places f ≡ 8) × (get_or f 7 0 ≡ 1)
unfolding is_curve is_monic
curve_parts d f e =
    let h = both _ _ e in
    let k = both _ _ h.0 in
    let n : places f ≡ 8 = eqb-true _ _ k.1 in
    let o : get_or f (places f - 1) 0 ≡ 1 = eqb-true _ _ h.1 in
    (k.0, n, ap (λ k. get_or f (k - 1) 0) (sym n) ∙ o)

-- ---- the rows
-- two rows of twelve numbers
pub record Sized (a : RowPair) : Type 0 where
  pub u_size : length a.u ≡ 12
  pub v_size : length a.v ≡ 12

-- a pair of the code has rows of twelve numbers
pub sized : (a : RowPair) → length a.u ≡ 12 → length a.v ≡ 12 → Sized a
sized a u v = record { u_size = u; v_size = v }

-- rows of which the check is true
pub record Shown (d : ℕ) (f : List ℕ) (a : RowPair) : Type 0 where
  pub f_size : length f ≡ 12
  pub sized : Sized a
  pub on : OnCurve d f (row_curve d f)
  pub divisor : Divisor d f a

module _ {d : ℕ} {f : List ℕ} {a : RowPair} where
  divides_decides : Accepted d → OnCurve d f (row_curve d f) → FormedPair d a → Decides (divides d f a) (Divisor d f a)
  unfolding divides
  divides_decides ok on p = remainder_decides (record { degree = ok; curve = (row_curve d f, on); pair = p }) refl

  pub shown : is_divisor d f a ≡ true → Shown d f a
  unfolding is_divisor
  shown e =
      let h = both _ _ e in
      let k = both _ _ h.0 in
      let l = both _ _ k.0 in
      let ok = accepted_test d l.0 in
      let c = curve_shown d f ok l.1 in
      let p = pair_shown ok k.1 in
      record { f_size = c.0; sized = record { u_size = p.0; v_size = p.1 }; on = c.1; divisor = (divides_decides ok c.1 p.2).0 h.1 }

  pub test : length f ≡ 12 → Sized a → Divisor d f a → is_divisor d f a ≡ true
  unfolding is_divisor
  test fs s D =
      let h = formed_divisor D in
      let ok = D.degree in
      let curve = curve_test d f ok fs h.curve.1 in
      rw (test_accepted d ok, curve, pair_test ok s.u_size s.v_size h.pair, (divides_decides ok (curve_shown d f ok curve).1 h.pair).1 D)

  pub test_decides : length f ≡ 12 → Sized a → Decides (is_divisor d f a) (Divisor d f a)
  test_decides fs s = (λ e. (shown e).divisor, test fs s)

pub divisor_iff : (d : ℕ) (f : List ℕ) (a : RowPair) → length f ≡ 12 → length a.u ≡ 12 → length a.v ≡ 12 → (is_divisor d f a ≡ true) ↔ Divisor d f a
divisor_iff d f a size u v = test_decides size (record { u_size = u; v_size = v })

-- ---- the cofactor of a divisor
is_false : (t : Bool) → ¬ (t ≡ true) → t ≡ false
is_false true h = absurd (h refl)
is_false false h = refl

pub no_curve : (d : ℕ) (f : List ℕ) (a : RowPair) → ¬ ((is_degree d && is_curve d f) ≡ true) → is_divisor d f a ≡ false
unfolding is_divisor
no_curve d f a h = rw (is_false (is_degree d && is_curve d f) h)

module _ {d : ℕ} {f : List ℕ} {a : RowPair} where
  module _ (ok : Accepted d) (curve : is_curve d f ≡ true) where
    pub no_pair : is_pair d a ≡ false → CheckedRows d f a None
    unfolding is_divisor
    no_pair e = record { decides = rw (test_accepted d ok, curve, e); cofactor = λ w n. absurd (none-some _ n) }

    module _ (pair : is_pair d a ≡ true) {l rest : List ℕ} {n : ℕ}
        (value : Stands d l ((𝔸 d).ring.add ((𝔸 d).ring.add ((𝔸 d).ring.mul (poly d a.v) (poly d a.v)) (poly d a.v)) (poly d f)))
        (R : Stands d rest ((𝔸 d).rem (poly d l) (poly d a.u)))
        (len : n ≡ places rest) where
      decided : Decides (eqb n 0) (Divisor d f a)
      decided =
          division_decides (record { degree = ok; curve = (row_curve d f, (curve_shown d f ok curve).1); pair = (pair_shown ok pair).2 }) value R (places_len rest len d R.in_range)

      pub divided : {q : List ℕ} → n ≡ 0 → Stands d q ((𝔸 d).quot (poly d l) (poly d a.u)) → CheckedRows d f a (Some q)
      divided e Q =
          let c = curve_shown d f ok curve in
          let p = pair_shown ok pair in
          record {
            decides = sym (test c.0 (record { u_size = p.0; v_size = p.1 }) (decided.0 (eq-eqb n 0 e)));
            cofactor = λ w s. subst (CofactorRow d f a) (same_Some _ _ s) (cofactor_row d a value Q);
          }

      pub undivided : ¬ (n ≡ 0) → CheckedRows d f a None
      undivided h =
          record {
            decides = sym (is_false (is_divisor d f a) (λ e. h (eqb-true n 0 (decided.1 (shown {d = d} {f = f} {a = a} e).divisor))));
            cofactor = λ w s. absurd (none-some _ s);
          }
