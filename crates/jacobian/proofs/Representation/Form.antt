-- Classes by value that are in form, and their pairs.
-- `coeff_u_below`, `coeff_u_top`, `coeff_u_past`, `coeff_v`: the coefficients of u and v, place by place.
-- `u_len`, `u_monic`, `v_len`: u is monic of the class's degree, and v is of lower degree.
-- `formed_reduced`: the pair is reduced where u divides v² + v + f.
-- `class_of_formed`: a value in form is the value of its pair.
-- `class_of_is_formed`: the value of a reduced class is in form.
-- `pair_class_of`: the value of a reduced class stands for that class.
use Prim.Native.Nat.{ℕ, zero, suc, ◌-◌, ◌≤◌, ◌<◌, ◌^◌}
use mathlib.Core.Path.{◌≡◌, refl, sym, ◌∙◌, ap, ap₂}
use mathlib.Core.List.{List, [], ◌∷◌, ◌++◌}
use native.Mathlib.Omega.{arith}
use native.Mathlib.Decide.{dec_le, ℕ_discrete}
use lib.ListN.{length, get_or, take, get_or-append, get_or-eq_default, length-append}
use lib.Seq.{length-take-le, get_or-take, get_or_at, ext_get_or}
use borrow.Author.Tests.{lt-ltb, le-ltb}
use Rattle.char2_algebra.specs.Lead.{Monic}
use Rattle.char2_algebra.proofs.{Degree.len_zero, Division.divides_of_rem, Lead.len_by_top, Lead.monic_by_top, Lead.monic_top, Lead.monic_nonzero}
use Rattle.class_group.specs.Curve as Theory
use Rattle.class_group.specs.Mumford.{Pair, Reduced, value}
use Rattle.row_theory.specs.{Field.degree_of, Field.K, Field.Poly, Field.F, Field.𝔸, Field.el, Row.InRange}
use Rattle.row_theory.proofs.Rows.Elements.{degree_is, el_number, el_of, el_zero, el_one}
use Rattle.row_theory.proofs.{Rows.Elements.zero_lt, Rows.Elements.one_lt, Rows.Coefficients.coeff_poly, Rows.Coefficients.row_len_le}
use Rattle.jacobian.specs.declared.Class.{Class}
use Rattle.jacobian.specs.Classes.{u_row, pair, numbers, class_of}
use Rattle.jacobian.proofs.ByValue.Checks.{ShapePasses, RangePasses}
use Rattle.binary_field_theory.specs.Element.{Accepted}

-- a class in form: a degree of at most 3, and rows of three numbers in range that are 0 from the degree on
pub record Formed (d : ℕ) (a : Class) : Type 0 where
  pub shape : ShapePasses a
  pub u_range : InRange d a.u
  pub v_range : InRange d a.v

-- ---- the row of u: the numbers below the degree, and 1
module _ (a : Class) (long : a.degree ≤ length a.u) where
  front : length (take a.degree a.u) ≡ a.degree
  front = length-take-le a.degree a.u long

  pub u_row_below : (i : ℕ) → i < a.degree → get_or (u_row a) i 0 ≡ get_or a.u i 0
  unfolding u_row
  u_row_below i h =
      let k : length (take a.degree a.u) ≡ a.degree = front in
      get_or-append (take a.degree a.u) (1 ∷ []) 0 i (omega arith) ∙ get_or-take a.degree a.u i 0 h

  pub u_row_top : get_or (u_row a) a.degree 0 ≡ 1
  unfolding u_row
  u_row_top = get_or_at (take a.degree a.u) 1 [] 0 a.degree front

  pub u_row_past : (i : ℕ) → a.degree < i → get_or (u_row a) i 0 ≡ 0
  unfolding u_row
  u_row_past i h =
      let k : length (take a.degree a.u) ≡ a.degree = front in
      get_or-eq_default (take a.degree a.u ++ 1 ∷ []) 0 (simp length-append (omega arith))

-- ---- the pair of a class
module _ (d : ℕ) (a : Class) (h : Formed d a) where
  long : a.degree ≤ length a.u
  long = let e : length a.u ≡ 3 = h.shape.u_three in omega arith

  -- the row of u is in range
  pub u_row_range : InRange d (u_row a)
  u_row_range i = at (dec_le a.degree i) (ℕ_discrete i a.degree)
    where
      at : Dec (a.degree ≤ i) → Dec (i ≡ a.degree) → get_or (u_row a) i 0 < 2 ^ degree_of d
      at (no k) _ = rw (u_row_below a long i (omega arith)) (h.u_range i)
      at (yes k) (yes e) = rw (e, u_row_top a long) (one_lt d)
      at (yes k) (no e) = rw (u_row_past a long i (omega arith)) (zero_lt d)

  pub coeff_u_below : (i : ℕ) → i < a.degree → (𝔸 d).coeff (pair d a).u i ≡ el d (get_or a.u i 0)
  unfolding pair
  coeff_u_below i k = coeff_poly d (u_row a) i ∙ ap (el d) (u_row_below a long i k)

  pub coeff_u_top : (𝔸 d).coeff (pair d a).u a.degree ≡ (F d).ring.one
  unfolding pair
  coeff_u_top = coeff_poly d (u_row a) a.degree ∙ ap (el d) (u_row_top a long) ∙ el_one d

  pub coeff_u_past : (i : ℕ) → a.degree < i → (𝔸 d).coeff (pair d a).u i ≡ (F d).ring.zero
  unfolding pair
  coeff_u_past i k = coeff_poly d (u_row a) i ∙ ap (el d) (u_row_past a long i k) ∙ el_zero d

  pub coeff_v : (i : ℕ) → (𝔸 d).coeff (pair d a).v i ≡ el d (get_or a.v i 0)
  unfolding pair
  coeff_v i = coeff_poly d a.v i

  pub u_len : (𝔸 d).len (pair d a).u ≡ suc a.degree
  u_len = len_by_top (𝔸 d) (pair d a).u a.degree coeff_u_top coeff_u_past

  pub u_monic : Monic (𝔸 d) (pair d a).u
  u_monic = monic_by_top (𝔸 d) (pair d a).u a.degree coeff_u_top coeff_u_past

  pub v_len : (𝔸 d).len (pair d a).v ≤ a.degree
  unfolding pair
  v_len = row_len_le d a.v a.degree h.shape.v_blank

  -- where u divides v² + v + f the pair is reduced
  pub formed_reduced : (C : Theory.Curve (𝔸 d)) → (𝔸 d).len ((𝔸 d).rem (value C (pair d a).v) (pair d a).u) ≡ 0 → Reduced C (pair d a)
  formed_reduced C e =
      let n : a.degree ≤ 3 = h.shape.low in
      let l : (𝔸 d).len (pair d a).u ≡ suc a.degree = u_len in
      let m : (𝔸 d).len (pair d a).v ≤ a.degree = v_len in
      record {
        u_monic = u_monic;
        u_len = omega arith;
        v_len = omega arith;
        divides = divides_of_rem (𝔸 d) (pair d a).u (monic_nonzero (𝔸 d) (pair d a).u u_monic) (value C (pair d a).v) (len_zero (𝔸 d) _ e);
      }

-- a class that passes the checks of shape and range is in form
pub passes_formed : (d : ℕ) → Accepted d → (a : Class) → ShapePasses a → RangePasses d a → Formed d a
passes_formed d ok a shape range =
    record {
      shape = shape;
      u_range = λ i. rw (degree_is d ok) (range.u_below i);
      v_range = λ i. rw (degree_is d ok) (range.v_below i);
    }

-- ---- the numbers of a polynomial
module _ (d n : ℕ) (p : Poly d) where
  numbers_length : length (numbers d n p) ≡ 3
  unfolding numbers
  numbers_length = refl

  numbers_below : (i : ℕ) → i < n → n ≤ 3 → get_or (numbers d n p) i 0 ≡ ((𝔸 d).coeff p i).0
  unfolding numbers
  numbers_below zero h k = rw (lt-ltb 0 n h)
  numbers_below (suc zero) h k = rw (lt-ltb 1 n h)
  numbers_below (suc (suc zero)) h k = rw (lt-ltb 2 n h)
  numbers_below (suc (suc (suc i))) h k = absurd (omega arith)

  numbers_past : (i : ℕ) → n ≤ i → get_or (numbers d n p) i 0 ≡ 0
  unfolding numbers
  numbers_past zero h = rw (le-ltb 0 n h)
  numbers_past (suc zero) h = rw (le-ltb 1 n h)
  numbers_past (suc (suc zero)) h = rw (le-ltb 2 n h)
  numbers_past (suc (suc (suc i))) h = refl

  numbers_range : n ≤ 3 → InRange d (numbers d n p)
  numbers_range k i = at (dec_le n i)
    where
      at : Dec (n ≤ i) → get_or (numbers d n p) i 0 < 2 ^ degree_of d
      at (yes l) = rw (numbers_past i l) (zero_lt d)
      at (no l) = rw (numbers_below i (omega arith) k) ((𝔸 d).coeff p i).1

-- ---- a formed value is that of its pair
module _ (d : ℕ) (a : Class) (h : Formed d a) where
  -- the numbers of a polynomial with a row's coefficients below the degree are the row
  row_back : (r : List ℕ) (p : Poly d) → length r ≡ 3 → InRange d r → ((i : ℕ) → a.degree ≤ i → get_or r i 0 ≡ 0)
      → ((i : ℕ) → i < a.degree → (𝔸 d).coeff p i ≡ el d (get_or r i 0)) → numbers d a.degree p ≡ r
  row_back r p l range blank same = ext_get_or 0 (numbers d a.degree p) r (numbers_length d a.degree p ∙ sym l) (λ i _. at i (dec_le a.degree i))
    where
      at : (i : ℕ) → Dec (a.degree ≤ i) → get_or (numbers d a.degree p) i 0 ≡ get_or r i 0
      at i (yes k) = numbers_past d a.degree p i k ∙ sym (blank i k)
      at i (no k) =
          numbers_below d a.degree p i (omega arith) h.shape.low
          ∙ ap (λ (e : K d). e.0) (same i (omega arith))
          ∙ el_number d (get_or r i 0) (range i)

  pub class_of_formed : class_of d (pair d a) ≡ a
  unfolding class_of
  class_of_formed =
      let D = pair d a in
      let n_is : (𝔸 d).len D.u - 1 ≡ a.degree = rw (u_len d a h) (omega arith) in
      let u_is : numbers d a.degree D.u ≡ a.u =
      row_back a.u D.u h.shape.u_three h.u_range h.shape.u_blank (coeff_u_below d a h) in
      let v_is : numbers d a.degree D.v ≡ a.v =
      row_back a.v D.v h.shape.v_three h.v_range h.shape.v_blank (λ i _. coeff_v d a h i) in
      ap (λ n. as_class n (numbers d n D.u) (numbers d n D.v)) n_is ∙ ap₂ (as_class a.degree) u_is v_is
    where
      as_class : ℕ → List ℕ → List ℕ → Class
      as_class n u v = record { degree = n; u = u; v = v }

-- ---- the value of a reduced class
module _ (d : ℕ) (C : Theory.Curve (𝔸 d)) (D : Pair (Poly d)) (h : Reduced C D) where
  degree_suc : (𝔸 d).len D.u ≡ suc ((𝔸 d).len D.u - 1)
  degree_suc = let l : (𝔸 d).len D.v < (𝔸 d).len D.u = h.v_len in omega arith

  degree_le_3 : (𝔸 d).len D.u - 1 ≤ 3
  degree_le_3 = let l : (𝔸 d).len D.u ≤ 4 = h.u_len in omega arith

  pub class_of_is_formed : Formed d (class_of d D)
  unfolding class_of
  class_of_is_formed =
      let n = (𝔸 d).len D.u - 1 in
      record {
        shape = record {
          low = degree_le_3;
          u_three = numbers_length d n D.u;
          v_three = numbers_length d n D.v;
          u_blank = numbers_past d n D.u;
          v_blank = numbers_past d n D.v;
        };
        u_range = numbers_range d n D.u degree_le_3;
        v_range = numbers_range d n D.v degree_le_3;
      }

  -- the element of each number of the value is the coefficient
  back : (p : Poly d) (i : ℕ) → i < (𝔸 d).len D.u - 1 → el d (get_or (numbers d ((𝔸 d).len D.u - 1) p) i 0) ≡ (𝔸 d).coeff p i
  back p i k = ap (el d) (numbers_below d ((𝔸 d).len D.u - 1) p i k degree_le_3) ∙ el_of d ((𝔸 d).coeff p i)

  u_back : (pair d (class_of d D)).u ≡ D.u
  unfolding class_of
  u_back = (𝔸 d).ext (pair d (class_of d D)).u D.u (λ i. at i (dec_le ((𝔸 d).len D.u - 1) i) (ℕ_discrete i ((𝔸 d).len D.u - 1)))
    where
      at : (i : ℕ) → Dec ((𝔸 d).len D.u - 1 ≤ i) → Dec (i ≡ (𝔸 d).len D.u - 1) → (𝔸 d).coeff (pair d (class_of d D)).u i ≡ (𝔸 d).coeff D.u i
      at i (no k) _ = coeff_u_below d (class_of d D) class_of_is_formed i (omega arith) ∙ back D.u i (omega arith)
      at i (yes k) (yes e) =
          ap ((𝔸 d).coeff (pair d (class_of d D)).u) e
          ∙ coeff_u_top d (class_of d D) class_of_is_formed
          ∙ sym (ap ((𝔸 d).coeff D.u) e ∙ monic_top (𝔸 d) D.u ((𝔸 d).len D.u - 1) h.u_monic degree_suc)
      at i (yes k) (no e) =
          coeff_u_past d (class_of d D) class_of_is_formed i (omega arith) ∙ sym ((𝔸 d).len_past D.u i (omega arith))

  v_back : (pair d (class_of d D)).v ≡ D.v
  unfolding class_of
  v_back = (𝔸 d).ext (pair d (class_of d D)).v D.v (λ i. coeff_v d (class_of d D) class_of_is_formed i ∙ at i (dec_le ((𝔸 d).len D.u - 1) i))
    where
      at : (i : ℕ) → Dec ((𝔸 d).len D.u - 1 ≤ i) → el d (get_or (numbers d ((𝔸 d).len D.u - 1) D.v) i 0) ≡ (𝔸 d).coeff D.v i
      at i (no k) = back D.v i (omega arith)
      at i (yes k) =
          let l : (𝔸 d).len D.v < (𝔸 d).len D.u = h.v_len in
          ap (el d) (numbers_past d ((𝔸 d).len D.u - 1) D.v i k) ∙ el_zero d ∙ sym ((𝔸 d).len_past D.v i (omega arith))

  pub pair_class_of : pair d (class_of d D) ≡ D
  pair_class_of = λ i. record { u = u_back i; v = v_back i }
