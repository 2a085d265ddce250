-- Euclid's extended rule on rows.
-- `zero_rows`: the rows where b is 0. `blank_rows`: those where a and b are 0.
-- `constant_rows`: the rows where b is another constant.
-- `step_rows`: the rows of a and b from those of b and the remainder.
-- `remainder_less`, `quotient_le`: the remainder is shorter than b, and the quotient no longer than a.
use Prim.Native.Nat.{ℕ, max, ◌≤◌, ◌<◌}
use mathlib.Core.{Path.◌≡◌, Path.sym, Path.ap, Path.subst, List.List}
use native.Mathlib.Omega.{arith}
use Rattle.char2_algebra.specs.{Lead.lead, Euclid.IsBezout}
use Rattle.char2_algebra.proofs.{Degree.len_of_zero, Degree.len_zero, Degree.len_con_le, Division.len_quot_le}
use Rattle.char2_algebra.proofs.Euclid.{bezout_scaled_is, bezout_zeros_is, bezout_constant_is, bezout_step_is, len_substituted}
use Rattle.row_theory.specs.{Field.Poly, Field.𝔸, Field.el, Field.poly, internal.Elements.Inverts, Row.Stands, Row.row_len, internal.Bezout.BezoutRows}
use Rattle.row_theory.proofs.Rows.{Coefficients.self_stands, Coefficients.stands_eq, Coefficients.stands_len, Constants.zero_stands}

module _ (d : ℕ) where
  -- rows that stand for Bezout coefficients
  bezout_rows : (a b : List ℕ) {g' s' t' : List ℕ} (g s t : Poly d) → Stands d g' g → Stands d s' s → Stands d t' t
      → IsBezout (𝔸 d) (poly d a) (poly d b) (record { g = g; s = s; t = t }) → (𝔸 d).len s ≤ max 1 (row_len d b) → (𝔸 d).len t ≤ max 1 (row_len d a)
      → BezoutRows d a b g' s' t'
  bezout_rows a b g s t G S T i l m = record {
    g_range = G.in_range;
    s_range = S.in_range;
    t_range = T.in_range;
    bezout = subst (IsBezout (𝔸 d) (poly d a) (poly d b)) (λ j. record { g = sym G.stands j; s = sym S.stands j; t = sym T.stands j }) i;
    s_len = let e = stands_len d S in omega (arith, l, e);
    t_len = let e = stands_len d T in omega (arith, m, e);
  }

  -- where b is 0 and a is not: a made monic
  pub zero_rows : (a : List ℕ) {c : ℕ} {g s t : List ℕ} → Inverts d c (lead (𝔸 d) (poly d a)) → Stands d g ((𝔸 d).ring.mul ((𝔸 d).con (el d c)) (poly d a))
      → Stands d s ((𝔸 d).con (el d c)) → Stands d t ((𝔸 d).con (el d 0)) → (b : List ℕ) → row_len d b ≡ 0 → BezoutRows d a b g s t
  zero_rows a {c} C G S T b e =
      let l : (𝔸 d).len ((𝔸 d).con (el d c)) ≤ 1 = len_con_le (𝔸 d) _ in
      let m : (𝔸 d).len (𝔸 d).ring.zero ≡ 0 = len_of_zero (𝔸 d) in
      bezout_rows a b _ _ _ G S (zero_stands d T)
      (bezout_scaled_is (𝔸 d) (poly d a) (poly d b) (el d c) C.unit (len_zero (𝔸 d) (poly d b) e)) (omega arith) (omega arith)

  -- where a and b are 0: 0
  pub blank_rows : (a : List ℕ) {z : List ℕ} → Stands d z ((𝔸 d).con (el d 0)) → row_len d a ≡ 0 → (b : List ℕ) → row_len d b ≡ 0
      → BezoutRows d a b z z z
  blank_rows a Z h b e =
      let Z' = zero_stands d Z in
      let m : (𝔸 d).len (𝔸 d).ring.zero ≡ 0 = len_of_zero (𝔸 d) in
      bezout_rows a b _ _ _ Z' Z' Z' (bezout_zeros_is (𝔸 d) (poly d a) (poly d b) (len_zero (𝔸 d) (poly d a) h) (len_zero (𝔸 d) (poly d b) e)) (omega arith) (omega arith)

  -- where b is another constant: 1
  pub constant_rows : (b : List ℕ) {c : ℕ} {g s t : List ℕ} → row_len d b ≡ 1 → Inverts d c (lead (𝔸 d) (poly d b))
      → Stands d g (𝔸 d).ring.one → Stands d s ((𝔸 d).con (el d 0)) → Stands d t ((𝔸 d).con (el d c)) → (a : List ℕ) → BezoutRows d a b g s t
  constant_rows b {c} e C G S T a =
      let l : (𝔸 d).len ((𝔸 d).con (el d c)) ≤ 1 = len_con_le (𝔸 d) _ in
      let m : (𝔸 d).len (𝔸 d).ring.zero ≡ 0 = len_of_zero (𝔸 d) in
      bezout_rows a b _ _ _ G (zero_stands d S) T (bezout_constant_is (𝔸 d) (poly d a) (poly d b) (el d c) e C.unit) (omega arith) (omega arith)

  -- one step back, from the remainder r of a by b
  module _ (a b : List ℕ) {q r : List ℕ} (h : ¬ (poly d b ≡ (𝔸 d).ring.zero)) (Q : Stands d q ((𝔸 d).quot (poly d a) (poly d b))) (R : Stands d r ((𝔸 d).rem (poly d a) (poly d b))) where
    pub remainder_less : row_len d r < row_len d b
    remainder_less = omega (arith, stands_len d R, (𝔸 d).rem_len (poly d a) (poly d b) h)

    pub quotient_le : row_len d q ≤ row_len d a
    quotient_le = omega (arith, stands_len d Q, len_quot_le (𝔸 d) (poly d a) (poly d b) h)

    -- from g = s b + t r, g = t a + (s + t q) b
    pub step_rows : {g s t t' : List ℕ} → BezoutRows d b r g s t → Stands d t' ((𝔸 d).ring.add (poly d s) ((𝔸 d).ring.mul (poly d t) (poly d q))) → BezoutRows d a b g t t'
    step_rows {g} {s} {t} B T =
        let i : IsBezout (𝔸 d) (poly d b) ((𝔸 d).rem (poly d a) (poly d b)) (record { g = poly d g; s = poly d s; t = poly d t }) =
        subst (λ z. IsBezout (𝔸 d) (poly d b) z (record { g = poly d g; s = poly d s; t = poly d t })) R.stands B.bezout in
        let l : row_len d s ≤ max 1 ((𝔸 d).len ((𝔸 d).rem (poly d a) (poly d b))) = (let e = stands_len d R in omega (arith, e, B.s_len)) in
        bezout_rows a b (poly d g) (poly d t) _
        (self_stands d g B.g_range)
        (self_stands d t B.t_range)
        (stands_eq d (ap (λ z. (𝔸 d).ring.add (poly d s) ((𝔸 d).ring.mul (poly d t) z)) Q.stands) T)
        (bezout_step_is (𝔸 d) (poly d a) (poly d b) _ h i)
        B.t_len
        (len_substituted (𝔸 d) (poly d a) (poly d b) (poly d s) (poly d t) h l B.t_len)
