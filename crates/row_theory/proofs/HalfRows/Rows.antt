-- The rows of k2 x² + k1 x + k0 and of m2 x⁴ + m1 x² + m0, written out.
use Prim.Native.Nat.{ℕ, zero, suc, ◌+◌, ◌≤◌, ◌<◌, ◌^◌}
use mathlib.Core.{Path.◌≡◌, Path.sym, Path.◌∙◌, Path.ap, Path.ap₂, Path.subst, List.List, List.[], List.◌∷◌, List.map}
use native.Mathlib.Omega.{arith}
use Rattle.char2_algebra.proofs.{Ring.⊞_𝟘, Ring.·_𝟘, Degree.con_of_zero}
use Rattle.polynomial_lists.proofs.OfList.{of_nil, of_cons}
use Rattle.class_group.specs.{Half.quadratic}
use Rattle.row_theory.specs.{Field.degree_of, Field.K, Field.F, Field.Poly, Field.𝔸, Field.el, Field.poly, Row.InRange, Row.Stands, Row.row_len}
use Rattle.row_theory.specs.internal.Halving.{even_quartic}
use Rattle.row_theory.proofs.{Rows.Elements.el_zero, Rows.Elements.zero_lt, Rows.Coefficients.stands_eq}
use Rattle.row_theory.proofs.HalfRows.Squares.{quadratic_len, quartic_len}

module _ (d : ℕ) where
  open (𝔸 d).ring use {add as ◌⊞◌, mul as ◌·◌, zero as 𝟘}

  infixl 60 ◌⊞◌
  infixl 70 ◌·◌
  range_nil : InRange d []
  range_nil i = zero_lt d

  range_cons : (n : ℕ) (r : List ℕ) → n < 2 ^ degree_of d → InRange d r → InRange d (n ∷ r)
  range_cons n r h k zero = h
  range_cons n r h k (suc i) = k i

  -- the polynomial of a row is that of its first number and of the rest
  poly_cons : (n : ℕ) (r : List ℕ) → poly d (n ∷ r) ≡ (𝔸 d).con (el d n) ⊞ (𝔸 d).x · poly d r
  unfolding 𝔸 poly
  poly_cons n r = of_cons (F d) (el d n) (map (el d) r)

  pub cons_stands : {n : ℕ} {r : List ℕ} {p : Poly d} → n < 2 ^ degree_of d → Stands d r p → Stands d (n ∷ r) ((𝔸 d).con (el d n) ⊞ (𝔸 d).x · p)
  cons_stands {n} {r} h s =
      record {
        in_range = range_cons n r h s.in_range;
        stands = poly_cons n r ∙ ap (λ z. (𝔸 d).con (el d n) ⊞ (𝔸 d).x · z) s.stands;
      }

  nil_stands : Stands d [] 𝟘
  unfolding 𝔸 poly
  nil_stands = record { in_range = range_nil; stands = of_nil (F d) }

  con_zero : (𝔸 d).con (el d 0) ≡ 𝟘
  con_zero = ap (𝔸 d).con (el_zero d) ∙ con_of_zero (𝔸 d)

  -- a 0 before a row: x times its polynomial
  pub zero_stands : {r : List ℕ} {p : Poly d} → Stands d r p → Stands d (0 ∷ r) ((𝔸 d).x · p)
  zero_stands {r} {p} s =
      stands_eq d (ap (λ z. z ⊞ (𝔸 d).x · p) con_zero ∙ (𝔸 d).ring.add_comm 𝟘 _ ∙ ⊞_𝟘 (𝔸 d).ring _) (cons_stands (zero_lt d) s)

  pub blank_stands : {r : List ℕ} → Stands d r 𝟘 → Stands d (0 ∷ r) 𝟘
  blank_stands s = stands_eq d (·_𝟘 (𝔸 d).ring _) (zero_stands s)

  pub last_stands : {n : ℕ} {r : List ℕ} → n < 2 ^ degree_of d → Stands d r 𝟘 → Stands d (n ∷ r) ((𝔸 d).con (el d n))
  last_stands {n} h s = stands_eq d (ap (λ z. (𝔸 d).con (el d n) ⊞ z) (·_𝟘 (𝔸 d).ring _) ∙ ⊞_𝟘 (𝔸 d).ring _) (cons_stands h s)

  pub seven_zeros : Stands d (0 ∷ 0 ∷ 0 ∷ 0 ∷ 0 ∷ 0 ∷ 0 ∷ []) 𝟘
  seven_zeros = blank_stands (blank_stands (blank_stands (blank_stands (blank_stands (blank_stands (blank_stands nil_stands))))))

  module _ (a b c : ℕ) (ha : a < 2 ^ degree_of d) (hb : b < 2 ^ degree_of d) (hc : c < 2 ^ degree_of d) where
    pub quadratic_stands : Stands d (c ∷ b ∷ a ∷ 0 ∷ 0 ∷ 0 ∷ 0 ∷ 0 ∷ 0 ∷ 0 ∷ 0 ∷ 0 ∷ []) (quadratic (𝔸 d) (el d a) (el d b) (el d c))
    unfolding quadratic
    quadratic_stands = cons_stands hc (cons_stands hb (last_stands ha (blank_stands (blank_stands seven_zeros))))

    pub quartic_stands : Stands d (c ∷ 0 ∷ b ∷ 0 ∷ a ∷ 0 ∷ 0 ∷ 0 ∷ 0 ∷ 0 ∷ 0 ∷ 0 ∷ []) (even_quartic (𝔸 d) (el d a) (el d b) (el d c))
    unfolding even_quartic
    quartic_stands = cons_stands hc (zero_stands (cons_stands hb (zero_stands (last_stands ha seven_zeros))))

  -- p + 1
  pub exchanged_stands :
      (p : Poly d) {s one o : List ℕ}
      → Stands d s p
      → Stands d one (𝔸 d).ring.one
      → Stands d o (poly d s ⊞ poly d one)
      → Stands d o (p ⊞ (𝔸 d).ring.one)
  exchanged_stands p hs h1 = stands_eq d (ap₂ ◌⊞◌ hs.stands h1.stands)

  -- a product with a short row fits
  row_short : {r : List ℕ} (p : Poly d) (n : ℕ) → (𝔸 d).len p ≤ n → Stands d r p → row_len d r ≤ n
  row_short p n h s = subst (λ z. (𝔸 d).len z ≤ n) (sym s.stands) h

  pub quadratic_fits : {k : List ℕ} (a b c : K d) (u : List ℕ) → Stands d k (quadratic (𝔸 d) a b c) → row_len d u ≤ 5 → row_len d k + row_len d u ≤ 13
  quadratic_fits a b c u s h = omega (arith, row_short (quadratic (𝔸 d) a b c) 3 (quadratic_len (𝔸 d) a b c) s)

  pub quartic_fits : {m : List ℕ} (a b c : K d) (u : List ℕ) → Stands d m (even_quartic (𝔸 d) a b c) → row_len d u ≤ 5 → row_len d m + row_len d u ≤ 13
  quartic_fits a b c u s h = omega (arith, row_short (even_quartic (𝔸 d) a b c) 5 (quartic_len (𝔸 d) a b c) s)
