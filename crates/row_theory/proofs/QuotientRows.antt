-- The quotient alone, coefficient by coefficient.
-- `Partial`, `partial_start`, `partial_turn`, `partial_end`: a coefficient of a product, by partial sums.
-- `Divided`, `divided_start`, `divided_turn`, `divided_end`: the quotient from the top down to k. From x^k on a + q b
-- has no coefficient, and q has none below k less the degree of b.
use Prim.Native.Nat.{ℕ, zero, suc, ◌+◌, ◌-◌, ◌≤◌, ◌<◌}
use mathlib.Core.{Path.◌≡◌, Path.refl, Path.sym, Path.◌∙◌, Path.ap, Path.ap₂, List.List}
use native.Mathlib.{Omega.arith, Decide.dec_le, Decide.ℕ_discrete}
use lib.{ListN.length, ListN.get_or, ListN.set, ListN.replicate, ListN.length-set, Seq.get_or-set_other}
use Rattle.field_laws.specs.{Field.Field2}
use Rattle.char2_algebra.specs.{Polynomials.Polynomials, Lead.Monic, Square.tail}
use Rattle.char2_algebra.proofs.Ring.{ring2, ⊞_𝟘, 𝟘_⊞, 𝟘_·, ·_𝟘, ·_𝟙}
use Rattle.char2_algebra.proofs.{Degree.coeff_zero, Degree.coeff_tail, Degree.len_bound, Product.coeff_mul_zero, Product.coeff_mul_suc, Division.quot_is, Lead.monic_top}
use Rattle.row_theory.specs.{Field.K, Field.F, Field.Poly, Field.𝔸, Field.el, Field.poly, internal.Elements.Is, Row.InRange, Row.Stands, Row.row_len, internal.Elements.x_power}
use Rattle.row_theory.proofs.{Rows.Elements.el_zero, Rows.Elements.zero_is, Rows.Elements.is_eq, Rows.Coefficients.coeff_poly, Rows.Fill.range_set}
use Rattle.row_theory.proofs.{Rows.Fill.zeros_at, Rows.Fill.zeros_range, Rows.Fill.zeros_poly, Rows.Shift.coeff_shift, Rows.Shift.coeff_shift_past}
use Rattle.row_theory.proofs.Rows.Shift.{monomial_at, monomial_off, poly_set_zero}

-- a coefficient of a product depends on no higher coefficient of a factor
module _ {K P : Type 0} {F : Field2 K} (A : Polynomials F P) where
  open A use {ring, coeff}

  pub coeff_mul_low : (k : ℕ) (p q b : P) → ((i : ℕ) → i ≤ k → coeff p i ≡ coeff q i) → coeff (ring.mul p b) k ≡ coeff (ring.mul q b) k
  coeff_mul_low zero p q b h =
      coeff_mul_zero A p b ∙ ap (λ z. F.ring.mul z (coeff b 0)) (h 0 (omega arith)) ∙ sym (coeff_mul_zero A q b)
  coeff_mul_low (suc k) p q b h =
      coeff_mul_suc A p b k
      ∙ ap₂ F.ring.add (ap (λ z. F.ring.mul z (coeff b (suc k))) (h 0 (omega arith))) (coeff_mul_low k (tail A p) (tail A q) b lower)
      ∙ sym (coeff_mul_suc A q b k)
    where
      lower : (i : ℕ) → i ≤ k → coeff (tail A p) i ≡ coeff (tail A q) i
      lower i m = coeff_tail A p i ∙ h (suc i) (omega arith) ∙ sym (coeff_tail A q i)

module _ (d : ℕ) where
  open 𝔸 d use {ring as R, coeff, con, len, quot}
  open (𝔸 d).ring use {add as ◌⊞◌, mul as ◌·◌, zero as 𝟘}
  open (F d).ring use {add as ◌⊞ₖ◌, mul as ◌·ₖ◌, zero as 𝟘ₖ}

  infixl 60 ◌⊞◌
  infixl 70 ◌·◌
  infixl 60 ◌⊞ₖ◌
  infixl 70 ◌·ₖ◌
  -- the sum of the terms of q b at x^k that come from the coefficients of q below j
  pub record Partial (q b : List ℕ) (k j sum : ℕ) : Type 0 where
    pub part : Poly d
    pub below : (i : ℕ) → i < j → coeff part i ≡ coeff (poly d q) i
    pub above : (i : ℕ) → j ≤ i → coeff part i ≡ 𝟘ₖ
    pub sum_is : Is d sum (coeff (part · poly d b) k)

  pub partial_start : {q b : List ℕ} {k j : ℕ} → ((i : ℕ) → i < j → get_or q i 0 ≡ 0) → Partial q b k j 0
  partial_start {q} {b} {k} z =
      record {
        part = 𝟘;
        below = λ i h. coeff_zero (𝔸 d) i ∙ sym (coeff_poly d q i ∙ ap (el d) (z i h) ∙ el_zero d);
        above = λ i h. coeff_zero (𝔸 d) i;
        sum_is = is_eq d (sym (ap (λ z. coeff z k) (𝟘_· R (poly d b)) ∙ coeff_zero (𝔸 d) k)) (zero_is d);
      }

  pub partial_turn : {q b : List ℕ} {k j sum t s : ℕ}
      → Partial q b k j sum
      → j ≤ k
      → Is d t (el d (get_or q j 0) ·ₖ el d (get_or b (k - j) 0))
      → Is d s (el d sum ⊞ₖ el d t)
      → Partial q b k (j + 1) s
  partial_turn {q} {b} {k} {j} {sum} {t} p h t_is s_is =
      record { part = next; below = λ i m. lower i m (ℕ_discrete i j); above = upper; sum_is = is_eq d value s_is }
    where
      a : K d
      a = el d (get_or q j 0)

      next : Poly d
      next = p.part ⊞ con a · x_power d j

      at_other : (i : ℕ) → ¬ (i ≡ j) → coeff next i ≡ coeff p.part i
      at_other i n = (𝔸 d).coeff_add _ _ i ∙ ap (λ z. coeff p.part i ⊞ₖ z) (monomial_off d a j i n) ∙ ⊞_𝟘 (F d).ring _

      lower : (i : ℕ) → i < j + 1 → Dec (i ≡ j) → coeff next i ≡ coeff (poly d q) i
      lower i m (yes e) =
          rw e ((𝔸 d).coeff_add _ _ j ∙ ap₂ ◌⊞ₖ◌ (p.above j (omega arith)) (monomial_at d a j) ∙ 𝟘_⊞ (F d).ring a ∙ sym (coeff_poly d q j))
      lower i m (no n) = at_other i n ∙ p.below i (omega arith)

      upper : (i : ℕ) → j + 1 ≤ i → coeff next i ≡ 𝟘ₖ
      upper i m = at_other i (λ e. absurd (omega arith)) ∙ p.above i (omega arith)

      regroup : (p c x b : Poly d) → p · b ⊞ c · (x · b) ≡ (p ⊞ c · x) · b
      regroup p c x b = simp (ring2, R)

      at_k : coeff (x_power d j · poly d b) k ≡ el d (get_or b (k - j) 0)
      at_k = let e : k ≡ j + (k - j) = omega arith in ap (coeff (x_power d j · poly d b)) e ∙ coeff_shift d j (k - j) (poly d b) ∙ coeff_poly d b (k - j)

      value : el d sum ⊞ₖ el d t ≡ coeff (next · poly d b) k
      value =
          ap₂ ◌⊞ₖ◌ p.sum_is.stands (t_is.stands ∙ ap (λ z. a ·ₖ z) (sym at_k) ∙ sym ((𝔸 d).coeff_con_mul a (x_power d j · poly d b) k))
          ∙ sym ((𝔸 d).coeff_add _ _ k)
          ∙ ap (λ z. coeff z k) (regroup p.part (con a) (x_power d j) (poly d b))

  pub partial_end : {q b : List ℕ} {k j sum : ℕ} → Partial q b k j sum → k < j → Is d sum (coeff (poly d q · poly d b) k)
  partial_end {q} {b} {k} {j} p h = is_eq d (coeff_mul_low (𝔸 d) k p.part (poly d q) (poly d b) (λ i m. p.below i (omega arith))) p.sum_is

  -- the quotient of a by b, of degree top, down to k
  pub record Divided (a b q : List ℕ) (top k : ℕ) : Type 0 where
    pub size : length q ≡ 12
    pub range : InRange d q
    pub blank : (i : ℕ) → i + top < k → get_or q i 0 ≡ 0
    pub clear : (i : ℕ) → k ≤ i → coeff (poly d a ⊞ poly d q · poly d b) i ≡ 𝟘ₖ

  pub divided_start : {a b : List ℕ} {top k : ℕ} → k ≡ row_len d a → Divided a b (replicate 12 0) top k
  divided_start {a} {b} e = record { size = refl; range = zeros_range d 12; blank = λ i h. zeros_at 12 i; clear = λ i h. at i (omega arith) }
    where
      at : (i : ℕ) → row_len d a ≤ i → coeff (poly d a ⊞ poly d (replicate 12 0) · poly d b) i ≡ 𝟘ₖ
      at i h =
          ap (λ z. coeff z i) (ap (λ z. poly d a ⊞ z) (ap (λ z. z · poly d b) (zeros_poly d 12) ∙ 𝟘_· R (poly d b)) ∙ ⊞_𝟘 R (poly d a))
          ∙ (𝔸 d).len_past (poly d a) i h

  pub divided_turn : {a b q : List ℕ} {top k p c : ℕ}
      → Divided a b q top k
      → top < k
      → k ≤ 12
      → Monic (𝔸 d) (poly d b)
      → row_len d b ≡ suc top
      → Is d p (coeff (poly d q · poly d b) (k - 1))
      → Is d c (el d (get_or a (k - 1) 0) ⊞ₖ el d p)
      → Divided a b (set q (k - 1 - top) c) top (k - 1)
  divided_turn {a} {b} {q} {top} {k} {p} {c} D h m monic e p_is c_is =
      record {
        size = length-set q (k - 1 - top) c ∙ D.size;
        range = range_set d q (k - 1 - top) c (let z : length q ≡ 12 = D.size in omega arith) D.range c_is.in_range;
        blank = λ i n. get_or-set_other q (k - 1 - top) i c 0 (λ w. absurd (omega arith)) ∙ D.blank i (omega arith);
        clear = λ i n. next i ∙ clear i n (dec_le k i);
      }
    where
      s : ℕ
      s = k - 1 - top

      regroup : (a q c x b : Poly d) → a ⊞ (q ⊞ c · x) · b ≡ a ⊞ q · b ⊞ c · (x · b)
      regroup a q c x b = simp (ring2, R)

      -- the new coefficient adds c x^s b
      next : (i : ℕ) → coeff (poly d a ⊞ poly d (set q s c) · poly d b) i ≡ coeff (poly d a ⊞ poly d q · poly d b) i ⊞ₖ el d c ·ₖ coeff (x_power d s · poly d b) i
      next i =
          let z : length q ≡ 12 = D.size in
          ap
          (λ z. coeff z i)
          (ap (λ z. poly d a ⊞ z · poly d b) (poly_set_zero d q s c (omega arith) (D.blank s (omega arith)))
          ∙ regroup (poly d a) (poly d q) (con (el d c)) (x_power d s) (poly d b))
          ∙ (𝔸 d).coeff_add _ _ i
          ∙ ap (λ z. coeff (poly d a ⊞ poly d q · poly d b) i ⊞ₖ z) ((𝔸 d).coeff_con_mul (el d c) (x_power d s · poly d b) i)

      top_is : coeff (x_power d s · poly d b) (k - 1) ≡ (F d).ring.one
      top_is =
          let z : k - 1 ≡ s + top = omega arith in
          ap (coeff (x_power d s · poly d b)) z ∙ coeff_shift d s top (poly d b) ∙ monic_top (𝔸 d) (poly d b) top monic e

      c_eq : coeff (poly d a ⊞ poly d q · poly d b) (k - 1) ≡ el d c
      c_eq = (𝔸 d).coeff_add _ _ (k - 1) ∙ ap₂ ◌⊞ₖ◌ (coeff_poly d a (k - 1)) (sym p_is.stands) ∙ sym c_is.stands

      clear : (i : ℕ) → k - 1 ≤ i → Dec (k ≤ i) → coeff (poly d a ⊞ poly d q · poly d b) i ⊞ₖ el d c ·ₖ coeff (x_power d s · poly d b) i ≡ 𝟘ₖ
      clear i n (yes w) =
          ap₂ (λ y z. y ⊞ₖ el d c ·ₖ z) (D.clear i w) (coeff_shift_past d s (suc top) i (poly d b) (omega arith) (omega arith))
          ∙ 𝟘_⊞ (F d).ring _
          ∙ ·_𝟘 (F d).ring (el d c)
      clear i n (no w) =
          let z : i ≡ k - 1 = omega arith in
          rw z (ap₂ (λ x y. x ⊞ₖ el d c ·ₖ y) c_eq top_is ∙ ap (λ y. el d c ⊞ₖ y) (·_𝟙 (F d).ring (el d c)) ∙ (F d).ring.add_self (el d c))

  pub divided_end : {a b q : List ℕ} {top k : ℕ} → Divided a b q top k → k ≤ top → row_len d b ≡ suc top → Stands d q (quot (poly d a) (poly d b))
  divided_end {a} {b} {q} {top} {k} D h e =
      let n : len (poly d a ⊞ poly d q · poly d b) ≤ top = len_bound (𝔸 d) _ top (λ i m. D.clear i (omega arith)) in
      record { in_range = D.range; stands = sym (quot_is (𝔸 d) (poly d a) (poly d b) (poly d q) (poly d a ⊞ poly d q · poly d b) (omega arith) (back (poly d a) (poly d q · poly d b))) }
    where
      back : (x y : Poly d) → x ≡ y ⊞ (x ⊞ y)
      back x y = simp (ring2, R)
