-- The product of two rows, by the coefficients of the first.
-- `Partial`, `partial_start`, `partial_turn`: the loop's invariant. After i turns the row stands for the part of a
-- below x^i, times b.
-- `partial_end`: at the end the row stands for the product.
use Prim.Native.Nat.{ℕ, ◌+◌, ◌≤◌, ◌<◌}
use mathlib.Core.{Path.◌≡◌, Path.sym, Path.◌∙◌, Path.ap, Path.ap₂, List.List}
use native.Mathlib.{Omega.arith, Decide.ℕ_discrete, Decide.dec_le}
use lib.ListN.{get_or, replicate}
use Rattle.field_laws.specs.Ring.{Ring2}
use Rattle.char2_algebra.proofs.{Ring.ring2, Ring.⊞_𝟘, Ring.𝟘_⊞, Ring.𝟘_·, Degree.coeff_zero}
use Rattle.row_theory.specs.{Field.F, Field.Poly, Field.𝔸, Field.el, Field.poly, Row.InRange, Row.Stands, internal.Elements.x_power, Row.row_len}
use Rattle.row_theory.proofs.{Rows.Coefficients.coeff_poly, Rows.Fill.zeros_range, Rows.Fill.zeros_poly, Rows.Shift.monomial_at, Rows.Shift.monomial_off}

one_more : {A : Type 0} (R : Ring2 A) (p c x b : A) → R.add (R.mul p b) (R.mul c (R.mul x b)) ≡ R.mul (R.add p (R.mul c x)) b
one_more R p c x b = simp (ring2, R)

pub record Partial (d : ℕ) (a b r : List ℕ) (i : ℕ) : Type 0 where
  pub range : InRange d r
  pub front : Poly d
  pub below : (j : ℕ) → j < i → (𝔸 d).coeff front j ≡ el d (get_or a j 0)
  pub above : (j : ℕ) → i ≤ j → (𝔸 d).coeff front j ≡ (F d).ring.zero
  pub product : poly d r ≡ (𝔸 d).ring.mul front (poly d b)

module _ {d : ℕ} {a b : List ℕ} where
  pub partial_start : Partial d a b (replicate 12 0) 0
  partial_start =
      record {
        range = zeros_range d 12;
        front = (𝔸 d).ring.zero;
        below = λ j h. absurd (omega arith);
        above = λ j h. coeff_zero (𝔸 d) j;
        product = zeros_poly d 12 ∙ sym (𝟘_· (𝔸 d).ring (poly d b));
      }

  pub partial_turn :
      {r t : List ℕ} {i : ℕ}
      → Partial d a b r i
      → Stands d t ((𝔸 d).ring.add (poly d r) ((𝔸 d).ring.mul ((𝔸 d).con (el d (get_or a i 0))) ((𝔸 d).ring.mul (x_power d i) (poly d b))))
      → Partial d a b t (i + 1)
  partial_turn {r} {t} {i} s u =
      record {
        range = u.in_range;
        front = (𝔸 d).ring.add s.front m;
        below = λ j h. (𝔸 d).coeff_add s.front m j ∙ at j h (ℕ_discrete j i);
        above = λ j h. (𝔸 d).coeff_add s.front m j ∙ ap₂ (F d).ring.add (s.above j (omega arith)) (monomial_off d _ i j (λ e. absurd (omega arith))) ∙ ⊞_𝟘 (F d).ring _;
        product = u.stands ∙ ap (λ z. (𝔸 d).ring.add z ((𝔸 d).ring.mul ((𝔸 d).con (el d (get_or a i 0))) ((𝔸 d).ring.mul (x_power d i) (poly d b)))) s.product ∙ one_more (𝔸 d).ring s.front ((𝔸 d).con (el d (get_or a i 0))) (x_power d i) (poly d b);
      }
    where
      m : Poly d
      m = (𝔸 d).ring.mul ((𝔸 d).con (el d (get_or a i 0))) (x_power d i)

      at : (j : ℕ) → j < i + 1 → Dec (j ≡ i) → (F d).ring.add ((𝔸 d).coeff s.front j) ((𝔸 d).coeff m j) ≡ el d (get_or a j 0)
      at j h (yes e) = rw e (ap₂ (F d).ring.add (s.above i (omega arith)) (monomial_at d _ i) ∙ 𝟘_⊞ (F d).ring _)
      at j h (no e) = ap₂ (F d).ring.add (s.below j (omega arith)) (monomial_off d _ i j e) ∙ ⊞_𝟘 (F d).ring _

  pub partial_end : {r : List ℕ} {i : ℕ} → Partial d a b r i → row_len d a ≤ i → Stands d r ((𝔸 d).ring.mul (poly d a) (poly d b))
  partial_end {r} {i} s h =
      record {
        in_range = s.range;
        stands = s.product ∙ ap (λ z. (𝔸 d).ring.mul z (poly d b)) ((𝔸 d).ext s.front (poly d a) (λ j. same j (dec_le i j)));
      }
    where
      same : (j : ℕ) → Dec (i ≤ j) → (𝔸 d).coeff s.front j ≡ (𝔸 d).coeff (poly d a) j
      same j (yes k) = s.above j k ∙ sym ((𝔸 d).len_past (poly d a) j (omega arith))
      same j (no k) = s.below j (omega arith) ∙ sym (coeff_poly d a j)
