-- The class of a point of the curve is accepted.
-- `value_left`: a polynomial is a multiple of the variable plus a, plus its value at a.
-- `element_root`: the element of a root solves the equation in the field.
-- `point_accepts`: where y² + y = f(x), the variable plus x divides y² + y + f, and the class of (x, y) is accepted.
use Prim.Native.Nat.{ℕ, zero, suc, ◌≤◌, ◌<◌, ◌^◌}
use mathlib.Core.{Path.◌≡◌, Path.refl, Path.sym, Path.ap, Path.ap₂, Path.subst, Path.◌∙◌, List.List, List.[], List.◌∷◌, List.map}
use native.Mathlib.Omega.{arith}
use lib.ListN.{get_or}
use Rattle.field_laws.specs.{Field.Field2}
use Rattle.char2_algebra.specs.{Polynomials.Polynomials}
use Rattle.char2_algebra.proofs.{Ring.ring2, Ring.⊞_𝟘, Degree.coeff_zero, Degree.con_of_zero, Degree.con_one, Degree.con_mul, Degree.coeff_con_add_x_mul, Degree.coeff_con_add_x_mul_suc}
use Rattle.binary_field_theory.specs.{Element.Accepted, Quadratic.Root}
use Rattle.binary_field.proofs.Replies.{quadratic_in_field}
use Rattle.class_group.specs.{Mumford.value, NonSingular.evaluate}
use Rattle.row_theory.specs.{Field.degree_of, Field.accepted, Field.K, Field.F, Field.Poly, Field.𝔸, Field.el, Field.poly, Row.InRange}
use Rattle.row_theory.proofs.{Rows.Elements.degree_is, Rows.Elements.el_of, Rows.Elements.el_zero, Rows.Elements.el_one, Rows.Elements.zero_lt, Rows.Coefficients.coeff_poly, Rows.Coefficients.poly_is}
use Rattle.jacobian.specs.{Curves.f_row, Curves.curve_refusal, Classes.u_row, Classes.pair, Answer.Accepts, declared.Curve.Curve}
use Rattle.jacobian.proofs.{ByValue.Checks.curve_passes, ByValue.Passing.f_is, Representation.Form.Formed, Representation.formed_accepted, Representation.accepts_both}
use Rattle.stamps.specs.Stamps.{value_at, point_class}

-- ---- over any polynomials
module _ {K P : Type 0} {F : Field2 K} (A : Polynomials F P) where
  open A use {ring as R, coeff, con, x}
  open A.ring use {add as ◌⊞◌, mul as ◌·◌, zero as 𝟘, one as 𝟙}
  open F.ring use {add as ◌⊞ₖ◌, mul as ◌·ₖ◌, zero as 𝟘ₖ, one as 𝟙ₖ}

  infixl 60 ◌⊞◌
  infixl 70 ◌·◌
  infixl 60 ◌⊞ₖ◌
  infixl 70 ◌·ₖ◌
  con_add : (a b : K) → con (a ⊞ₖ b) ≡ con a ⊞ con b
  con_add a b = A.ext (con (a ⊞ₖ b)) (con a ⊞ con b) go
    where
      go : (i : ℕ) → coeff (con (a ⊞ₖ b)) i ≡ coeff (con a ⊞ con b) i
      go zero = A.coeff_con (a ⊞ₖ b) ∙ sym (A.coeff_add (con a) (con b) 0 ∙ ap₂ ◌⊞ₖ◌ (A.coeff_con a) (A.coeff_con b))
      go (suc i) =
          A.coeff_con_suc (a ⊞ₖ b) i
          ∙ sym (A.coeff_add (con a) (con b) (suc i) ∙ ap₂ ◌⊞ₖ◌ (A.coeff_con_suc a i) (A.coeff_con_suc b i) ∙ ⊞_𝟘 F.ring 𝟘ₖ)

  shifted : (a c k q t : P) → c ⊞ t · (q · (a ⊞ t) ⊞ k) ≡ (t · q ⊞ k) · (a ⊞ t) ⊞ (c ⊞ a · k)
  shifted a c k q t = simp (ring2, R)

  -- quotient and value of c + x p, from those of p
  next_value : (a c k : K) (p q : P) → p ≡ q · (con a ⊞ x) ⊞ con k → con c ⊞ x · p ≡ (x · q ⊞ con k) · (con a ⊞ x) ⊞ con (c ⊞ₖ a ·ₖ k)
  next_value a c k p q e =
      ap (λ z. con c ⊞ x · z) e ∙ shifted (con a) (con c) (con k) q x
      ∙ ap (λ z. (x · q ⊞ con k) · (con a ⊞ x) ⊞ z) (sym (con_add c (a ·ₖ k) ∙ ap (λ z. con c ⊞ z) (con_mul A a k)))

  cancelled : (y q u : P) → y · y ⊞ y ⊞ (q · u ⊞ (y · y ⊞ y)) ≡ q · u
  cancelled y q u = simp (ring2, R)

  -- y² + y + f is a multiple of u where y² + y is the constant remainder of f by u
  root_divides : (y k : K) (f u q : P) → y ·ₖ y ⊞ₖ y ≡ k → f ≡ q · u ⊞ con k → con y · con y ⊞ con y ⊞ f ≡ q · u
  root_divides y k f u q e g =
      ap (λ z. con y · con y ⊞ con y ⊞ z)
      (g ∙ ap (λ z. q · u ⊞ z) (ap con (sym e) ∙ con_add (y ·ₖ y) y ∙ ap (λ z. z ⊞ con y) (con_mul A y y)))
      ∙ cancelled (con y) q u

-- ---- rows of numbers
module _ (d : ℕ) where
  open 𝔸 d use {ring as R, coeff, con, x}
  open (𝔸 d).ring use {add as ◌⊞◌, mul as ◌·◌, zero as 𝟘, one as 𝟙}

  infixl 60 ◌⊞◌
  infixl 70 ◌·◌
  poly_nil : poly d [] ≡ 𝟘
  poly_nil = poly_is d [] 𝟘 (λ i. el_zero d ∙ sym (coeff_zero (𝔸 d) i))

  poly_cons : (n : ℕ) (r : List ℕ) → poly d (n ∷ r) ≡ con (el d n) ⊞ x · poly d r
  poly_cons n r = poly_is d (n ∷ r) (con (el d n) ⊞ x · poly d r) go
    where
      go : (i : ℕ) → el d (get_or (n ∷ r) i 0) ≡ coeff (con (el d n) ⊞ x · poly d r) i
      go zero = sym (coeff_con_add_x_mul (𝔸 d) (el d n) (poly d r))
      go (suc i) = sym (coeff_con_add_x_mul_suc (𝔸 d) (el d n) (poly d r) i ∙ coeff_poly d r i)

  nothing_added : (t : Poly d) → t · (𝟙 ⊞ x · 𝟘) ≡ t
  nothing_added t = simp (ring2, R)

  linear : (n : ℕ) → poly d (n ∷ 1 ∷ []) ≡ con (el d n) ⊞ x
  linear n =
      poly_cons n (1 ∷ [])
      ∙ ap (λ z. con (el d n) ⊞ x · z) (poly_cons 1 [] ∙ ap₂ (λ a b. a ⊞ x · b) (ap con (el_one d) ∙ con_one (𝔸 d)) poly_nil)
      ∙ ap (λ z. con (el d n) ⊞ z) (nothing_added x)

  constant : (n : ℕ) → poly d (n ∷ 0 ∷ 0 ∷ []) ≡ con (el d n)
  constant n = poly_is d (n ∷ 0 ∷ 0 ∷ []) (con (el d n)) go
    where
      go : (i : ℕ) → el d (get_or (n ∷ 0 ∷ 0 ∷ []) i 0) ≡ coeff (con (el d n)) i
      go zero = sym ((𝔸 d).coeff_con (el d n))
      go (suc zero) = el_zero d ∙ sym ((𝔸 d).coeff_con_suc (el d n) 0)
      go (suc (suc zero)) = el_zero d ∙ sym ((𝔸 d).coeff_con_suc (el d n) 1)
      go (suc (suc (suc i))) = el_zero d ∙ sym ((𝔸 d).coeff_con_suc (el d n) (suc (suc i)))

  -- a polynomial is a multiple of the variable plus a, plus its value at a
  nothing_left : (u : Poly d) → 𝟘 ≡ 𝟘 · u ⊞ 𝟘
  nothing_left u = simp (ring2, R)

  pub value_left : (a : K d) (r : List ℕ) → (q : Poly d) × (poly d r ≡ q · (con a ⊞ x) ⊞ con (evaluate (F d).ring (map (el d) r) a))
  unfolding evaluate
  value_left a [] = (𝟘, poly_nil ∙ nothing_left (con a ⊞ x) ∙ ap (λ z. 𝟘 · (con a ⊞ x) ⊞ z) (sym (con_of_zero (𝔸 d))))
  value_left a (n ∷ r) =
      let k = evaluate (F d).ring (map (el d) r) a in
      let h = value_left a r in
      (x · h.0 ⊞ con k, poly_cons n r ∙ next_value (𝔸 d) a (el d n) k (poly d r) h.0 h.1)

-- ---- the class of a point
module _ (d : ℕ) (ok : Accepted d) {a y : ℕ} (v : K d) (is : a ≡ v.0) (r : Root d a y) where
  -- the root as an element
  pub element_root : (F d).ring.add ((F d).ring.mul (el d y) (el d y)) (el d y) ≡ v
  unfolding F el
  element_root = quadratic_in_field (degree_of d) (accepted d) (rw is v.1) (subst (λ (n : ℕ). Root n a y) (sym (degree_is d ok)) r) ∙ ap (el d) is ∙ el_of d v

module _ (d x y : ℕ) (ok : Accepted d) (hx : x < 2 ^ d) (hy : y < 2 ^ d) where
  one_range : (n : ℕ) → n < 2 ^ d → InRange d (n ∷ 0 ∷ 0 ∷ [])
  one_range n h zero = rw (degree_is d ok) h
  one_range n h (suc zero) = zero_lt d
  one_range n h (suc (suc zero)) = zero_lt d
  one_range n h (suc (suc (suc i))) = zero_lt d

  one_blank : (n i : ℕ) → 1 ≤ i → ◌≡◌ {A = ℕ} (get_or (n ∷ 0 ∷ 0 ∷ []) i 0) 0
  one_blank n zero h = absurd (omega arith)
  one_blank n (suc zero) h = refl
  one_blank n (suc (suc zero)) h = refl
  one_blank n (suc (suc (suc i))) h = refl

  point_formed : Formed d (point_class x y)
  unfolding point_class
  point_formed = record {
    shape = record { low = omega arith; u_three = refl; v_three = refl; u_blank = one_blank x; v_blank = one_blank y };
    u_range = one_range x hx;
    v_range = one_range y hy;
  }

module _ (c : Curve) (ok : curve_refusal c ≡ 0) (x y : ℕ) (hx : x < 2 ^ c.degree) where
  pub point_accepts : Root c.degree (value_at c.degree (f_row c) x) y → Accepts c (point_class x y)
  unfolding value_at value pair u_row point_class
  point_accepts r =
      let d = c.degree in
      let p = curve_passes c ok in
      let left = value_left d (el d x) (f_row c) in
      let v = evaluate (F d).ring (map (el d) (f_row c)) (el d x) in
      accepts_both c (point_class x y) ok
      (formed_accepted c ok (point_class x y) (point_formed d x y p.accepted hx r.below) (
        left.0,
        ap₂ (λ z f. (𝔸 d).ring.add ((𝔸 d).ring.add ((𝔸 d).ring.mul z z) z) f) (constant d y) (sym (f_is c))
            ∙ root_divides (𝔸 d) (el d y) v (poly d (f_row c)) ((𝔸 d).ring.add ((𝔸 d).con (el d x)) (𝔸 d).x) left.0 (element_root d p.accepted v refl r) left.1
            ∙ ap ((𝔸 d).ring.mul left.0) (sym (linear d x)),
      ))
