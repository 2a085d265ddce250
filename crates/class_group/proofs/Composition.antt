-- Composition of two pairs (u₁, v₁) and (u₂, v₂) by a divisor e of u₁, u₂ and v₁ + v₂ + 1 that is their combination
-- s₁ u₁ + s₂ u₂ + s₃ (v₁ + v₂ + 1), found in any way: u = u₁ u₂ / e² and
-- v = (s₁ u₁ v₂ + s₂ u₂ v₁ + s₃ (v₁ v₂ + f)) / e.
-- `composed_divides`: u divides v² + v + f.
-- `composed_within`, `composed_within⁻¹`: the product of the ideals of the two pairs is e times the ideal of (u, v).
-- `~_composed`: so the product of the two ideals is equivalent to the ideal of (u, v).
-- `composed_swap`: the two pairs may be exchanged.
-- `composed_double`, `~_double`: (u², v² + f) is composed of (u, v) and itself.
use mathlib.Core.Path.{◌≡◌, refl, sym, ◌∙◌, ap, subst}
use Rattle.field_laws.specs.Ring.{Ring2}
use Rattle.char2_algebra.specs.Divides.{Divides}
use Rattle.char2_algebra.proofs.Ring.{ring2, ·_𝟘, 𝟘_·, by, combine}
use Rattle.class_group.proofs.Coordinate.{coordinate, constant_mul}
use Rattle.class_group.proofs.Ideal.{Within, Product, product_of, product_sum, product_least, Scaled, scaled_ideal, Equivalent, ~_of_scaled}
use Rattle.class_group.proofs.PairIdeal.{pair_ideal, pair_ideal_u, pair_ideal_y, pair_ideal_u₁, pair_ideal_y₁, pair_ideal_ideal}
use Identities.{congruent_eq, cross_eq, cross_parts, on_eq, within₀, within₁, back₀, back₁, swap_bezout, swap_numerator, ⊞_twice, double_bezout, double_part, double_numerator}
pub mod Identities

module _ {P : Type 0} (R : Ring2 P) (f : P) where
  open R use {add as ◌⊞◌, mul as ◌·◌, zero as 𝟘, one as 𝟙}

  infixl 60 ◌⊞◌
  infixl 70 ◌·◌
  abbrev S : Ring2 (P × P)
  S = coordinate R f

  -- (u, v) is composed of (u₁, v₁) and (u₂, v₂) by a divisor e of u₁, u₂ and v₁ + v₂ + 1, found in any way
  pub record Composed (u₁ v₁ u₂ v₂ u v : P) : Type 0 where
    pub w₁ : P
    pub w₂ : P
    pub e : P
    pub s₁ : P
    pub s₂ : P
    pub s₃ : P
    pub d₁ : P
    pub d₂ : P
    pub c : P
    pub on₁ : v₁ · v₁ ⊞ v₁ ⊞ f ≡ w₁ · u₁
    pub on₂ : v₂ · v₂ ⊞ v₂ ⊞ f ≡ w₂ · u₂
    pub u₁≢𝟘 : ¬ (u₁ ≡ 𝟘)
    pub u₂≢𝟘 : ¬ (u₂ ≡ 𝟘)
    pub bezout : e ≡ s₁ · u₁ ⊞ s₂ · u₂ ⊞ s₃ · (v₁ ⊞ v₂ ⊞ 𝟙)
    pub part₁ : u₁ ≡ d₁ · e
    pub part₂ : u₂ ≡ d₂ · e
    pub part₃ : v₁ ⊞ v₂ ⊞ 𝟙 ≡ c · e
    pub u_is : u ≡ d₁ · d₂
    pub v_is : e · v ≡ s₁ · u₁ · v₂ ⊞ s₂ · u₂ · v₁ ⊞ s₃ · (v₁ · v₂ ⊞ f)

  -- e divides the numerator of v
  pub numerator_divides : (u₁ v₁ w₁ u₂ v₂ e s₁ s₂ s₃ d₁ : P) → v₁ · v₁ ⊞ v₁ ⊞ f ≡ w₁ · u₁
      → e ≡ s₁ · u₁ ⊞ s₂ · u₂ ⊞ s₃ · (v₁ ⊞ v₂ ⊞ 𝟙) → u₁ ≡ d₁ · e
      → Divides R e (s₁ · u₁ · v₂ ⊞ s₂ · u₂ · v₁ ⊞ s₃ · (v₁ · v₂ ⊞ f))
  numerator_divides u₁ v₁ w₁ u₂ v₂ e s₁ s₂ s₃ d₁ on bezout part = (
    v₁ ⊞ d₁ · (s₁ · (v₁ ⊞ v₂) ⊞ s₃ · w₁),
    combine R _ _ (by R 𝟙 (congruent_eq R f u₁ v₁ w₁ u₂ v₂ e s₁ s₂ s₃ d₁ on bezout part)) (simp (ring2, R)),
  )

  pub composed_swap : {u₁ v₁ u₂ v₂ u v : P} → Composed u₁ v₁ u₂ v₂ u v → Composed u₂ v₂ u₁ v₁ u v
  composed_swap {u₁} {v₁} {u₂} {v₂} C = record {
    w₁ = C.w₂;
    w₂ = C.w₁;
    e = C.e;
    s₁ = C.s₂;
    s₂ = C.s₁;
    s₃ = C.s₃;
    d₁ = C.d₂;
    d₂ = C.d₁;
    c = C.c;
    on₁ = C.on₂;
    on₂ = C.on₁;
    u₁≢𝟘 = C.u₂≢𝟘;
    u₂≢𝟘 = C.u₁≢𝟘;
    bezout = C.bezout ∙ swap_bezout R C.s₁ C.s₂ C.s₃ u₁ u₂ v₁ v₂;
    part₁ = C.part₂;
    part₂ = C.part₁;
    part₃ = ap (λ t. t ⊞ 𝟙) (R.add_comm v₂ v₁) ∙ C.part₃;
    u_is = C.u_is ∙ R.mul_comm C.d₁ C.d₂;
    v_is = C.v_is ∙ swap_numerator R f C.s₁ C.s₂ C.s₃ u₁ u₂ v₁ v₂;
  }

  -- v + v₁ = d₁ m with this m
  composed_m : {u₁ v₁ u₂ v₂ u v : P} → Composed u₁ v₁ u₂ v₂ u v → P
  composed_m {v₁ = v₁} {v₂ = v₂} C = C.s₁ · (v₁ ⊞ v₂) ⊞ C.s₃ · C.w₁

  pub divisor_nonzero : {u₁ v₁ u₂ v₂ u v : P} (C : Composed u₁ v₁ u₂ v₂ u v) → ¬ (C.e ≡ 𝟘)
  divisor_nonzero C z = C.u₁≢𝟘 (C.part₁ ∙ ap (λ t. C.d₁ · t) z ∙ ·_𝟘 R C.d₁)

  module _ (cancel : (c p q : P) → ¬ (c ≡ 𝟘) → c · p ≡ c · q → p ≡ q) where
    composed_congruent : {u₁ v₁ u₂ v₂ u v : P} (C : Composed u₁ v₁ u₂ v₂ u v) → v ⊞ v₁ ≡ C.d₁ · composed_m C
    unfolding composed_m
    composed_congruent {u₁} {v₁} {u₂} {v₂} {v = v} C =
        cancel C.e (v ⊞ v₁) _ (divisor_nonzero C)
        (R.mul_add C.e v v₁ ∙ ap (λ t. t ⊞ C.e · v₁) C.v_is
        ∙ congruent_eq R f u₁ v₁ C.w₁ u₂ v₂ C.e C.s₁ C.s₂ C.s₃ C.d₁ C.on₁ C.bezout C.part₁)

    module _ {u₁ v₁ u₂ v₂ u v : P} (C : Composed u₁ v₁ u₂ v₂ u v) where
      open C use {w₁, w₂, e, s₁, s₂, s₃, d₁, d₂, c}

      m₁ : P
      m₁ = composed_m C

      m₂ : P
      m₂ = composed_m (composed_swap C)

      congruent₁ : v ⊞ v₁ ≡ d₁ · m₁
      unfolding m₁
      congruent₁ = composed_congruent C

      congruent₂ : v ⊞ v₂ ≡ d₂ · m₂
      unfolding m₂ composed_swap
      congruent₂ = composed_congruent (composed_swap C)

      m : P
      m = s₁ · w₂ ⊞ s₂ · w₁

      cross : v₁ · v₂ ⊞ f ⊞ (v₁ ⊞ v₂ ⊞ 𝟙) · v ≡ e · (d₁ · d₂) · m
      unfolding m
      cross =
          cancel e _ _ (divisor_nonzero C)
          (cross_eq R f u₁ v₁ w₁ u₂ v₂ w₂ e s₁ s₂ s₃ v C.on₁ C.on₂ C.bezout C.v_is
          ∙ cross_parts R u₁ u₂ e d₁ d₂ (s₁ · w₂ ⊞ s₂ · w₁) C.part₁ C.part₂)

      pub composed_divides : Divides R u (v · v ⊞ v ⊞ f)
      composed_divides = (
        m₁ · m₂ ⊞ e · m,
        on_eq R f v₁ v₂ d₁ d₂ e v m₁ m₂ m congruent₁ congruent₂ cross ∙ ap (λ t. (m₁ · m₂ ⊞ e · m) · t) (sym C.u_is),
      )

      -- the product of an element of each ideal is e times an element of I(u, v)
      composed_of : (a b : P × P) → pair_ideal R u₁ v₁ a → pair_ideal R u₂ v₂ b
          → Scaled S (e, 𝟘) (pair_ideal R u v) (S.mul a b)
      unfolding coordinate
      composed_of a b i j =
          let k = i.0 in
          let l = j.0 in
          let n = e · k · l ⊞ k · b.1 · m₂ ⊞ a.1 · l · m₁ ⊞ a.1 · b.1 · m in
          let q = k · b.1 · d₁ ⊞ a.1 · l · d₂ ⊞ a.1 · b.1 · c in
          let h = i.1 ∙ ap (λ t. k · t) C.part₁ in
          let h' = j.1 ∙ ap (λ t. l · t) C.part₂ in
          let cross' = ap (λ t. v₁ · v₂ ⊞ f ⊞ t · v) (sym C.part₃) ∙ cross in (
            (n · (d₁ · d₂) ⊞ q · v, q),
            (n, ⊞_twice R (n · (d₁ · d₂)) (q · v) ∙ ap (λ t. n · t) (sym C.u_is)),
            (λ t. (
              within₀ R f v₁ v₂ e d₁ d₂ v m₁ m₂ m c a.0 a.1 k b.0 b.1 l congruent₁ congruent₂ cross' h h' t,
              within₁ R v₁ v₂ e d₁ d₂ c a.0 a.1 k b.0 b.1 l C.part₃ h h' t,
            ))
                ∙ sym (constant_mul R f e (n · (d₁ · d₂) ⊞ q · v) q),
          )

      four_products : (p q n : P) → p ⊞ q · v ≡ n · (d₁ · d₂)
          → (e · p, e · q) ≡ S.add (S.mul (n · c · u₁, 𝟘) (u₂, 𝟘))
          (S.add (S.mul ((n · d₂ ⊞ q · s₁) · u₁, 𝟘) (v₂, 𝟙))
          (S.add (S.mul ((n · d₁ ⊞ q · s₂) · v₁, n · d₁ ⊞ q · s₂) (u₂, 𝟘))
          (S.mul (q · s₃ · v₁, q · s₃) (v₂, 𝟙))))
      unfolding coordinate
      four_products p q n h = λ t. (
        back₀ R f u₁ v₁ u₂ v₂ e s₁ s₂ s₃ d₁ d₂ c v p q n C.part₁ C.part₂ C.part₃ C.v_is h t,
        back₁ R u₁ v₁ u₂ v₂ e s₁ s₂ s₃ d₁ d₂ c q n C.part₁ C.part₂ C.bezout t,
      )

      pub composed_within : Within S (Product S (pair_ideal R u₁ v₁) (pair_ideal R u₂ v₂))
          (Scaled S (e, 𝟘) (pair_ideal R u v))
      composed_within =
          product_least S (scaled_ideal S (e, 𝟘) (pair_ideal_ideal R f u v composed_divides)) composed_of

      pub composed_within⁻¹ : Within S (Scaled S (e, 𝟘) (pair_ideal R u v))
          (Product S (pair_ideal R u₁ v₁) (pair_ideal R u₂ v₂))
      composed_within⁻¹ z t =
          let p = t.0.0 in
          let q = t.0.1 in
          let n = t.1.0 in
          let I = pair_ideal_u R f u₁ v₁ in
          let I' = pair_ideal_y R f u₁ v₁ in
          let J = pair_ideal_u₁ R f u₂ v₂ in
          let J' = pair_ideal_y₁ R f u₂ v₂ in
          subst (Product S (pair_ideal R u₁ v₁) (pair_ideal R u₂ v₂))
          (sym (t.2 ∙ constant_mul R f e p q ∙ four_products p q n (t.1.1 ∙ ap (λ r. n · r) C.u_is)))
          (product_sum S _ _ (product_of S _ _ (I (n · c)) J)
          (product_sum S _ _ (product_of S _ _ (I (n · d₂ ⊞ q · s₁)) J')
          (product_sum S _ _ (product_of S _ _ (I' (n · d₁ ⊞ q · s₂)) J)
          (product_of S _ _ (I' (q · s₃)) J'))))

      pub composed_nonzero : ¬ (u ≡ 𝟘)
      composed_nonzero z =
          C.u₂≢𝟘 (C.part₂ ∙ ap (λ t. t · e) (cancel d₁ d₂ 𝟘 (λ h. C.u₁≢𝟘 (C.part₁ ∙ ap (λ t. t · e) h ∙ 𝟘_· R e))
          (sym C.u_is ∙ z ∙ sym (·_𝟘 R d₁))) ∙ 𝟘_· R e)

      pub ~_composed : ¬ (𝟙 ≡ 𝟘)
          → Equivalent S (Product S (pair_ideal R u₁ v₁) (pair_ideal R u₂ v₂)) (pair_ideal R u v)
      unfolding coordinate
      ~_composed one =
          ~_of_scaled S (e, 𝟘) (λ h. one (ap (λ x. x.0) h)) (λ h. divisor_nonzero C (ap (λ x. x.0) h))
          composed_within composed_within⁻¹

  -- doubling: the divisor is 1
  pub composed_double : (u v w : P) → ¬ (u ≡ 𝟘) → v · v ⊞ v ⊞ f ≡ w · u → Composed u v u v (u · u) (v · v ⊞ f)
  composed_double u v w u≢𝟘 on = record {
    w₁ = w;
    w₂ = w;
    e = 𝟙;
    s₁ = 𝟘;
    s₂ = 𝟘;
    s₃ = 𝟙;
    d₁ = u;
    d₂ = u;
    c = 𝟙;
    on₁ = on;
    on₂ = on;
    u₁≢𝟘 = u≢𝟘;
    u₂≢𝟘 = u≢𝟘;
    bezout = double_bezout R u v;
    part₁ = sym (R.mul_one u);
    part₂ = sym (R.mul_one u);
    part₃ = double_part R v;
    u_is = refl;
    v_is = double_numerator R f u v;
  }

  module _ (cancel : (c p q : P) → ¬ (c ≡ 𝟘) → c · p ≡ c · q → p ≡ q) (u v : P) (u≢𝟘 : ¬ (u ≡ 𝟘)) (d : Divides R u (v · v ⊞ v ⊞ f)) where
    pub ~_double : ¬ (𝟙 ≡ 𝟘) → Equivalent S (Product S (pair_ideal R u v) (pair_ideal R u v)) (pair_ideal R (u · u) (v · v ⊞ f))
    ~_double one = ~_composed cancel (composed_double u v d.0 u≢𝟘 d.1) one
