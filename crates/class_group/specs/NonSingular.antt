-- Singular points of a curve (docs/SPECIFICATION.md, 2).
-- y² + y + f(x) is a polynomial in y whose coefficients are polynomials in x.
-- A polynomial is here the list of its coefficients, the lowest power's first.
-- A point may have its coordinates in any ring of characteristic 2 over K, so in every field that contains K.
use Rattle.std.specs.Prelude.{ℕ, zero, suc, ◌≡◌, List, [], ◌∷◌, map}
use Rattle.field_laws.specs.Ring.{Ring2}
use Rattle.field_laws.specs.Field.{Field2}
use Rattle.char2_algebra.specs.Polynomials.{Polynomials}
use Rattle.class_group.specs.{Curve.Curve, Multiples.multiple}

-- a ring L of characteristic 2 with 1 ≠ 0, and a map of K to L: an inclusion of fields, or any other map
pub record Over (K L : Type 0) : Type 0 where
  pub ring : Ring2 L
  pub one≢zero : ¬ (ring.one ≡ ring.zero)
  pub embed : K → L

-- the first n values of a function
unfoldable pub values : {X : Type 0} → ℕ → (ℕ → X) → List X
values zero g = []
values (suc n) g = g 0 ∷ values n (λ i. g (suc i))

-- n a₀, (n + 1) a₁, (n + 2) a₂, .., where `multiple n a` is n a
unfoldable pub weighted : {X : Type 0} → (ℕ → X → X) → ℕ → List X → List X
weighted multiple n [] = []
weighted multiple n (a ∷ p) = multiple n a ∷ weighted multiple (suc n) p

-- the formal derivative: a₁ + 2 a₂ t + 3 a₃ t² + ..
unfoldable pub derivative : {X : Type 0} → (ℕ → X → X) → List X → List X
derivative multiple [] = []
derivative multiple (a ∷ p) = weighted multiple 1 p

module _ {L : Type 0} (R : Ring2 L) where
  open R use {add as ◌⊞◌, mul as ◌·◌, zero as 𝟘, one as 𝟙}

  infixl 60 ◌⊞◌
  infixl 70 ◌·◌
  -- the value of a₀ + a₁ t + a₂ t² + .. at t
  unfoldable pub evaluate : List L → L → L
  evaluate [] t = 𝟘
  evaluate (a ∷ p) t = a ⊞ t · evaluate p t

  -- the value at x, y of a polynomial in x and y, which is the list of the coefficients of 1, y, y², ..
  unfoldable pub evaluate_at : List (List L) → L → L → L
  evaluate_at p x y = evaluate (map (λ a. evaluate a x) p) y

  -- the partial derivative by x of a polynomial in x and y
  unfoldable pub derivative_by_x : List (List L) → List (List L)
  derivative_by_x p = map (derivative (multiple ◌⊞◌ 𝟘)) p

  -- the partial derivative by y
  unfoldable pub derivative_by_y : List (List L) → List (List L)
  derivative_by_y p = derivative (λ n. map (multiple ◌⊞◌ 𝟘 n)) p

  -- y² + y + f, for f given by its coefficients
  unfoldable pub equation : List L → List (List L)
  equation f = f ∷ (𝟙 ∷ []) ∷ (𝟙 ∷ []) ∷ []

module _ {K P : Type 0} {F : Field2 K} {A : Polynomials F P} (C : Curve A) where
  open A use {coeff, len}
  open C use {f}

  -- the polynomial y² + y + f of the curve, with its coefficients mapped to L
  unfoldable pub equation_over : {L : Type 0} → Over K L → List (List L)
  equation_over E = equation E.ring (map E.embed (values (len f) (coeff f)))

  -- a singular point lies on the curve, and both partial derivatives vanish there
  pub record Singular {L : Type 0} (E : Over K L) (x y : L) : Type 0 where
    pub on_curve : evaluate_at E.ring (equation_over E) x y ≡ E.ring.zero
    pub by_x : evaluate_at E.ring (derivative_by_x E.ring (equation_over E)) x y ≡ E.ring.zero
    pub by_y : evaluate_at E.ring (derivative_by_y E.ring (equation_over E)) x y ≡ E.ring.zero
