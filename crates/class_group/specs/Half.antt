-- The half of a class is the only reduced class whose Cantor double is the class (docs/SPECIFICATION.md, 2). That
-- `half` is this class is proved in proofs/Halving.antt (`half_reduced`, `double_half`, `half_unique`).
-- It is found by rules on the coefficients, for each degree, and these need not be believed: a triple u, v, w with
-- u w = v² + v + f is changed by lifts and exchanges, which keep its class, until the first polynomial is a constant
-- times a square a²; the half is then [a, v modulo a]. Two rules divide, each by a coefficient that a test has shown
-- not to be zero.
use Rattle.std.specs.Prelude.{ℕ, zero, suc, ◌≡◌}
use Rattle.field_laws.specs.{Field.Field2, Division.inverse_of}
use Rattle.char2_algebra.specs.Polynomials.{Polynomials}
use Rattle.char2_algebra.specs.Square.{sqrt}
use Rattle.class_group.specs.Curve.{Curve}
use Rattle.class_group.specs.Mumford.{Pair, value}

-- three polynomials u, v, w, with u w = v² + v + f for those of a class
pub record Triple (P : Type 0) : Type 0 where
  pub u : P
  pub v : P
  pub w : P

module _ {K P : Type 0} {F : Field2 K} (A : Polynomials F P) where
  open A use {ring, coeff, con, x, rem}
  open ring use {add as ◌⊞◌, mul as ◌·◌, one as 𝟙}
  open F.ring use {add as ◌⊞ₖ◌, mul as ◌·ₖ◌, zero as 𝟘ₖ, one as 𝟙ₖ}
  open F use {root, discrete}

  infixl 60 ◌⊞◌
  infixl 70 ◌·◌
  infixl 60 ◌⊞ₖ◌
  infixl 70 ◌·ₖ◌
  -- the lift by k: v becomes v + k u, and w becomes w + k + k² u
  unfoldable pub lift : P → Triple P → Triple P
  lift k T = record { u = T.u; v = T.v ⊞ k · T.u; w = T.w ⊞ k ⊞ k · k · T.u }

  -- the exchange of u and w: v becomes v + 1, not reduced modulo the new u
  unfoldable pub exchange : Triple P → Triple P
  exchange T = record { u = T.w; v = T.v ⊞ 𝟙; w = T.u }

  -- [a, v modulo a], where c times the first polynomial is a²
  unfoldable pub halved : K → Triple P → Pair P
  halved c T = let a = sqrt A (con c · T.u) in record { u = a; v = rem T.v a }

  -- k2 x² + k1 x + k0
  unfoldable pub quadratic : K → K → K → P
  quadratic k2 k1 k0 = con k0 ⊞ x · (con k1 ⊞ x · con k2)

  -- degree 1: the lift by k2 x² + k1 x + k0 with k2 = √w5, k1 = √w3, k0 = √(w1 + k1), and an exchange; w has degree 6
  unfoldable pub half_of_degree_1 : Triple P → Pair P
  half_of_degree_1 T =
      let k1 = root (coeff T.w 3) in
      let k = quadratic (root (coeff T.w 5)) k1 (root (coeff T.w 1 ⊞ₖ k1)) in
      halved 𝟙ₖ (exchange (lift k T))

  -- degree 2, u1 not zero: the lift with k2 = 1/√u1, k1 = √(w3/u1), k0 = √((w1 + k1)/u1), and an exchange
  unfoldable pub lifted_half_of_degree_2 : (T : Triple P) → ¬ (coeff T.u 1 ≡ 𝟘ₖ) → Pair P
  lifted_half_of_degree_2 T shown =
      let u1 = coeff T.u 1 in
      let i = inverse_of F u1 shown in
      let k1 = root (coeff T.w 3 ·ₖ i) in
      let k = quadratic (root i) k1 (root ((coeff T.w 1 ⊞ₖ k1) ·ₖ i)) in
      halved u1 (exchange (lift k T))

  -- degree 2: where u1 is zero, u is a square; else by a lift
  unfoldable pub half_of_degree_2 : Triple P → Pair P
  half_of_degree_2 T = elim (discrete (coeff T.u 1) 𝟘ₖ) [ yes _ ↦ halved 𝟙ₖ T | no shown ↦ lifted_half_of_degree_2 T shown ]

  -- degree 3: the third polynomial after the lift by √w3
  unfoldable pub first_lift : P → P → P
  first_lift u w = let k = quadratic 𝟘ₖ 𝟘ₖ (root (coeff w 3)) in w ⊞ k ⊞ k · k · u

  -- degree 3: the triple after the lift by √w3 and an exchange; its first polynomial is x⁴ + e2 x² + t² x + e0
  unfoldable pub exchanged_of_degree_3 : Triple P → Triple P
  exchanged_of_degree_3 T = exchange (lift (quadratic 𝟘ₖ 𝟘ₖ (root (coeff T.w 3))) T)

  -- degree 3, t not zero: the lift by (x + q)/t with q = √(u1 + 1/t), where u1 is that of the class, and an exchange
  unfoldable pub lifted_half_of_degree_3 : (T : Triple P) → ¬ (root (coeff (exchanged_of_degree_3 T).u 1) ≡ 𝟘ₖ) → Pair P
  lifted_half_of_degree_3 T shown =
      let S = exchanged_of_degree_3 T in
      let t = root (coeff S.u 1) in
      let i = inverse_of F t shown in
      let q = root (coeff T.u 1 ⊞ₖ i) in
      halved (t ·ₖ t) (exchange (lift (quadratic 𝟘ₖ i (q ·ₖ i)) S))

  -- degree 3: where t is zero, x⁴ + e2 x² + e0 is a square; else by a second lift
  unfoldable pub half_of_degree_3 : Triple P → Pair P
  half_of_degree_3 T =
      let S = exchanged_of_degree_3 T in
      elim (discrete (root (coeff S.u 1)) 𝟘ₖ) [ yes _ ↦ halved 𝟙ₖ S | no shown ↦ lifted_half_of_degree_3 T shown ]

module _ {K P : Type 0} {F : Field2 K} {A : Polynomials F P} (C : Curve A) where
  -- the triple of a class: u, v and w = (v² + v + f) / u
  unfoldable pub triple : Pair P → Triple P
  triple D = record { u = D.u; v = D.v; w = A.quot (value C D.v) D.u }

  -- the rule by the length of u, which is its degree plus one; the neutral class is its own half
  unfoldable pub half_by : ℕ → Pair P → Pair P
  half_by zero D = D
  half_by (suc zero) D = D
  half_by (suc (suc zero)) D = half_of_degree_1 A (triple D)
  half_by (suc (suc (suc zero))) D = half_of_degree_2 A (triple D)
  half_by (suc (suc (suc (suc n)))) D = half_of_degree_3 A (triple D)

  -- the half of a class: the only reduced class whose double is the class, found by the rule for its degree
  unfoldable pub half : Pair P → Pair P
  half D = half_by (A.len D.u) D
