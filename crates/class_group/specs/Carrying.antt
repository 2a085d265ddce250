-- Changes of variables: x replaced by x + c, then y by y + g. They take a curve y² + y = f to another such curve and
-- its classes to the other's; the one that leads to the plain curve clears x⁶, x⁵, x⁴ and x² (docs/SPECIFICATION.md, 2).
use Rattle.std.specs.Prelude.{ℕ, zero, suc, ◌+◌, ◌≡◌}
use Rattle.field_laws.specs.{Field.Field2}
use Rattle.char2_algebra.specs.{Polynomials.Polynomials, Shift.shift}
use Rattle.class_group.specs.Mumford.{Pair}

-- a change of variables: x is replaced by x + c, then y by y + g
pub record Change (K P : Type 0) : Type 0 where
  pub c : K
  pub g : P

module _ {K P : Type 0} {F : Field2 K} (A : Polynomials F P) where
  open A use {ring, coeff, con, x, rem}
  open ring use {add as ◌⊞◌, mul as ◌·◌}

  infixl 60 ◌⊞◌
  infixl 70 ◌·◌
  -- the curve y² + y = f becomes y² + y = f(x + c) + g² + g
  unfoldable pub changed_f : Change K P → P → P
  changed_f t f = shift A t.c f ⊞ t.g · t.g ⊞ t.g

  -- a class becomes [u(x + c), v(x + c) + g modulo u(x + c)]
  unfoldable pub changed : Change K P → Pair P → Pair P
  changed t D =
      let u = shift A t.c D.u in
      record { u = u; v = rem (shift A t.c D.v ⊞ t.g) u }

  -- the change that undoes a change: x is replaced by x + c, then y by y + g(x + c)
  unfoldable pub change_back : Change K P → Change K P
  change_back t = record { c = t.c; g = shift A t.c t.g }

  -- ---- the plain curve, and the change that leads to it
  -- f has no x⁶, x⁵, x⁴ and x²
  pub record Plain (f : P) : Type 0 where
    pub no_6 : coeff f 6 ≡ F.ring.zero
    pub no_5 : coeff f 5 ≡ F.ring.zero
    pub no_4 : coeff f 4 ≡ F.ring.zero
    pub no_2 : coeff f 2 ≡ F.ring.zero

  -- a xⁿ
  unfoldable pub monomial : ℕ → K → P
  monomial zero a = con a
  monomial (suc n) a = x · monomial n a

  -- a xⁿ with the a that clears x²ⁿ from f when y is replaced by y + a xⁿ
  unfoldable pub clearing : ℕ → P → P
  clearing n f = monomial n (F.root (coeff f (n + n)))

  -- f after this replacement
  unfoldable pub cleared : ℕ → P → P
  cleared n f = let m = clearing n f in f ⊞ m · m ⊞ m

  -- x is replaced by x + c with c² = f5; then y by y + a x³, y + b x² and y + e x, chosen to clear x⁶, x⁴ and x² in
  -- this order
  unfoldable pub plain_change : P → Change K P
  plain_change f =
      let c = F.root (coeff f 5) in
      let f₀ = shift A c f in
      let f₁ = cleared 3 f₀ in
      let f₂ = cleared 2 f₁ in
      record { c = c; g = clearing 3 f₀ ⊞ clearing 2 f₁ ⊞ clearing 1 f₂ }

  -- the f of the plain curve
  unfoldable pub plain_f : P → P
  plain_f f = changed_f (plain_change f) f
