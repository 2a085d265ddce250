-- Classes as Mumford pairs [u, v], and which pairs are reduced classes (docs/SPECIFICATION.md, 2).
use Rattle.std.specs.Prelude.{◌≤◌, ◌<◌, true, false, ltb}
use Rattle.field_laws.specs.Field.{Field2}
use Rattle.char2_algebra.specs.Polynomials.{Polynomials}
use Rattle.char2_algebra.specs.Divides.{Divides}
use Rattle.char2_algebra.specs.Lead.{Monic}
use Rattle.class_group.specs.Curve.{Curve}

-- a pair [u, v] of polynomials
pub record Pair (P : Type 0) : Type 0 where
  pub u : P
  pub v : P

module _ {K P : Type 0} {F : Field2 K} {A : Polynomials F P} (C : Curve A) where
  open A use {ring, len}
  open ring use {add as ◌⊞◌, mul as ◌·◌, zero as 𝟘, one as 𝟙}
  open C use {f}

  infixl 60 ◌⊞◌
  infixl 70 ◌·◌
  -- v² + v + f, the norm of v + y
  unfoldable pub value : P → P
  value v = v · v ⊞ v ⊞ f

  -- a reduced class: u monic of degree at most 3, v of smaller degree, u a divisor of v² + v + f;
  -- `len` is the degree plus one
  pub record Reduced (D : Pair P) : Type 0 where
    pub u_monic : Monic A D.u
    pub u_len : len D.u ≤ 4
    pub v_len : len D.v < len D.u
    pub divides : Divides ring D.u (value D.v)

  -- the neutral class is [1, 0]
  unfoldable pub neutral : Pair P
  neutral = record { u = 𝟙; v = 𝟘 }

  -- the opposite: [u, v + 1] where u has degree at least 1; the neutral class is its own opposite
  unfoldable pub opposite : Pair P → Pair P
  opposite D = elim (ltb 1 (len D.u)) [ true ↦ record { u = D.u; v = D.v ⊞ 𝟙 } | false ↦ D ]
