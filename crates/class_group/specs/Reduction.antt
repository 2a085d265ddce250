-- Cantor's reduction, with the number of its steps (docs/SPECIFICATION.md, 2).
use Rattle.std.specs.Prelude.{ℕ, zero, suc, true, false, ltb}
use Rattle.field_laws.specs.Field.{Field2}
use Rattle.char2_algebra.specs.Polynomials.{Polynomials}
use Rattle.char2_algebra.specs.Lead.{monic_of}
use Rattle.class_group.specs.Curve.{Curve}
use Rattle.class_group.specs.Mumford.{Pair, value}

-- a class, and the number of reduction steps that led to it
pub record Counted (P : Type 0) : Type 0 where
  pub class : Pair P
  pub steps : ℕ

module _ {K P : Type 0} {F : Field2 K} {A : Polynomials F P} (C : Curve A) where
  open A use {ring, len, quot, rem}
  open ring use {add as ◌⊞◌, one as 𝟙}

  infixl 60 ◌⊞◌
  -- one reduction step: u becomes (f + v + v²) / u made monic, then v becomes v + 1 modulo the new u
  unfoldable pub reduction_step : Pair P → Pair P
  reduction_step D =
      let u = monic_of A (quot (value C D.v) D.u) in
      record { u = u; v = rem (D.v ⊞ 𝟙) u }

  -- reduction steps while the degree of u exceeds 3; the first number bounds the steps to come,
  -- the second counts the steps made so far
  unfoldable pub reduce_to : ℕ → ℕ → Pair P → Counted P
  reduce_to zero steps D = record { class = D; steps = steps }
  reduce_to (suc n) steps D =
      elim (ltb 4 (len D.u)) [
        | true ↦ reduce_to n (suc steps) (reduction_step D)
        | false ↦ record { class = D; steps = steps }
      ]

  -- reduction; each step lowers the degree of u while it exceeds 3, so that the length of u bounds the steps
  unfoldable pub reduce : Pair P → Counted P
  reduce D = reduce_to (len D.u) 0 D
