-- Triples u, v, w with v² + v + f = w u.
-- `lift_meets`, `exchange_meets`, `chain_meets`: lifts, exchanges and chains of them keep the equation.
use mathlib.Core.Path.{◌≡◌}
use Rattle.field_laws.specs.Ring.{Ring2}
use Rattle.field_laws.specs.Field.{Field2}
use Rattle.char2_algebra.specs.Polynomials.{Polynomials}
use Rattle.char2_algebra.proofs.Ring.{ring2, by, combine}
use Rattle.class_group.specs.Curve.{Curve}
use Rattle.class_group.specs.Mumford.{value}
use Rattle.class_group.specs.Half.{Triple, lift, exchange}

module _ {B : Type 0} (R : Ring2 B) where
  open R use {add as ◌⊞◌, mul as ◌·◌, one as 𝟙}

  infixl 60 ◌⊞◌
  infixl 70 ◌·◌
  lift_identity :
      (u v w f k : B)
      → v · v ⊞ v ⊞ f ≡ w · u
      → (v ⊞ k · u) · (v ⊞ k · u) ⊞ (v ⊞ k · u) ⊞ f ≡ (w ⊞ k ⊞ k · k · u) · u
  lift_identity u v w f k h = combine R _ _ (by R 𝟙 h) (simp (ring2, R))

  step_identity : (u v w f : B) → v · v ⊞ v ⊞ f ≡ w · u → (v ⊞ 𝟙) · (v ⊞ 𝟙) ⊞ (v ⊞ 𝟙) ⊞ f ≡ u · w
  step_identity u v w f h = combine R _ _ (by R 𝟙 h) (simp (ring2, R))

module _ {K P : Type 0} {F : Field2 K} {A : Polynomials F P} (C : Curve A) where
  -- the triple satisfies v² + v + f = w u
  abbrev pub Meets : Triple P → Type 0
  Meets T = value C T.v ≡ A.ring.mul T.w T.u

  pub lift_meets : (k : P) (T : Triple P) → Meets T → Meets (lift A k T)
  unfolding value lift
  lift_meets k T h = lift_identity A.ring T.u T.v T.w C.f k h

  pub exchange_meets : (T : Triple P) → Meets T → Meets (exchange A T)
  unfolding value exchange
  exchange_meets T h = step_identity A.ring T.u T.v T.w C.f h

  -- T comes from S by lifts, and by steps at which w is not 0
  pub data Chain (S : Triple P) : Triple P → Type 0 where
    start : Chain S S
    lifted : {T : Triple P} (k : P) → Chain S T → Chain S (lift A k T)
    stepped : {T : Triple P} → ¬ (T.w ≡ A.ring.zero) → Chain S T → Chain S (exchange A T)

  pub chain_meets : {S T : Triple P} → Chain S T → Meets S → Meets T
  chain_meets start m = m
  chain_meets (lifted {T = T} k c) m = lift_meets k T (chain_meets c m)
  chain_meets (stepped {T = T} h c) m = exchange_meets T (chain_meets c m)
