-- Reduction step by step, and the cofactor of the composition of a double.
-- `reduce_none`, `reduce_once`, `reduce_twice`: a reduction with no step, one step and two steps.
-- `double_cofactor`: with v² + v + f = w u and v² + f = q u² + r, r² + r + f = (w² + q + q² u²) u².
-- `square_len`, `cofactor_short`, `quotient_short`: the lengths of u², w and q.
use Prim.Native.Nat.{ℕ, zero, suc, ◌≤◌, ◌<◌, ◌+◌, ◌*◌, max}
use mathlib.Core.Path.{◌≡◌, refl, ◌∙◌, ap}
use native.Mathlib.Omega.{arith}
use Rattle.field_laws.specs.{Ring.Ring2, Field.Field2}
use Rattle.char2_algebra.specs.Polynomials.{Polynomials}
use Rattle.char2_algebra.proofs.Ring.{ring2, by, both, combine}
use Rattle.char2_algebra.proofs.{Degree.len_add_less, Degree.nonzero_of_len, Product.len_mul_le, Product.len_square, Product.mul_nonzero, Division.quot_mul, Division.len_quot, Lead.monic_nonzero}
use Rattle.class_group.specs.{Curve.Curve, Mumford.Pair, Mumford.Reduced, Mumford.value, Reduction.reduction_step, Reduction.reduce_to, Reduction.reduce}
use Rattle.class_group.proofs.SemiReduced.{SemiReduced, semi_of_reduced, cofactor_eq, cofactor_len, step_semi, step_len, reduce_stop, reduce_go}
use Rattle.class_group.proofs.Norm.{value_len}

module _ {B : Type 0} (R : Ring2 B) where
  open R use {add as ◌⊞◌, mul as ◌·◌, one as 𝟙}

  infixl 60 ◌⊞◌
  infixl 70 ◌·◌
  double_identity : (f u v w q r : B)
      → v · v ⊞ v ⊞ f ≡ w · u
      → v · v ⊞ f ≡ q · (u · u) ⊞ r
      → r · r ⊞ r ⊞ f ≡ (w · w ⊞ q ⊞ q · q · (u · u)) · (u · u)
  double_identity f u v w q r g h = combine R _ _ (both R (by R (v · v ⊞ v ⊞ f ⊞ w · u) g) (by R (v · v ⊞ f ⊞ (q · (u · u) ⊞ r) ⊞ 𝟙) h)) (simp (ring2, R))

module _ {K P : Type 0} {F : Field2 K} {A : Polynomials F P} (C : Curve A) where
  open A use {ring as R, len, quot, rem}
  open A.ring use {add as ◌⊞◌, mul as ◌·◌, zero as 𝟘}
  open C use {f}

  infixl 60 ◌⊞◌
  infixl 70 ◌·◌
  -- no step is made, however many are allowed
  stop : (n steps : ℕ) (D : Pair P) → len D.u ≤ 4 → reduce_to C n steps D ≡ record { class = D; steps = steps }
  unfolding reduce_to
  stop zero steps D h = refl
  stop (suc n) steps D h = reduce_stop C n steps D h

  pub reduce_none : (D : Pair P) → len D.u ≤ 4 → reduce C D ≡ record { class = D; steps = 0 }
  unfolding reduce
  reduce_none D h = stop (len D.u) 0 D h

  once_to : (n : ℕ) (D : Pair P) → 0 < n → 4 < len D.u → len (reduction_step C D).u ≤ 4 → reduce_to C n 0 D ≡ record { class = reduction_step C D; steps = 1 }
  once_to zero D p h k = absurd (omega arith)
  once_to (suc n) D p h k = reduce_go C n 0 D h ∙ stop n 1 (reduction_step C D) k

  pub reduce_once : (D : Pair P) → 4 < len D.u → len (reduction_step C D).u ≤ 4 → reduce C D ≡ record { class = reduction_step C D; steps = 1 }
  unfolding reduce
  reduce_once D h k = once_to (len D.u) D (omega arith) h k

  twice_to : (n : ℕ) (D : Pair P)
      → 1 < n
      → 4 < len D.u
      → 4 < len (reduction_step C D).u
      → len (reduction_step C (reduction_step C D)).u ≤ 4
      → reduce_to C n 0 D ≡ record { class = reduction_step C (reduction_step C D); steps = 2 }
  twice_to zero D p h k l = absurd (omega arith)
  twice_to (suc zero) D p h k l = absurd (omega arith)
  twice_to (suc (suc n)) D p h k l = reduce_go C (suc n) 0 D h ∙ reduce_go C n 1 (reduction_step C D) k ∙ stop n 2 (reduction_step C (reduction_step C D)) l

  -- from degree 6 the first step leads to at most 4, and the second to at most 3
  pub reduce_twice : (D : Pair P)
      → SemiReduced C D
      → len D.u ≤ 7
      → 4 < len D.u
      → 4 < len (reduction_step C D).u
      → reduce C D ≡ record { class = reduction_step C (reduction_step C D); steps = 2 }
  unfolding reduce
  reduce_twice D s m h k =
      let a : len (reduction_step C D).u ≤ 5 = (step_len C s h m).0 in
      twice_to (len D.u) D (omega arith) h k ((step_len C (step_semi C s) k (omega arith)).1 (omega arith))

  -- the composition of a double
  module _ {D : Pair P} (r : Reduced C D) where
    open D use {u, v}

    pub square_nonzero : ¬ (u · u ≡ 𝟘)
    square_nonzero = mul_nonzero A u u (monic_nonzero A u r.u_monic) (monic_nonzero A u r.u_monic)

    pub square_len : suc (len (u · u)) ≡ len u + len u
    square_len = len_square A u (monic_nonzero A u r.u_monic)

    pub double_cofactor :
        quot (value C (rem (v · v ⊞ f) (u · u))) (u · u)
        ≡ quot (value C v) u · quot (value C v) u ⊞ quot (v · v ⊞ f) (u · u) ⊞ quot (v · v ⊞ f) (u · u) · quot (v · v ⊞ f) (u · u) · (u · u)
    unfolding value
    double_cofactor =
        ap (λ z. quot z (u · u))
        (double_identity R f u v (quot (value C v) u) (quot (v · v ⊞ f) (u · u)) (rem (v · v ⊞ f) (u · u)) (cofactor_eq C (semi_of_reduced C r)) (A.division (v · v ⊞ f) (u · u) square_nonzero))
        ∙ quot_mul A (u · u) square_nonzero _

    -- the lengths: of w at most 6, of the quotient at most 4
    pub cofactor_short : 2 < len u → len (quot (value C v) u) ≤ 6
    unfolding value
    cofactor_short h =
        let l : suc (len (value C v)) ≡ len (quot (value C v) u) + len u = cofactor_len C (semi_of_reduced C r) in
        let n : suc (len (value C v)) ≡ max (2 * len v) 9 = value_len A f C.f_len v in
        let a : len v < len u = r.v_len in
        let b : len u ≤ 4 = r.u_len in
        omega arith

    pub quotient_short :
        2 < len u
        → (len (quot (v · v ⊞ f) (u · u)) ≤ 6) × (len (quot (v · v ⊞ f) (u · u) · quot (v · v ⊞ f) (u · u)) + len (u · u) ≤ 13)
    quotient_short h =
        let q = quot (v · v ⊞ f) (u · u) in
        let a : len v < len u = r.v_len in
        let b : len u ≤ 4 = r.u_len in
        let e : len f ≡ 8 = C.f_len in
        let s : len (v · v) ≤ 5 = len_mul_le A 2 3 v v (omega arith) (omega arith) in
        let n : len (v · v ⊞ f) ≡ len f = len_add_less A (v · v) f (omega arith) in
        let m : suc (len (u · u)) ≡ len u + len u = square_len in
        let k : suc (len (v · v ⊞ f)) ≡ len q + len (u · u) = len_quot A (u · u) square_nonzero (v · v ⊞ f) (omega arith) in
        let t : suc (len (q · q)) ≡ len q + len q = len_square A q (nonzero_of_len A q (omega arith)) in
        (omega arith, omega arith)
