-- Semi-reduced pairs: u monic, v shorter than u, u a divisor of v² + v + f.
-- `semi_of_reduced`: a reduced class is semi-reduced.
-- `reduced_of_semi`: a semi-reduced pair with u of degree at most 3 is a reduced class.
-- `value_congruent`: whether u divides v² + v + f depends on v modulo u only.
-- `value_one`: v² + v + f is the same for v and v + 1.
-- `step_semi`: a reduction step of a semi-reduced pair is semi-reduced.
-- `step_len`: a reduction step takes u of length 7, 6, 5 to length at most 5, 4, 4.
-- `reduce_keeps`: a predicate that reduction steps keep is kept by reduction.
-- `reduce_ended`: reduction of a pair with u of degree at most 6 ends in a reduced class after at most two steps.
use Prim.Native.Nat.{ℕ, zero, suc, ◌+◌, ◌≤◌, ◌<◌, ◌*◌, max}
use mathlib.Core.Path.{◌≡◌, sym, ◌∙◌, ap}
use native.Mathlib.{Omega.arith, Decide.dec_le}
use borrow.Author.Tests.{lt-ltb, le-ltb}
use Rattle.field_laws.specs.{Field.Field2}
use Rattle.char2_algebra.specs.{Polynomials.Polynomials, Divides.Divides, Lead.Monic, Lead.monic_of}
use Rattle.char2_algebra.proofs.{Ring.ring2, Ring.𝟘_·, Product.len_mul, Divides.divides_eq, Divides.divides_add, Divides.divides_mul_right, Division.quot_exact, Division.rem_divides}
use Rattle.char2_algebra.proofs.Lead.{monic_nonzero, monic_of_monic, monic_of_divides, len_monic_of}
use Rattle.class_group.specs.{Curve.Curve, Mumford.Pair, Mumford.Reduced, Mumford.value}
use Rattle.class_group.specs.Reduction.{Counted, reduction_step, reduce_to, reduce}
use Rattle.class_group.proofs.Norm.{value_len, value_nonzero}

module _ {K P : Type 0} {F : Field2 K} {A : Polynomials F P} (C : Curve A) where
  open A use {ring as R, len, quot, rem}
  open A.ring use {add as ◌⊞◌, mul as ◌·◌, zero as 𝟘, one as 𝟙}
  open C use {f}

  infixl 60 ◌⊞◌
  infixl 70 ◌·◌
  -- u is monic, v shorter than u, and u divides v² + v + f
  pub record SemiReduced (D : Pair P) : Type 0 where
    pub u_monic : Monic A D.u
    pub v_len : len D.v < len D.u
    pub divides : Divides R D.u (value C D.v)

  pub semi_of_reduced : {D : Pair P} → Reduced C D → SemiReduced D
  semi_of_reduced r = record { u_monic = r.u_monic; v_len = r.v_len; divides = r.divides }

  pub reduced_of_semi : {D : Pair P} → SemiReduced D → len D.u ≤ 4 → Reduced C D
  reduced_of_semi s h = record { u_monic = s.u_monic; u_len = h; v_len = s.v_len; divides = s.divides }

  pub value_congruent : {u v v' : P} → Divides R u (v ⊞ v') → Divides R u (value C v) → Divides R u (value C v')
  unfolding value
  value_congruent {u} {v} {v'} d e = divides_eq R (change v v' f) (divides_add R e (divides_mul_right R (v ⊞ v' ⊞ 𝟙) d))
    where
      change : (v v' f : P) → v · v ⊞ v ⊞ f ⊞ (v ⊞ v') · (v ⊞ v' ⊞ 𝟙) ≡ v' · v' ⊞ v' ⊞ f
      change v v' f = simp (ring2, R)

  pub value_one : (v : P) → value C (v ⊞ 𝟙) ≡ value C v
  unfolding value
  value_one v = same v f
    where
      same : (v f : P) → (v ⊞ 𝟙) · (v ⊞ 𝟙) ⊞ (v ⊞ 𝟙) ⊞ f ≡ v · v ⊞ v ⊞ f
      same v f = simp (ring2, R)

  -- a reduction step
  module _ {D : Pair P} (s : SemiReduced D) where
    open D use {u, v}

    u_nonzero : ¬ (u ≡ 𝟘)
    u_nonzero = monic_nonzero A u s.u_monic

    pub cofactor_eq : value C v ≡ quot (value C v) u · u
    cofactor_eq = quot_exact A u u_nonzero (value C v) s.divides

    pub cofactor_nonzero : ¬ (quot (value C v) u ≡ 𝟘)
    unfolding value
    cofactor_nonzero e = value_nonzero A f C.f_len v (cofactor_eq ∙ ap (λ z. z · u) e ∙ 𝟘_· R u)

    pub cofactor_len : suc (len (value C v)) ≡ len (quot (value C v) u) + len u
    cofactor_len = ap (λ z. suc (len z)) cofactor_eq ∙ len_mul A (quot (value C v) u) u cofactor_nonzero u_nonzero

    pub step_semi : SemiReduced (reduction_step C D)
    unfolding reduction_step
    step_semi =
        let w = quot (value C v) u in
        let m : Monic A (monic_of A w) = monic_of_monic A w cofactor_nonzero in
        let n : ¬ (monic_of A w ≡ 𝟘) = monic_nonzero A (monic_of A w) m in
        record {
          u_monic = m;
          v_len = A.rem_len (v ⊞ 𝟙) (monic_of A w) n;
          divides =
              value_congruent (rem_divides A (monic_of A w) n (v ⊞ 𝟙))
              (divides_eq R (sym cofactor_eq ∙ sym (value_one v)) (divides_mul_right R u (monic_of_divides A w)));
        }

    pub step_len : 4 < len u → len u ≤ 7 → (len (reduction_step C D).u ≤ 5) × (len u ≤ 6 → len (reduction_step C D).u ≤ 4)
    unfolding reduction_step value
    step_len h k =
        let l : suc (len (value C v)) ≡ len (quot (value C v) u) + len u = cofactor_len in
        let m : len (monic_of A (quot (value C v) u)) ≡ len (quot (value C v) u) = len_monic_of A (quot (value C v) u) in
        let n : suc (len (value C v)) ≡ max (2 * len v) 9 = value_len A f C.f_len v in
        let b : len v < len u = s.v_len in
        omega arith

  -- the two cases of reduction
  pub reduce_stop : (n steps : ℕ) (D : Pair P) → len D.u ≤ 4 → reduce_to C (suc n) steps D ≡ record { class = D; steps = steps }
  unfolding reduce_to
  reduce_stop n steps D h = rw (le-ltb 4 (len D.u) h, reduce_to)

  pub reduce_go : (n steps : ℕ) (D : Pair P) → 4 < len D.u → reduce_to C (suc n) steps D ≡ reduce_to C n (suc steps) (reduction_step C D)
  unfolding reduce_to
  reduce_go n steps D h = rw (lt-ltb 4 (len D.u) h, reduce_to)

  module _ (Q : Pair P → Type 0) (keeps : (D : Pair P) → SemiReduced D → Q D → Q (reduction_step C D)) where
    reduce_to_keeps : (n steps : ℕ) (D : Pair P) → SemiReduced D → Q D → Q (reduce_to C n steps D).class
    unfolding reduce_to
    reduce_to_keeps zero steps D s q = q
    reduce_to_keeps (suc n) steps D s q =
        go (reduce_to_keeps n (suc steps) (reduction_step C D) (step_semi s) (keeps D s q)) (dec_le (len D.u) 4)
      where
        go : Q (reduce_to C n (suc steps) (reduction_step C D)).class → Dec (len D.u ≤ 4) → Q (reduce_to C (suc n) steps D).class
        go ih (yes h) = rw (reduce_stop n steps D h) q
        go ih (no h) = rw (reduce_go n steps D (omega arith)) ih

    pub reduce_keeps : (D : Pair P) → SemiReduced D → Q D → Q (reduce C D).class
    unfolding reduce
    reduce_keeps D s q = reduce_to_keeps (len D.u) 0 D s q

  -- reduction ended in a reduced class within so many steps
  pub record Ended (limit : ℕ) (r : Counted P) : Type 0 where
    pub reduced : Reduced C r.class
    pub steps_le : r.steps ≤ limit

  -- u of length 4 needs no step, of length 6 one, of length 7 two
  ended_0 : (n limit steps : ℕ) (D : Pair P) → SemiReduced D → len D.u ≤ 4 → steps ≤ limit → Ended limit (reduce_to C n steps D)
  unfolding reduce_to
  ended_0 zero limit steps D s h l = record { reduced = reduced_of_semi s h; steps_le = l }
  ended_0 (suc n) limit steps D s h l = rw (reduce_stop n steps D h) (record { reduced = reduced_of_semi s h; steps_le = l })

  ended_1 : (n limit steps : ℕ) (D : Pair P) → SemiReduced D → len D.u ≤ 6 → suc steps ≤ limit → 1 ≤ n → Ended limit (reduce_to C n steps D)
  ended_1 zero limit steps D s h l k = absurd (omega arith)
  ended_1 (suc n) limit steps D s h l k = elim (dec_le (len D.u) 4) [
    | yes a ↦ ended_0 (suc n) limit steps D s a (omega arith)
    | no a ↦ rw (reduce_go n steps D (omega arith)) (ended_0 n limit (suc steps) (reduction_step C D) (step_semi s) ((step_len s (omega arith) (omega arith)).1 h) l)
  ]

  ended_2 : (n limit steps : ℕ) (D : Pair P) → SemiReduced D → len D.u ≤ 7 → suc (suc steps) ≤ limit → 2 ≤ n → Ended limit (reduce_to C n steps D)
  ended_2 zero limit steps D s h l k = absurd (omega arith)
  ended_2 (suc n) limit steps D s h l k = elim (dec_le (len D.u) 4) [
    | yes a ↦ ended_0 (suc n) limit steps D s a (omega arith)
    | no a ↦
        (let b : len (reduction_step C D).u ≤ 5 = (step_len s (omega arith) h).0 in
        rw (reduce_go n steps D (omega arith)) (ended_1 n limit (suc steps) (reduction_step C D) (step_semi s) (omega arith) l (omega arith)))
  ]

  -- demand 2: reduction of a pair with u of degree at most 6 ends in a reduced class, after at most two steps
  pub reduce_ended : {D : Pair P} → SemiReduced D → len D.u ≤ 7 → Ended 2 (reduce C D)
  unfolding reduce
  reduce_ended {D} s h = elim (dec_le (len D.u) 4) [
    | yes a ↦ ended_0 (len D.u) 2 0 D s a (omega arith)
    | no a ↦ ended_2 (len D.u) 2 0 D s h (omega arith) (omega arith)
  ]
