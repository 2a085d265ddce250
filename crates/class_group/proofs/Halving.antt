-- Halving of reduced classes.
-- `half_reduced`: the half of a reduced class is a reduced class.
-- `double_half`: the double of the half is the class.
-- `half_unique`: the half is the only reduced class whose double is the class.
-- `half_double`: the half of the double is the class.
-- `class_halving`: the reduced classes are a commutative group in which each has exactly one half.
-- `chain_reduced`: a half that is found by a chain of lifts and steps is reduced.
-- `chain_double`: the double of such a half is the class.
use Prim.Native.Nat.{ℕ, zero, suc, ◌≤◌, ◌<◌}
use mathlib.Core.Path.{◌≡◌, refl, sym, ◌∙◌, ap, subst}
use native.Mathlib.{Omega.arith, Decide.dec_le}
use Rattle.field_laws.specs.{Ring.Ring2, Field.Field2}
use Rattle.char2_algebra.specs.{Polynomials.Polynomials, Divides.Divides}
use Rattle.char2_algebra.proofs.{Ring.ring2, Ring.⊞_cancel, Ring.by, Ring.both, Ring.combine, Degree.con_mul, Degree.con_one, Degree.one_nonzero, Product.cancel_left}
use Rattle.char2_algebra.proofs.{Divides.divides_refl, Divides.divides_eq, Divides.divides_trans, Divides.divides_right, Divides.divides_product, Divides.divides_add, Division.rem_divides, Lead.monic_nonzero}
use Rattle.class_group.specs.{Curve.Curve, Mumford.Pair, Mumford.Reduced, Mumford.value, Mumford.neutral, Mumford.opposite, Operations.sum, Operations.double, Group.Halving}
use Rattle.class_group.specs.Half.{Triple, triple, lift, exchange, half, half_by}
use Rattle.class_group.proofs.{Reduction.~_step, Composition.~_double, Ideal.Equivalent, Ideal.~_sym}
use Rattle.class_group.proofs.{Triple.Meets, Triple.Chain, Triple.start, Triple.lifted, Triple.stepped, Triple.chain_meets}
use Rattle.class_group.proofs.{HalfChain.HalfChain, HalfChain.half_chain, HalfChain.triple_meets}
use Rattle.class_group.proofs.{SemiReduced.value_congruent, SemiReduced.semi_of_reduced, Classes.functions, Classes.ideal, Classes.same_class, Classes.transitive, Classes.equal_class}
use Rattle.class_group.proofs.{Adds.short_is_neutral, Closed.neutral_reduced, Group.double_from_class, Group.double_sum, Group.sum_neutral, Group.double_injective, Group.class_doubling, Doublings.half_double as group_half_double}

module _ {B : Type 0} (R : Ring2 B) where
  open R use {add as ◌⊞◌, mul as ◌·◌, one as 𝟙}

  infixl 60 ◌⊞◌
  infixl 70 ◌·◌
  -- a a = c u, i c = 1 and value = w u: so value = (i w) (a a)
  square_divides_value : (a c i u w s : B) → a · a ≡ c · u → c · i ≡ 𝟙 → s ≡ w · u → s ≡ i · w · (a · a)
  square_divides_value a c i u w s h k e =
      combine R _ _ (both R (by R 𝟙 e) (both R (by R (i · w) h) (by R (w · u) k))) (simp (ring2, R))

  -- u = i (a a)
  unit_multiple : (a c i u : B) → a · a ≡ c · u → c · i ≡ 𝟙 → u ≡ i · (a · a)
  unit_multiple a c i u h k = combine R _ _ (both R (by R i h) (by R u k)) (simp (ring2, R))

  -- v² + v + f plus (v + r)² is r² + f + v
  remainder_square : (v r f : B) → v · v ⊞ v ⊞ f ⊞ (v ⊞ r) · (v ⊞ r) ≡ r · r ⊞ f ⊞ v
  remainder_square v r f = simp (ring2, R)

module _ {K P : Type 0} {F : Field2 K} {A : Polynomials F P} (C : Curve A) where
  open A use {ring as R, len, rem, con}
  open A.ring use {add as ◌⊞◌, mul as ◌·◌, zero as 𝟘, one as 𝟙}
  open C use {f}

  infixl 60 ◌⊞◌
  infixl 70 ◌·◌
  abbrev Same : Pair P → Pair P → Type 0
  Same D E = Equivalent (functions C) (ideal C D) (ideal C E)

  abbrev pair_of : Triple P → Pair P
  pair_of T = record { u = T.u; v = T.v }

  -- a chain of lifts and steps keeps the class
  chain_class : {S T : Triple P} → Meets C S → Chain C S T → Same (pair_of S) (pair_of T)
  unfolding lift exchange value
  chain_class m start = equal_class C (λ x h. h) (λ x h. h)
  chain_class m (lifted {T = T} k c) =
      transitive C (chain_class m c)
      (same_class C (pair_of T) (pair_of (lift A k T)) (divides_refl R T.u) (divides_refl R T.u) (k, ⊞_cancel R T.v (k · T.u)))
  chain_class m (stepped {T = T} h c) =
      transitive C (chain_class m c) (~_step R f T.u T.v T.w (chain_meets C c m) (one_nonzero A) h)

  module _ (D : Pair P) (r : Reduced C D) (H : Pair P) (k : HalfChain C D r H) where
    a : P
    a = H.u

    i : P
    i = con (F.inverse k.c)

    inverts : con k.c · i ≡ 𝟙
    unfolding i
    inverts = sym (con_mul A k.c (F.inverse k.c)) ∙ ap con (F.mul_inverse k.c k.root.factor) ∙ con_one A

    meets : Meets C k.T
    meets = chain_meets C k.chain (triple_meets C D r)

    square_divides : Divides R (a · a) (value C k.T.v)
    unfolding a
    square_divides = (i · k.T.w, square_divides_value R a (con k.c) i k.T.u k.T.w (value C k.T.v) k.root.square inverts meets)

    a≢ : ¬ (a ≡ 𝟘)
    unfolding a
    a≢ = monic_nonzero A a k.root.monic

    -- v + (v rem a) is a multiple of a
    v_difference : Divides R a (k.T.v ⊞ H.v)
    unfolding a
    v_difference = divides_eq R (ap (λ z. k.T.v ⊞ z) (sym k.v_is)) (rem_divides A a a≢ k.T.v)

    pub chain_reduced : Reduced C H
    unfolding a
    chain_reduced =
        record {
          u_monic = k.root.monic;
          u_len = (let l : len H.u ≡ suc k.m = k.root.length in let s : k.m ≤ 3 = k.short in omega arith);
          v_len = (let l : len (rem k.T.v a) < len a = A.rem_len k.T.v a a≢ in let e : len H.v ≡ len (rem k.T.v a) = ap len k.v_is in omega arith);
          divides = value_congruent C v_difference (divides_trans R (divides_right R a a) square_divides);
        }

    doubled_v : Divides R (a · a) (H.v · H.v ⊞ f ⊞ k.T.v)
    unfolding value
    doubled_v = divides_eq R (remainder_square R k.T.v H.v f) (divides_add R square_divides (divides_product R v_difference v_difference))

    doubled_class : Same (record { u = a · a; v = H.v · H.v ⊞ f }) (pair_of k.T)
    unfolding a
    doubled_class =
        same_class C (record { u = a · a; v = H.v · H.v ⊞ f }) (pair_of k.T)
        (con k.c, k.root.square)
        (i, unit_multiple R a (con k.c) i k.T.u k.root.square inverts)
        (divides_trans R (con k.c, k.root.square) doubled_v)

    pub chain_double : double C H ≡ D
    unfolding a value triple
    chain_double =
        double_from_class C chain_reduced r
        (transitive C (~_double R f (cancel_left A) H.u H.v a≢ chain_reduced.divides (one_nonzero A))
        (transitive C doubled_class (~_sym (functions C) (chain_class (triple_meets C D r) k.chain))))

  half_short : (D : Pair P) → len D.u ≤ 1 → half C D ≡ D
  unfolding half half_by
  half_short D h = go (len D.u) h
    where
      go : (n : ℕ) → n ≤ 1 → half_by C n D ≡ D
      go zero l = refl
      go (suc zero) l = refl
      go (suc (suc n)) l = absurd (omega arith)

  double_neutral : double C (neutral C) ≡ neutral C
  double_neutral = double_sum C (neutral_reduced C) ∙ sum_neutral C (neutral_reduced C)

  -- demand 2: the half of a class is reduced
  pub half_reduced : {D : Pair P} → Reduced C D → Reduced C (half C D)
  half_reduced {D} r = elim (dec_le (len D.u) 1) [
    | yes h ↦ subst (Reduced C) (sym (half_short D h)) r
    | no h ↦ chain_reduced D r (half C D) (half_chain C D r (omega arith))
  ]

  -- demands 2 and 3: the double of the half is the class
  pub double_half : {D : Pair P} → Reduced C D → double C (half C D) ≡ D
  double_half {D} r = elim (dec_le (len D.u) 1) [
    | yes h ↦
        (let e : D ≡ neutral C = short_is_neutral C (semi_of_reduced C r) h in
        ap (double C) (half_short D h ∙ e) ∙ double_neutral ∙ sym e)
    | no h ↦ chain_double D r (half C D) (half_chain C D r (omega arith))
  ]

  -- demand 3: no other reduced class has this class as its double
  pub half_unique : {D E : Pair P} → Reduced C D → Reduced C E → double C E ≡ D → E ≡ half C D
  half_unique r s e = double_injective C s (half_reduced r) (e ∙ sym (double_half r))

  pub class_halving : Halving (Reduced C) (sum C) (neutral C) (opposite C) (double C) (half C)
  class_halving = record { doubling = class_doubling C; half_closed = λ r. half_reduced r; double_half = λ r. double_half r }

  -- demand 3: doubling and halving undo each other
  pub half_double : {D : Pair P} → Reduced C D → half C (double C D) ≡ D
  half_double r = group_half_double class_halving r
