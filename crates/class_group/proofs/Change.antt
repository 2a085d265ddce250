-- A change of variables takes the classes of y² + y = f to those of y² + y = f(x + c) + g² + g.
-- `through_map`, `through_back`: p + q y ↦ p(x + c) + q(x + c) (y + g) is an isomorphism of the coordinate rings.
-- `through_ideal`: it takes the ideal of a pair into that of the changed pair.
-- `back_onto`, `changed_back`, `back_changed`: the change back undoes the change.
-- `changed_u_len`, `changed_reduced`: a changed class is reduced, and its u has the same degree.
-- `changed_sum`: sums become sums.
-- `changed_neutral`, `changed_opposite`: the neutral class becomes the neutral class, and opposites become opposites.
-- `changed_double`, `changed_half`: doubles become doubles, and halves become halves.
-- `changed_double_and_add`, `changed_subtract_and_halve`: the two rules that move a seal give the changed seal.
-- `changed_multiple`, `changed_doublings`, `changed_halvings`: multiples, repeated doubles and halves become such.
use Prim.Native.Nat.{ℕ, ◌≤◌, ◌<◌}
use mathlib.Core.Path.{◌≡◌, sym, ◌∙◌, ap, ap₂, subst}
use native.Mathlib.Omega.{arith}
use Rattle.field_laws.specs.{Ring.Ring2, Field.Field2}
use Rattle.char2_algebra.specs.{Polynomials.Polynomials, Divides.Divides, Lead.Monic, Shift.shift}
use Rattle.char2_algebra.proofs.{Ring.ring2, Ring.by, Ring.combine, Shift.shift_add, Shift.shift_mul, Shift.shift_shift, Shift.len_shift, Shift.lead_shift, Lead.monic_nonzero, Divides.divides_eq, Divides.divides_by_eq, Division.rem_divides, Division.rem_congruent, Division.rem_short}
use Rattle.class_group.specs.{Curve.Curve, Mumford.Pair, Mumford.Reduced, Mumford.value, Mumford.neutral, Mumford.opposite, Operations.sum, Operations.double, Half.half}
use Rattle.class_group.specs.{Moves.double_and_add, Moves.subtract_and_halve, Multiples.repeat, Multiples.multiple, Carrying.Change, Carrying.changed_f, Carrying.changed, Carrying.change_back}
use Rattle.class_group.proofs.{Coordinate.coordinate, PairIdeal.pair_ideal, PairIdeal.pair_ideal_modulo, RingMaps.RingMap, RingMaps.map_product, RingMaps.map_equivalent, SemiReduced.value_congruent}
use Rattle.class_group.proofs.{GroupLaws.GroupMap, GroupLaws.map_neutral, GroupLaws.map_opposite, Multiples.map_multiple, Doublings.map_double, Doublings.map_half, Doublings.repeat_map}
use Rattle.class_group.proofs.{Classes.functions, Classes.ideal, Closed.opposite_reduced, Closed.sum_reduced, Closed.double_reduced, Group.classes, Group.sum_adds, Group.sum_from_class, Halving.class_halving, Halving.half_reduced}

module _ {B : Type 0} (R : Ring2 B) where
  open R use {add as ◌⊞◌, mul as ◌·◌}

  infixl 60 ◌⊞◌
  infixl 70 ◌·◌
  through_mul₀ : (f f' g p q p' q' : B) → f' ≡ f ⊞ g · g ⊞ g
      → p · p' ⊞ q · q' · f ⊞ (p · q' ⊞ q · p' ⊞ q · q') · g ≡ (p ⊞ q · g) · (p' ⊞ q' · g) ⊞ q · q' · f'
  through_mul₀ f f' g p q p' q' h = combine R _ _ (by R (q · q') h) (simp (ring2, R))

  through_mul₁ : (g p q p' q' : B) → p · q' ⊞ q · p' ⊞ q · q' ≡ (p ⊞ q · g) · q' ⊞ q · (p' ⊞ q' · g) ⊞ q · q'
  through_mul₁ g p q p' q' = simp (ring2, R)

  through_add₀ : (g p q p' q' : B) → p ⊞ p' ⊞ (q ⊞ q') · g ≡ p ⊞ q · g ⊞ (p' ⊞ q' · g)
  through_add₀ g p q p' q' = simp (ring2, R)

  through_member : (g p q v : B) → p ⊞ q · v ≡ p ⊞ q · g ⊞ q · (v ⊞ g)
  through_member g p q v = simp (ring2, R)

  reversed : (a b c : B) → a ⊞ b ⊞ c ≡ c ⊞ b ⊞ a
  reversed a b c = simp (ring2, R)

  same_twice : (a b : B) → a ⊞ b ⊞ b ≡ a
  same_twice a b = simp (ring2, R)

  f_twice : (f g : B) → f ⊞ g · g ⊞ g ⊞ g · g ⊞ g ≡ f
  f_twice f g = simp (ring2, R)

  changed_value : (f f' g v : B) → f' ≡ f ⊞ g · g ⊞ g → v · v ⊞ v ⊞ f ≡ (v ⊞ g) · (v ⊞ g) ⊞ (v ⊞ g) ⊞ f'
  changed_value f f' g v h = combine R _ _ (by R R.one h) (simp (ring2, R))

module _ {K P : Type 0} {F : Field2 K} (A : Polynomials F P) (t : Change K P) where
  open A use {ring as R}
  open A.ring use {add as ◌⊞◌, mul as ◌·◌}
  open t use {c, g}

  infixl 60 ◌⊞◌
  infixl 70 ◌·◌
  -- p + q y becomes p(x + c) + q(x + c) (y + g)
  unfoldable pub through : P × P → P × P
  through a = (shift A c a.0 ⊞ shift A c a.1 · g, shift A c a.1)

module _ {K P : Type 0} {F : Field2 K} (A : Polynomials F P) (t : Change K P) where
  open A use {ring as R, len, rem}
  open A.ring use {add as ◌⊞◌, mul as ◌·◌, zero as 𝟘}
  open t use {c, g}

  infixl 60 ◌⊞◌
  infixl 70 ◌·◌
  -- p(x + c)
  abbrev σ : P → P
  σ p = shift A c p

  back_back : change_back A (change_back A t) ≡ t
  unfolding change_back
  back_back i = record { c = c; g = shift_shift A c g i }

  shift_divides : {p q : P} → Divides R p q → Divides R (σ p) (σ q)
  shift_divides {p} (k, e) = (σ k, ap σ e ∙ shift_mul A c k p)

  shift_sum_twice : (p q : P) → σ (σ p ⊞ q) ⊞ σ q ≡ p
  shift_sum_twice p q = ap (λ z. z ⊞ σ q) (shift_add A c (σ p) q ∙ ap (λ z. z ⊞ σ q) (shift_shift A c p)) ∙ same_twice R p (σ q)

  shift_product₀ : (f p q p' q' : P) → σ (p · p' ⊞ q · q' · f) ≡ σ p · σ p' ⊞ σ q · σ q' · σ f
  shift_product₀ f p q p' q' = simp (shift_add A c, shift_mul A c)

  shift_product₁ : (p q p' q' : P) → σ (p · q' ⊞ q · p' ⊞ q · q') ≡ σ p · σ q' ⊞ σ q · σ p' ⊞ σ q · σ q'
  shift_product₁ p q p' q' = simp (shift_add A c, shift_mul A c)

  -- it keeps sums and products
  pub through_map : (f f' : P) → f' ≡ changed_f A t f → RingMap (coordinate R f) (coordinate R f') (through A t)
  unfolding coordinate through changed_f
  through_map f f' onto = record {
    map_add = λ a b i. (add₀ a b i, shift_add A c a.1 b.1 i);
    map_mul = λ a b i. (mul₀ a b i, mul₁ a b i);
  }
    where
      add₀ : (a b : P × P) → σ (a.0 ⊞ b.0) ⊞ σ (a.1 ⊞ b.1) · g ≡ σ a.0 ⊞ σ a.1 · g ⊞ (σ b.0 ⊞ σ b.1 · g)
      add₀ a b = ap₂ (λ y z. y ⊞ z · g) (shift_add A c a.0 b.0) (shift_add A c a.1 b.1) ∙ through_add₀ R g _ _ _ _

      mul₀ : (a b : P × P) → σ (a.0 · b.0 ⊞ a.1 · b.1 · f) ⊞ σ (a.0 · b.1 ⊞ a.1 · b.0 ⊞ a.1 · b.1) · g ≡ (σ a.0 ⊞ σ a.1 · g) · (σ b.0 ⊞ σ b.1 · g) ⊞ σ a.1 · σ b.1 · f'
      mul₀ a b =
          ap₂ (λ y z. y ⊞ z · g) (shift_product₀ f a.0 a.1 b.0 b.1) (shift_product₁ a.0 a.1 b.0 b.1)
          ∙ through_mul₀ R (σ f) f' g _ _ _ _ onto

      mul₁ : (a b : P × P) → σ (a.0 · b.1 ⊞ a.1 · b.0 ⊞ a.1 · b.1) ≡ (σ a.0 ⊞ σ a.1 · g) · σ b.1 ⊞ σ a.1 · (σ b.0 ⊞ σ b.1 · g) ⊞ σ a.1 · σ b.1
      mul₁ a b = shift_product₁ a.0 a.1 b.0 b.1 ∙ through_mul₁ R g _ _ _ _

  -- its inverse is that of the change back
  pub through_back : (a : P × P) → through A (change_back A t) (through A t a) ≡ a
  unfolding through change_back
  through_back a = λ i. (first i, shift_shift A c a.1 i)
    where
      first : σ (σ a.0 ⊞ σ a.1 · g) ⊞ σ (σ a.1) · σ g ≡ a.0
      first = ap (λ z. σ (σ a.0 ⊞ σ a.1 · g) ⊞ z) (sym (shift_mul A c (σ a.1) g)) ∙ shift_sum_twice a.0 _

  -- it takes the ideal of (u, v) into that of (u(x + c), v(x + c) + g)
  pub through_ideal : (u v : P) (a : P × P) → pair_ideal R u v a → pair_ideal R (σ u) (σ v ⊞ g) (through A t a)
  unfolding through
  through_ideal u v (p, q) d =
      divides_eq R (shift_add A c p (q · v) ∙ ap (λ z. σ p ⊞ z) (shift_mul A c q v) ∙ through_member R g _ _ _) (shift_divides d)

  pub changed_u_len : (D : Pair P) → len (changed A t D).u ≡ len D.u
  unfolding changed
  changed_u_len D = len_shift A c D.u

  -- pairs with u monic
  module _ (D : Pair P) (monic : Monic A D.u) where
    pub changed_monic : Monic A (changed A t D).u
    unfolding changed
    changed_monic = lead_shift A c D.u ∙ monic

    u_nonzero : ¬ (D.u ≡ 𝟘)
    u_nonzero = monic_nonzero A D.u monic

    changed_nonzero : ¬ ((changed A t D).u ≡ 𝟘)
    changed_nonzero = monic_nonzero A (changed A t D).u changed_monic

    -- v(x + c) + g and its remainder
    pub changed_v : Divides R (changed A t D).u (σ D.v ⊞ g ⊞ (changed A t D).v)
    unfolding changed
    changed_v = rem_divides A (changed A t D).u changed_nonzero (σ D.v ⊞ g)

    -- the v of the changed pair, changed back, and v
    changed_back_v : Divides R D.u (σ (changed A t D).v ⊞ σ g ⊞ D.v)
    unfolding changed
    changed_back_v =
        divides_by_eq R (shift_shift A c D.u)
        (divides_eq R
        (shift_add A c _ _ ∙ ap (λ z. z ⊞ σ (changed A t D).v) (shift_add A c _ g ∙ ap (λ z. z ⊞ σ g) (shift_shift A c D.v)) ∙ reversed R _ _ _)
        (shift_divides changed_v))

    pub changed_twice : len D.v < len D.u → changed A (change_back A t) (changed A t D) ≡ D
    unfolding changed change_back
    changed_twice h =
        ap (λ z. record { u = z; v = rem (σ (changed A t D).v ⊞ σ g) z }) (shift_shift A c D.u)
        ∙ (λ i. record { u = D.u; v = (rem_congruent A D.u u_nonzero _ D.v changed_back_v ∙ rem_short A D.v D.u h) i })

    -- the ideal of the pair goes into that of the changed pair
    pub through_pair : (a : P × P) → pair_ideal R D.u D.v a → pair_ideal R (changed A t D).u (changed A t D).v (through A t a)
    unfolding changed
    through_pair a h = pair_ideal_modulo R 𝟘 _ _ _ changed_v (through A t a) (through_ideal D.u D.v a h)

module _ {K P : Type 0} {F : Field2 K} {A : Polynomials F P} (t : Change K P) (C C' : Curve A) (onto : C'.f ≡ changed_f A t C.f) where
  open A use {ring as R, len, rem}
  open A.ring use {add as ◌⊞◌, mul as ◌·◌, zero as 𝟘}
  open t use {c, g}

  infixl 60 ◌⊞◌
  infixl 70 ◌·◌
  -- the change that undoes t
  abbrev back : Change K P
  back = change_back A t

  pub back_onto : C.f ≡ changed_f A (change_back A t) C'.f
  unfolding changed_f change_back
  back_onto = sym (ap (λ z. σ A t z ⊞ σ A t g · σ A t g ⊞ σ A t g) onto ∙ ap (λ z. z ⊞ σ A t g · σ A t g ⊞ σ A t g) shifted ∙ f_twice R C.f (σ A t g))
    where
      shifted : σ A t (σ A t C.f ⊞ g · g ⊞ g) ≡ C.f ⊞ σ A t g · σ A t g ⊞ σ A t g
      shifted = simp (shift_add A c, shift_mul A c, shift_shift A c)

  pub changed_back : {D : Pair P} → Reduced C D → changed A (change_back A t) (changed A t D) ≡ D
  changed_back {D} r = changed_twice A t D r.u_monic r.v_len

  pub back_changed : {D : Pair P} → Reduced C' D → changed A t (changed A (change_back A t) D) ≡ D
  back_changed {D} r = ap (λ s. changed A s (changed A back D)) (sym (back_back A t)) ∙ changed_twice A back D r.u_monic r.v_len

  new_value : (v : P) → σ A t (value C v) ≡ value C' (σ A t v ⊞ g)
  unfolding value changed_f
  new_value v = shifted ∙ changed_value R (σ A t C.f) C'.f g (σ A t v) onto
    where
      shifted : σ A t (v · v ⊞ v ⊞ C.f) ≡ σ A t v · σ A t v ⊞ σ A t v ⊞ σ A t C.f
      shifted = simp (shift_add A c, shift_mul A c)

  pub changed_reduced : {D : Pair P} → Reduced C D → Reduced C' (changed A t D)
  unfolding changed
  changed_reduced {D} r =
      let l : len (changed A t D).u ≡ len D.u = changed_u_len A t D in
      let m : len D.u ≤ 4 = r.u_len in
      let n = changed_monic A t D r.u_monic in
      record {
        u_monic = n;
        u_len = omega arith;
        v_len = A.rem_len _ _ (monic_nonzero A _ n);
        divides = value_congruent C' (changed_v A t D r.u_monic) (divides_eq R (new_value D.v) (shift_divides A t r.divides));
      }

  -- the isomorphism of the coordinate rings, and the ideals of a class and of the changed class
  forth_map : RingMap (functions C) (functions C') (through A t)
  forth_map = through_map A t C.f C'.f onto

  back_map : RingMap (functions C') (functions C) (through A back)
  back_map = through_map A back C'.f C.f back_onto

  back_through : (b : P × P) → through A t (through A back b) ≡ b
  back_through b = ap (λ s. through A s (through A back b)) (sym (back_back A t)) ∙ through_back A back b

  forth_ideal : {D : Pair P} → Reduced C D → (a : P × P) → ideal C D a → ideal C' (changed A t D) (through A t a)
  forth_ideal {D} r a h = through_pair A t D r.u_monic a h

  back_ideal : {D : Pair P} → Reduced C D → (b : P × P) → ideal C' (changed A t D) b → ideal C D (through A back b)
  back_ideal {D} r b h = subst (λ E. ideal C E (through A back b)) (changed_back r) (through_pair A back (changed A t D) (changed_monic A t D r.u_monic) b h)

  pub changed_sum : {D E : Pair P} → Reduced C D → Reduced C E → changed A t (sum C D E) ≡ sum C' (changed A t D) (changed A t E)
  changed_sum r s =
      let q = sum_reduced C r s in
      sym
      (sum_from_class C' (changed_reduced r) (changed_reduced s) (changed_reduced q)
      (map_equivalent (functions C) (functions C') forth_map (through_back A t) back_through
      (map_product (functions C) (functions C') forth_map (forth_ideal r) (forth_ideal s))
      (map_product (functions C') (functions C) back_map (back_ideal r) (back_ideal s))
      (forth_ideal q)
      (back_ideal q)
      ((sum_adds C).class r s)))

  -- what a map that keeps sums keeps besides
  changes : GroupMap (Reduced C) (sum C) (Reduced C') (sum C') (changed A t)
  changes = record { map_closed = λ r. changed_reduced r; map_sum = λ r s. changed_sum r s }

  pub changed_neutral : changed A t (neutral C) ≡ neutral C'
  changed_neutral = map_neutral (classes C) (classes C') changes

  pub changed_opposite : {D : Pair P} → Reduced C D → changed A t (opposite C D) ≡ opposite C' (changed A t D)
  changed_opposite = map_opposite (classes C) (classes C') changes

  pub changed_double : {D : Pair P} → Reduced C D → changed A t (double C D) ≡ double C' (changed A t D)
  changed_double = map_double (class_halving C) (class_halving C') changes

  pub changed_half : {D : Pair P} → Reduced C D → changed A t (half C D) ≡ half C' (changed A t D)
  changed_half = map_half (class_halving C) (class_halving C') changes

  pub changed_double_and_add : {S D : Pair P} → Reduced C S → Reduced C D → changed A t (double_and_add C S D) ≡ double_and_add C' (changed A t S) (changed A t D)
  unfolding double_and_add
  changed_double_and_add {S} {D} s d = changed_sum (double_reduced C s) d ∙ ap (λ z. sum C' z (changed A t D)) (changed_double s)

  pub changed_subtract_and_halve : {S D : Pair P} → Reduced C S → Reduced C D → changed A t (subtract_and_halve C S D) ≡ subtract_and_halve C' (changed A t S) (changed A t D)
  unfolding subtract_and_halve
  changed_subtract_and_halve {S} {D} s d =
      let o = opposite_reduced C d in
      changed_half (sum_reduced C s o) ∙ ap (half C') (changed_sum s o ∙ ap (sum C' (changed A t S)) (changed_opposite d))

  pub changed_multiple : (n : ℕ) {D : Pair P} → Reduced C D → changed A t (multiple (sum C) (neutral C) n D) ≡ multiple (sum C') (neutral C') n (changed A t D)
  changed_multiple = map_multiple (classes C) (classes C') changes

  pub changed_doublings : (k : ℕ) {D : Pair P} → Reduced C D → changed A t (repeat (double C) k D) ≡ repeat (double C') k (changed A t D)
  changed_doublings = repeat_map (double C) (λ D r. double_reduced C r) (double C') (changed A t) (λ D r. changed_double r)

  pub changed_halvings : (k : ℕ) {D : Pair P} → Reduced C D → changed A t (repeat (half C) k D) ≡ repeat (half C') k (changed A t D)
  changed_halvings = repeat_map (half C) (λ D r. half_reduced C r) (half C') (changed A t) (λ D r. changed_half r)
