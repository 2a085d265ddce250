-- The equation y² + y = a for a certified odd degree.
-- `trace_bit`: the trace is 0 or 1.
-- `root_trace`: if there is a root, the trace of a is 0.
-- `trace_root`: if the trace of a is 0, the half-trace is a root.
-- `other_root`, `two_roots`: if y is a root, so is y + 1, and there are no others.
-- `even_root_found`, `even_root_is`: the search finds the root with lowest bit 0.
-- `even_root_none`, `none_even_root`: it finds none exactly if there is no root.
-- `half_traces_add`: j + k terms of the half-trace from j terms and k terms.
use Prim.Native.Nat.{ℕ, zero, suc, ◌+◌, ◌*◌, ◌/◌, ◌%◌, ◌^◌, ◌<◌}
use mathlib.Core.{Path.◌≡◌, Path.refl, Path.sym, Path.ap, Path.ap₂, Path.◌∙◌, Bool.Bool, Bool.true, Bool.false, Bool.cond, Bool.◌&&◌}
use mathlib.Core.{Logic.◌⊎◌, Logic.inl, Logic.inr, Option.Option, Option.none, Option.some, Option.some-ne-none, Option.some-injective}
use native.Mathlib.{Numerals.add-one, Omega.arith}
use lib.{Dec.eqb, Pow.pow_pos}
use borrow.Author.Tests.{eq-eqb, eqb-true}
use Rattle.binary_field_theory.specs.{Carryless.◌⊕◌, Element.low, Element.square, Element.squarings}
use Rattle.binary_field_theory.specs.Quadratic.{quadratic, Root, even_solution, even_root, EvenRoot, traces, trace, half_traces, half_trace}
use Rattle.binary_field_theory.proofs.{Sums.bit_cases, Sums.bit_lt, Sums.sums, Sums.sum_zero, Sums.zero_sum, Sums.sum_self, Sums.sum_self_left, Sums.sum_assoc, Sums.sum_cancel, Sums.sum_middle, Sums.sum_odd, Sums.sum_lt, Linear.additive_zero, Certificate.Certified, Certificate.idempotent_lt}
use Rattle.binary_field_theory.proofs.{Frobenius.frobenius, Search.first_found, Search.found_first, Search.all_none}
use Rattle.binary_field_theory.proofs.Products
use Rattle.binary_field_theory.proofs.Power

-- ---- every degree
module _ (d : ℕ) (h : low d < 2 ^ d) where
  pub quadratic_sum : (a b : ℕ) → quadratic d (a ⊕ b) ≡ quadratic d a ⊕ quadratic d b
  unfolding quadratic
  quadratic_sum a b = ap (λ x. x ⊕ (a ⊕ b)) (Products.square_sum d h a b) ∙ sum_middle _ _ _ _

  quadratic_zero : quadratic d 0 ≡ 0
  unfolding quadratic square
  quadratic_zero = sum_zero _ ∙ Products.zero_product d 0

  quadratic_one : quadratic d 1 ≡ 0
  unfolding quadratic square
  quadratic_one = ap (λ x. x ⊕ 1) (Products.product_one d h 1 (Products.one_lt d h)) ∙ sum_self 1

  quadratic_squarings : (k a : ℕ) → quadratic d (squarings d k a) ≡ squarings d (suc k) a ⊕ squarings d k a
  unfolding quadratic
  quadratic_squarings k a = ap (λ x. x ⊕ squarings d k a) (sym (Power.squarings_suc d k a))

  squarings_quadratic : (k a : ℕ) → squarings d k (quadratic d a) ≡ squarings d (suc k) a ⊕ squarings d k a
  unfolding quadratic
  squarings_quadratic k a =
      Power.squarings_sum d h k (square d a) a
      ∙ ap (λ x. x ⊕ squarings d k a)
      (ap (squarings d k) (ap (square d) (sym (Power.squarings_zero d a)) ∙ sym (Power.squarings_suc d 0 a))
      ∙ sym (Power.squarings_add d k 1 a) ∙ ap (λ n. squarings d n a) (add-one k))

  -- the middle term of x + y and y + z cancels
  meet : (x y z : ℕ) → (x ⊕ y) ⊕ (y ⊕ z) ≡ x ⊕ z
  meet x y z = simp sums

  -- ---- the sums of powers
  pub traces_lt : (k a : ℕ) → a < 2 ^ d → traces d k a < 2 ^ d
  unfolding traces
  traces_lt zero a ha = pow_pos d
  traces_lt (suc k) a ha = sum_lt d _ _ (Power.squarings_lt d h k a ha) (traces_lt k a ha)

  pub half_traces_lt : (k a : ℕ) → a < 2 ^ d → half_traces d k a < 2 ^ d
  unfolding half_traces
  half_traces_lt zero a ha = pow_pos d
  half_traces_lt (suc k) a ha = sum_lt d _ _ (Power.squarings_lt d h (2 * k) a ha) (half_traces_lt k a ha)

  -- y² + y of a sum of powers: each term but the first and the last occurs twice
  quadratic_traces : (k a : ℕ) → quadratic d (traces d k a) ≡ squarings d k a ⊕ a
  unfolding traces
  quadratic_traces zero a = quadratic_zero ∙ sym (ap (λ x. x ⊕ a) (Power.squarings_zero d a) ∙ sum_self a)
  quadratic_traces (suc k) a =
      quadratic_sum (squarings d k a) (traces d k a) ∙ ap₂ ◌⊕◌ (quadratic_squarings k a) (quadratic_traces k a) ∙ meet _ _ _

  traces_quadratic : (k a : ℕ) → traces d k (quadratic d a) ≡ squarings d k a ⊕ a
  unfolding traces
  traces_quadratic zero a = sym (ap (λ x. x ⊕ a) (Power.squarings_zero d a) ∙ sum_self a)
  traces_quadratic (suc k) a = ap₂ ◌⊕◌ (squarings_quadratic k a) (traces_quadratic k a) ∙ meet _ _ _

  -- y² + y of the sum of every second power is the sum of all powers
  quadratic_half_traces : (k a : ℕ) → quadratic d (half_traces d k a) ≡ traces d (2 * k) a
  unfolding traces half_traces
  quadratic_half_traces zero a = quadratic_zero
  quadratic_half_traces (suc k) a =
      let e : 2 * suc k ≡ suc (suc (2 * k)) = omega arith in
      quadratic_sum (squarings d (2 * k) a) (half_traces d k a)
      ∙ ap₂ ◌⊕◌ (quadratic_squarings (2 * k) a) (quadratic_half_traces k a)
      ∙ sum_assoc (squarings d (suc (2 * k)) a) (squarings d (2 * k) a) (traces d (2 * k) a)
      ∙ sym (ap (λ n. traces d n a) e)

  pub half_traces_add : (j k a : ℕ) → half_traces d (j + k) a ≡ squarings d (2 * j) (half_traces d k a) ⊕ half_traces d j a
  unfolding half_traces
  half_traces_add j zero a =
      let e : j + 0 ≡ j = omega arith in
      ap (λ n. half_traces d n a) e
      ∙ sym (ap (λ x. x ⊕ half_traces d j a) (additive_zero (squarings d (2 * j)) (Power.squarings_sum d h (2 * j))) ∙ zero_sum _)
  half_traces_add j (suc k) a =
      let e : j + suc k ≡ suc (j + k) = omega arith in
      let g : 2 * (j + k) ≡ 2 * j + 2 * k = omega arith in
      ap (λ n. half_traces d n a) e
      ∙ ap₂ ◌⊕◌ (ap (λ n. squarings d n a) g ∙ Power.squarings_add d (2 * j) (2 * k) a) (half_traces_add j k a)
      ∙ sym (sum_assoc _ _ _)
      ∙ ap (λ x. x ⊕ half_traces d j a) (sym (Power.squarings_sum d h (2 * j) (squarings d (2 * k) a) (half_traces d k a)))

-- ---- a certified degree: squaring d times gives the element, and only 0 and 1 are their own squares
module _ (d : ℕ) (c : Certified d) where
  pub trace_bit : (a : ℕ) → a < 2 ^ d → trace d a < 2
  unfolding trace quadratic
  trace_bit a ha =
      idempotent_lt d c (traces d d a) (traces_lt d c.fits d a ha)
      (sum_cancel _ _ (quadratic_traces d c.fits d a ∙ ap (λ x. x ⊕ a) (frobenius d c.fits c.fixed a ha) ∙ sum_self a))

  pub trace_quadratic : (y : ℕ) → y < 2 ^ d → trace d (quadratic d y) ≡ 0
  unfolding trace
  trace_quadratic y hy = traces_quadratic d c.fits d y ∙ ap (λ x. x ⊕ y) (frobenius d c.fits c.fixed y hy) ∙ sum_self y

  -- ---- the roots are y and y + 1
  pub other_root : {a y : ℕ} → Root d a y → Root d a (y ⊕ 1)
  other_root {a} {y} r = record {
    below = sum_lt d y 1 r.below (Products.one_lt d c.fits);
    solves = quadratic_sum d c.fits y 1 ∙ ap (λ x. quadratic d y ⊕ x) (quadratic_one d c.fits) ∙ sum_zero _ ∙ r.solves;
  }

  pub two_roots : {a y b : ℕ} → Root d a y → Root d a b → (b ≡ y) ⊎ (b ≡ y ⊕ 1)
  unfolding quadratic
  two_roots {a} {y} {b} r s =
      let vanishes : quadratic d (y ⊕ b) ≡ 0 = quadratic_sum d c.fits y b ∙ ap₂ ◌⊕◌ r.solves s.solves ∙ sum_self a in
      by (y ⊕ b) (idempotent_lt d c (y ⊕ b) (sum_lt d y b r.below s.below) (sum_cancel _ _ vanishes)) refl
    where
      back : {e : ℕ} → y ⊕ b ≡ e → b ≡ y ⊕ e
      back e = sym (sum_self_left y b) ∙ ap (λ x. y ⊕ x) e

      by : (e : ℕ) → e < 2 → y ⊕ b ≡ e → (b ≡ y) ⊎ (b ≡ y ⊕ 1)
      by = bit_cases (λ e. y ⊕ b ≡ e → (b ≡ y) ⊎ (b ≡ y ⊕ 1)) (λ e. inl (back e ∙ sum_zero y)) (λ e. inr (back e))

  pub root_trace : {a y : ℕ} → Root d a y → trace d a ≡ 0
  root_trace {a} {y} r = ap (trace d) (sym r.solves) ∙ trace_quadratic y r.below

  -- ---- the search for the root with lowest bit 0
  tests : (x y : Bool) (n : ℕ) {m : ℕ} → cond (x && y) (some n) none ≡ some m → (x ≡ true) × (y ≡ true) × (n ≡ m)
  tests true true n e = (refl, refl, some-injective _ _ e)
  tests true false n e = absurd (some-ne-none _ (sym e))
  tests false y n e = absurd (some-ne-none _ (sym e))

  even_solves : {a b y : ℕ} → b < 2 ^ d → even_solution d a b ≡ some y → Root d a b × (b % 2 ≡ 0) × (b ≡ y)
  unfolding even_solution
  even_solves {a} {b} {y} hb e =
      let p = tests (eqb (quadratic d b) a) (eqb (b % 2) 0) b e in
      (record { below = hb; solves = eqb-true _ _ p.0 }, eqb-true _ _ p.1, p.2)

  solves_even : {a y : ℕ} → Root d a y → y % 2 ≡ 0 → even_solution d a y ≡ some y
  unfolding even_solution
  solves_even r e = rw (eq-eqb _ _ r.solves, eq-eqb _ _ e)

  pub even_root_found : {a y : ℕ} → even_root d a ≡ some y → EvenRoot d a y
  unfolding even_root
  even_root_found {a} {y} e =
      let f = first_found (even_solution d a) (2 ^ d) e in
      let p = even_solves f.1 f.2 in
      rw (← p.2) (record { root = p.0; even = p.1; other = other_root p.0; only = λ b s. two_roots p.0 s })

  -- of the two roots, the one whose lowest bit is 0
  pub evened : {a y : ℕ} → Root d a y → Root d a (y ⊕ y % 2) × ((y ⊕ y % 2) % 2 ≡ 0)
  evened {a} {y} r = (at (y % 2) (bit_lt y), sum_odd y (y % 2) ∙ cancels (y % 2) (bit_lt y))
    where
      at : (x : ℕ) → x < 2 → Root d a (y ⊕ x)
      at = bit_cases (λ x. Root d a (y ⊕ x)) (rw (sum_zero y) r) (other_root r)

      cancels : (x : ℕ) → x < 2 → x ⊕ x % 2 ≡ 0
      cancels = bit_cases (λ x. x ⊕ x % 2 ≡ 0) (sum_self 0) (sum_self 1)

  -- of two elements that differ in the lowest bit alone, one is odd
  odd_neighbour : (y : ℕ) {i : ℕ} → i ≡ y ⊕ 1 → y % 2 ≡ 0 → i % 2 ≡ 0 → ⊥
  odd_neighbour y {i} e hy hi =
      let z : ◌≡◌ {A = ℕ} 0 1 = sym hi ∙ ap (λ x. x % 2) e ∙ sum_odd y 1 ∙ ap (λ x. x ⊕ 1) hy ∙ zero_sum 1 in
      omega arith

  only_even : {a y i : ℕ} → Root d a y → y % 2 ≡ 0 → Root d a i → i % 2 ≡ 0 → i ≡ y
  only_even {a} {y} {i} r e s f = at (two_roots r s)
    where
      at : (i ≡ y) ⊎ (i ≡ y ⊕ 1) → i ≡ y
      at (inl p) = p
      at (inr p) = absurd (odd_neighbour y p e f)

  -- the search finds the root with lowest bit 0, since there is only one
  pub even_root_is : {a y : ℕ} → Root d a y → y % 2 ≡ 0 → even_root d a ≡ some y
  unfolding even_root
  even_root_is {a} {y} r e =
      found_first (even_solution d a) y (2 ^ d) r.below (all_none (even_solution d a) y (λ i h. nothing i h (even_solution d a i) refl)) (solves_even r e)
    where
      nothing : (i : ℕ) → i < y → (o : Option ℕ) → even_solution d a i ≡ o → o ≡ none
      nothing i h none f = refl
      nothing i h (some b) f =
          let b_lt : y < 2 ^ d = r.below in
          let p = even_solves (omega arith) f in
          let same : i ≡ y = only_even r e p.0 p.1 in
          absurd (omega arith)

  -- the search finds none exactly if there is no root
  pub even_root_none : (a : ℕ) → ((y : ℕ) → Root d a y → ⊥) → even_root d a ≡ none
  even_root_none a h = at (even_root d a) refl
    where
      at : (o : Option ℕ) → even_root d a ≡ o → o ≡ none
      at none e = refl
      at (some y) e = absurd (h y (even_root_found e).root)

  pub none_even_root : {a : ℕ} → even_root d a ≡ none → (y : ℕ) → Root d a y → ⊥
  none_even_root {a} e y r =
      let p = evened r in
      some-ne-none _ (sym (even_root_is p.0 p.1) ∙ e)

  -- ---- an odd degree: the half-trace
  module _ (odd : d % 2 ≡ 1) where
    pub half_trace_quadratic : (a : ℕ) → a < 2 ^ d → quadratic d (half_trace d a) ≡ a ⊕ trace d a
    unfolding half_trace trace traces
    half_trace_quadratic a ha =
        let e : 2 * ((d + 1) / 2) ≡ suc d = omega arith in
        quadratic_half_traces d c.fits ((d + 1) / 2) a ∙ ap (λ n. traces d n a) e
        ∙ ap (λ x. x ⊕ traces d d a) (frobenius d c.fits c.fixed a ha)

    pub trace_root : (a : ℕ) → a < 2 ^ d → trace d a ≡ 0 → Root d a (half_trace d a)
    unfolding half_trace
    trace_root a ha e = record {
      below = half_traces_lt d c.fits ((d + 1) / 2) a ha;
      solves = half_trace_quadratic a ha ∙ ap (λ x. a ⊕ x) e ∙ sum_zero a;
    }
