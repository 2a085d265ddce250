-- What holds where no check of a register and of a step on it refuses, and what a call answers by its refusal.
-- `register_passes`, `passes_register`: a register has refusal 0 exactly where each of its checks passes.
-- `edge_off`, `off_edge`: a step has no edge refusal exactly where its count is off its edges.
-- `step_passes`, `passes_step`: a step has refusal 0 exactly where register, class and count pass.
-- `follows_accepted`: where the answer is an acceptance, the refusal is 0.
-- `follows_outcome`: the outcome of the answer is that of the refusal.
-- `follows_zero`, `follows_refused`: the answer where the refusal is 0, and where it is not.
-- `follows_number`: the number of a refused answer is the refusal, which is not 0.
-- `follows_stays`: a refused call answers the register given.
-- `follows_either`: what holds of the register given and of the next one holds of the answered one.
use Prim.Native.Nat.{ℕ, zero, suc, ◌≤◌}
use mathlib.Core.Path.{◌≡◌, refl}
use mathlib.Core.Bool.{Bool, true, false, cond}
use native.Mathlib.Omega.{arith}
use borrow.Author.Tests.{ne_eqb, eqb-false}
use Rattle.jacobian.specs.{Checks.◌or_else◌, Curves.curve_refusal, Classes.class_refusal, Answer.accepted, Answer.refused, Answer.verdict_of}
use Rattle.jacobian.specs.declared.Class.{Class}
use Rattle.jacobian.proofs.ByValue.Checks.{then_zero}
use Rattle.count_limit.specs.Limit.{count_limit}
use Rattle.count_limit.proofs.Limit.{within_limit, limit_keeps, released_within, released_keeps}
use Rattle.history.specs.Register.{register_refusal, edge_refusal, step_refusal, follows}
use Rattle.history.specs.declared.{Register.Register, Step.Step, Step.TheVariants.Commit, Step.TheVariants.Undo}

-- ---- a register that passes its own checks
pub record Passes (r : Register) : Type 0 where
  pub curve_passes : curve_refusal r.curve ≡ 0
  pub count_passes : r.count ≤ count_limit
  pub released_passes : r.released ≤ r.count
  pub seal_passes : class_refusal r.curve r.seal ≡ 0

pub register_passes : (r : Register) → register_refusal r ≡ 0 → Passes r
unfolding register_refusal
register_passes r e =
    let h = then_zero _ _ e in
    let k = then_zero _ _ h.1 in
    let m = then_zero _ _ k.1 in
    record { curve_passes = h.0; count_passes = limit_keeps _ k.0; released_passes = released_keeps _ _ m.0; seal_passes = m.1 }

pub passes_register : (r : Register) → Passes r → register_refusal r ≡ 0
unfolding register_refusal ◌or_else◌
passes_register r p = rw (p.curve_passes, within_limit r.count p.count_passes, released_within r.count r.released p.released_passes) p.seal_passes

-- ---- a step that passes: the register, the class, and a count off the step's edges
-- a count at which a step can be taken, with this released step
unfoldable pub OffEdge : Step → ℕ → ℕ → Type 0
OffEdge Commit n released = ¬ (n ≡ count_limit)
OffEdge Undo n released = (¬ (n ≡ 0)) × (¬ (n ≡ released))

-- a refusal that is given only where a test is true is 0 where it is false
unless_at : (b : Bool) (n m : ℕ) → ¬ (n ≡ 0) → cond b n m ≡ 0 → (b ≡ false) × (m ≡ 0)
unless_at true n m h e = absurd (h e)
unless_at false n m h e = (refl, e)

pub edge_off : (k : Step) (n released : ℕ) → edge_refusal k n released ≡ 0 → OffEdge k n released
unfolding edge_refusal OffEdge
edge_off Commit n released e = eqb-false n count_limit (unless_at _ 114 0 (λ z. omega arith) e).0
edge_off Undo n released e =
    let p = unless_at _ 113 _ (λ z. omega arith) e in
    (eqb-false n 0 p.0, eqb-false n released (unless_at _ 121 0 (λ z. omega arith) p.1).0)

pub off_edge : (k : Step) (n released : ℕ) → OffEdge k n released → edge_refusal k n released ≡ 0
unfolding edge_refusal OffEdge
off_edge Commit n released h = rw (ne_eqb n count_limit h)
off_edge Undo n released h = rw (ne_eqb n 0 h.0, ne_eqb n released h.1)

pub record Passing (k : Step) (r : Register) (a : Class) : Type 0 where
  pub register : Passes r
  pub class_passes : class_refusal r.curve a ≡ 0
  pub off_edges : OffEdge k r.count r.released

module _ (k : Step) (r : Register) (a : Class) where
  pub step_passes : step_refusal k r a ≡ 0 → Passing k r a
  unfolding step_refusal
  step_passes e =
      let h = then_zero _ _ e in
      let l = then_zero _ _ h.1 in
      record { register = register_passes r h.0; class_passes = l.0; off_edges = edge_off k r.count r.released l.1 }

  pub passes_step : Passing k r a → step_refusal k r a ≡ 0
  unfolding step_refusal ◌or_else◌
  passes_step p = rw (passes_register r p.register, p.class_passes, off_edge k r.count r.released p.off_edges)

-- ---- what a call answers
module _ (n : ℕ) (given next : Register) where
  pub follows_accepted : (follows n given next).outcome ≡ accepted → n ≡ 0
  unfolding follows
  follows_accepted e = go n e
    where
      go : (m : ℕ) → (follows m given next).outcome ≡ accepted → m ≡ 0
      go zero e = refl
      go (suc m) e = cc

  pub follows_outcome : (follows n given next).outcome ≡ verdict_of n
  unfolding follows verdict_of
  follows_outcome = go n
    where
      go : (m : ℕ) → (follows m given next).outcome ≡ verdict_of m
      go zero = refl
      go (suc m) = refl

  pub follows_zero : n ≡ 0 → follows n given next ≡ record { outcome = accepted; register = next }
  unfolding follows
  follows_zero e = rw e

  pub follows_refused : ¬ (n ≡ 0) → follows n given next ≡ record { outcome = refused n; register = given }
  unfolding follows
  follows_refused h = go n h
    where
      go : (m : ℕ) → ¬ (m ≡ 0) → follows m given next ≡ record { outcome = refused m; register = given }
      go zero h = absurd (h refl)
      go (suc m) h = refl

  pub follows_number : (m : ℕ) → (follows n given next).outcome ≡ refused m → (n ≡ m) × ¬ (n ≡ 0)
  unfolding follows
  follows_number m e = go n e
    where
      go : (k : ℕ) → (follows k given next).outcome ≡ refused m → (k ≡ m) × ¬ (k ≡ 0)
      go zero e = cc
      go (suc k) e = (cc, λ z. omega arith)

  pub follows_stays : (m : ℕ) → (follows n given next).outcome ≡ refused m → (follows n given next).register ≡ given
  unfolding follows
  follows_stays m e = go n e
    where
      go : (k : ℕ) → (follows k given next).outcome ≡ refused m → (follows k given next).register ≡ given
      go zero e = cc
      go (suc k) e = refl

  pub follows_either : (P : Register → Type 0) → P given → P next → P (follows n given next).register
  unfolding follows
  follows_either P g h = go n
    where
      go : (k : ℕ) → P (follows k given next).register
      go zero = h
      go (suc k) = g
