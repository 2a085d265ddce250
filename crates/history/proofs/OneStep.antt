-- One commit and one undo take each other back, and what one release does (docs/SPECIFICATION.md, 11).
-- `stepped_curve`: a step keeps the curve.
-- `step_taken`: an accepted step answers the next register.
-- `stepped_passes`: after a step that no check refuses, the register passes its checks.
-- `step_taken_back`: demand 3, the other step with the same class is accepted and returns the register before the step.
-- `released_passes`: where a release is accepted, the register passes its checks.
-- `release_taken`: an accepted release answers the register with its count as the released step.
-- `release_passes`: that register passes its checks.
-- `release_twice`: a second release is accepted and leaves the register equal.
use Prim.Native.Nat.{ℕ, ◌≤◌}
use mathlib.Core.Path.{◌≡◌, refl, ◌∙◌, ap, ap₂}
use native.Mathlib.Omega.{arith}
use Rattle.jacobian.specs.Answer.{accepted, Accepts}
use Rattle.jacobian.specs.declared.Class.{Class}
use Rattle.jacobian.proofs.Representation.{accepts_class, accepts_both}
use Rattle.count_limit.specs.Limit.{count_limit}
use Rattle.history.specs.Register.{with_count_and_seal, with_released, stepped, other, RegisterReply, step_answer, release_answer}
use Rattle.history.specs.declared.{Register.Register, Step.Step, Step.TheVariants.Commit, Step.TheVariants.Undo}
use Rattle.history.proofs.Seals.{commit_sound, undo_sound, undo_of_commit, commit_of_undo}
use Rattle.history.proofs.Registers.{Passes, OffEdge, Passing, register_passes, passes_register, step_passes, passes_step, follows_accepted, follows_zero}

-- an acceptance with this register
abbrev pub taken : Register → RegisterReply
taken r = record { outcome = accepted; register = r }

-- ---- the next register, by its parts
pub stepped_curve : (k : Step) (r : Register) (a : Class) → (stepped k r a).curve ≡ r.curve
unfolding stepped with_count_and_seal
stepped_curve Commit r a = refl
stepped_curve Undo r a = refl

next_passes : (n : ℕ) (s : Class) (r : Register) → Passes r → n ≤ count_limit → r.released ≤ n → Accepts r.curve s → Passes (with_count_and_seal n s r)
unfolding with_count_and_seal
next_passes n s r p h l k = record { curve_passes = p.curve_passes; count_passes = h; released_passes = l; seal_passes = accepts_class k }

register_itself : (n : ℕ) (s : Class) (r : Register) → n ≡ r.count → s ≡ r.seal → with_count_and_seal n s r ≡ r
unfolding with_count_and_seal
register_itself n s r e f = ap₂ (λ m t. with_count_and_seal m t r) e f

pub step_taken : (k : Step) (r : Register) (a : Class) → (step_answer k r a).outcome ≡ accepted → step_answer k r a ≡ taken (stepped k r a)
unfolding step_answer
step_taken k r a e = follows_zero _ r (stepped k r a) (follows_accepted _ r (stepped k r a) e)

-- ---- a step that passes, and the other one after it
module _ (r : Register) (a : Class) where
  pub seal_sound : {k : Step} → Passing k r a → Accepts r.curve r.seal
  seal_sound p = accepts_both r.curve r.seal p.register.curve_passes p.register.seal_passes

  pub class_sound : {k : Step} → Passing k r a → Accepts r.curve a
  class_sound p = accepts_both r.curve a p.register.curve_passes p.class_passes

  pub stepped_passes : (k : Step) → Passing k r a → Passes (stepped k r a)
  unfolding stepped OffEdge
  stepped_passes Commit p =
      let l = p.register.count_passes in
      let m = p.register.released_passes in
      next_passes _ _ r p.register (omega (arith, p.off_edges)) (omega arith) (commit_sound (seal_sound p) (class_sound p))
  stepped_passes Undo p =
      let l = p.register.count_passes in
      let m = p.register.released_passes in
      next_passes _ _ r p.register (omega arith) (omega (arith, p.off_edges.0, p.off_edges.1)) (undo_sound (seal_sound p) (class_sound p))

  other_edge : (k : Step) → Passing k r a → OffEdge (other k) (stepped k r a).count (stepped k r a).released
  unfolding stepped with_count_and_seal OffEdge other
  other_edge Commit p = let m = p.register.released_passes in (λ e. omega arith, λ e. omega arith)
  other_edge Undo p = let l = p.register.count_passes in λ e. omega (arith, p.off_edges.0)

  other_passes : (k : Step) → Passing k r a → Passing (other k) (stepped k r a) a
  other_passes k p = record { register = stepped_passes k p; class_passes = rw (stepped_curve k r a) p.class_passes; off_edges = other_edge k p }

  stepped_back : (k : Step) → Passing k r a → stepped (other k) (stepped k r a) a ≡ r
  unfolding stepped with_count_and_seal OffEdge other
  stepped_back Commit p = register_itself _ _ r (omega arith) (undo_of_commit (seal_sound p) (class_sound p))
  stepped_back Undo p = register_itself _ _ r (omega (arith, p.off_edges.0)) (commit_of_undo (seal_sound p) (class_sound p))

  pub step_taken_back : (k : Step) → (step_answer k r a).outcome ≡ accepted → step_answer (other k) (step_answer k r a).register a ≡ taken r
  unfolding step_answer
  step_taken_back k e =
      let z = follows_accepted _ r (stepped k r a) e in
      let p = step_passes k r a z in
      rw (follows_zero _ r (stepped k r a) z)
      (follows_zero _ _ _ (passes_step (other k) (stepped k r a) a (other_passes k p)) ∙ ap taken (stepped_back k p))

-- ---- a release
module _ (r : Register) (e : (release_answer r).outcome ≡ accepted) where
  pub released_passes : Passes r
  unfolding release_answer
  released_passes = register_passes r (follows_accepted _ r (with_released r.count r) e)

  pub release_taken : release_answer r ≡ taken (with_released r.count r)
  unfolding release_answer
  release_taken = follows_zero _ r (with_released r.count r) (follows_accepted _ r (with_released r.count r) e)

pub release_passes : (r : Register) → Passes r → Passes (with_released r.count r)
unfolding with_released
release_passes r p = record { curve_passes = p.curve_passes; count_passes = p.count_passes; released_passes = omega arith; seal_passes = p.seal_passes }

pub release_twice : (r : Register) → (release_answer r).outcome ≡ accepted → release_answer (release_answer r).register ≡ release_answer r
unfolding release_answer with_released
release_twice r e =
    let next = with_released r.count r in
    let is = release_taken r e in
    rw is (follows_zero _ next (with_released next.count next) (passes_register next (release_passes r (released_passes r e))))
