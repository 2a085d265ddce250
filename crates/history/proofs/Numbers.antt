-- The refusals of a register and of a step on it by the checks that the code makes, and what the code then answers.
-- `then_positive`: checks one after the other refuse where the second does.
-- `then_none`: a check that passes, made last, changes nothing.
-- `second_refused`: where the first of two classes is not refused, the refusal of both is that of the second.
-- `register_counts`: the refusal of a register, with those of its count and its released step as one.
-- `step_failing`: where the register is refused, so is a step, with the same number.
-- `step_within`: where count and released step pass, it is the refusal of curve, seal and class, else the edge's.
-- `step_off`: at a count off the step's edges it is the refusal of curve, seal and class.
-- `step_follows`: there the step answers the next register, or that refusal.
-- `counts_low`: where count and released step pass, the count is at most the limit.
-- `register_stops`, `register_goes_on`: the refusal of a register, where the code's checks refuse, and where they go on.
-- `release_refuses`, `release_follows`: what a release answers where the register is refused, and where it is not.
-- `curve_refuses`, `counts_refuse`, `seal_refuses`, `class_refuses`, `edge_refuses`: what a step answers where this check
-- is the first that refuses.
-- `commit_moves`, `undo_moves`: what a commit and an undo answer where only the class operation can refuse.
-- `undo_room`: an undo that its edge does not refuse has an operation to take out.
use Rattle.std.specs.Prelude.{ℕ, zero, suc, ◌≤◌, ◌+◌, ◌-◌, Ok, Err}
use mathlib.Core.Path.{◌≡◌, refl, sym, ◌∙◌, ap, ap₂}
use native.Mathlib.Omega.{arith}
use Rattle.jacobian.specs.{Checks.◌or_else◌, Curves.curve_refusal, Classes.class_refusal, Answer.refusal, Answer.refusal_of_two, Answer.refused, Answer.result, Answer.double_and_add_answer, Answer.subtract_and_halve_answer}
use Rattle.jacobian.specs.declared.{Curve.Curve, Class.Class}
use Rattle.refusals.specs.{Refusals.number, declared.Refusal.Refusal}
use Rattle.binary_field.proofs.Refusing.{number_positive, stops_first, goes_on}
use Rattle.jacobian.proofs.ByValue.Checks.{then_zero, first_due}
use Rattle.count_limit.specs.Limit.{count_limit, count_refusal, released_refusal}
use Rattle.count_limit.proofs.Limit.{limit_keeps}
use Rattle.history.specs.Register.{commit_seal, undo_seal, register_refusal, edge_refusal, step_refusal, stepped, with_released, RegisterReply, follows, step_answer, release_answer}
use Rattle.history.specs.{internal.Next.next_reply, internal.Next.moved_reply, declared.Register.Register, declared.Step.Step, declared.Step.TheVariants.Commit, declared.Step.TheVariants.Undo}
use Rattle.history.proofs.{Registers.OffEdge, Registers.edge_off, Registers.follows_zero, Registers.follows_refused, Answers.double_and_add_sealed, Answers.subtract_and_halve_sealed, Answers.moved_sealed}

-- ---- checks one after the other
pub then_positive : (m n : ℕ) → ¬ (n ≡ 0) → ¬ (m or_else n ≡ 0)
unfolding ◌or_else◌
then_positive zero n h = h
then_positive (suc m) n h = λ e. omega arith

pub then_none : (m : ℕ) → m or_else 0 ≡ m
unfolding ◌or_else◌
then_none zero = refl
then_none (suc m) = refl

-- two checks that pass can be left out
passed : (a c d s b n : ℕ) → c ≡ 0 → d ≡ 0 → (a or_else c or_else d or_else s) or_else b or_else n ≡ ((a or_else s) or_else b) or_else n
unfolding ◌or_else◌
passed zero c d s b n y z = rw (y, z) (same s)
  where
    same : (s : ℕ) → s or_else b or_else n ≡ (s or_else b) or_else n
    same zero = refl
    same (suc s) = refl
passed (suc a) c d s b n y z = refl

pub second_refused : (c : Curve) (s a : Class) → refusal c s ≡ 0 → refusal c a ≡ refusal_of_two c s a
unfolding refusal refusal_of_two ◌or_else◌
second_refused c s a z = rw (z, (then_zero (curve_refusal c) (class_refusal c s) z).0)

-- ---- the refusal of a step by the count
-- the middle one of three checks may be two
three : (a c d s : ℕ) → a or_else c or_else d or_else s ≡ a or_else (c or_else d) or_else s
unfolding ◌or_else◌
three zero zero d s = refl
three zero (suc c) d s = refl
three (suc a) c d s = refl

module _ (r : Register) where
  pub register_counts : register_refusal r ≡ curve_refusal r.curve or_else (count_refusal r.count or_else released_refusal r.count r.released) or_else class_refusal r.curve r.seal
  unfolding register_refusal
  register_counts = three _ _ _ _

module _ (k : Step) (r : Register) (a : Class) where
  pub step_failing : ¬ (register_refusal r ≡ 0) → step_refusal k r a ≡ register_refusal r
  unfolding step_refusal
  step_failing h = sym (first_due _ refl h)

  module _ (counts : count_refusal r.count or_else released_refusal r.count r.released ≡ 0) where
    pub step_within : step_refusal k r a ≡ refusal_of_two r.curve r.seal a or_else edge_refusal k r.count r.released
    unfolding step_refusal register_refusal refusal refusal_of_two
    step_within =
        let h = then_zero _ _ counts in
        passed (curve_refusal r.curve) _ _ (class_refusal r.curve r.seal) (class_refusal r.curve a) (edge_refusal k r.count r.released) h.0 h.1

    pub step_off : edge_refusal k r.count r.released ≡ 0 → step_refusal k r a ≡ refusal_of_two r.curve r.seal a
    step_off e = step_within ∙ ap (λ n. refusal_of_two r.curve r.seal a or_else n) e ∙ then_none _

    pub step_follows : {next : Register} {x : RegisterReply} → edge_refusal k r.count r.released ≡ 0 → next ≡ stepped k r a
        → x ≡ follows (refusal_of_two r.curve r.seal a) r next → x ≡ step_answer k r a
    unfolding step_answer
    step_follows h e f = f ∙ ap₂ (λ n t. follows n r t) (sym (step_off h)) e

-- ---- the code's checks of a register
module _ (r : Register) where
  pub counts_low : 0 ≡ count_refusal r.count or_else released_refusal r.count r.released → r.count ≤ 1024
  unfolding count_limit
  counts_low e = limit_keeps _ (then_zero _ _ (sym e)).0

  pub register_stops : (f : Refusal) → 0 ≡ curve_refusal r.curve → number f ≡ count_refusal r.count or_else released_refusal r.count r.released → number f ≡ register_refusal r
  register_stops f ok e = goes_on ok (stops_first f _ e) ∙ sym (register_counts r)

  pub register_goes_on : {n : ℕ} → 0 ≡ curve_refusal r.curve → 0 ≡ count_refusal r.count or_else released_refusal r.count r.released → n ≡ refusal r.curve r.seal → n ≡ register_refusal r
  unfolding refusal ◌or_else◌
  register_goes_on ok counts e = goes_on ok (goes_on counts (e ∙ ap (λ m. m or_else class_refusal r.curve r.seal) (sym ok))) ∙ sym (register_counts r)

-- ---- what the code answers
refused_follows : (r next : Register) (f : Refusal) {n : ℕ} → number f ≡ n → next_reply r (Err f) ≡ follows n r next
refused_follows r next f {n} e = ap (λ m. record { outcome = refused m; register = r }) e ∙ sym (follows_refused n r next (λ z. number_positive f (e ∙ z)))

module _ (r : Register) where
  pub release_refuses : (f : Refusal) → number f ≡ register_refusal r → next_reply r (Err f) ≡ release_answer r
  unfolding release_answer
  release_refuses f e = refused_follows r (with_released r.count r) f e

  pub release_follows : 0 ≡ register_refusal r → next_reply r (Ok (with_released r.count r)) ≡ release_answer r
  unfolding release_answer
  release_follows e = sym (follows_zero _ r (with_released r.count r) (sym e))

-- a step that a check refuses
module _ (k : Step) (r : Register) (a : Class) (f : Refusal) where
  refused_answer : number f ≡ step_refusal k r a → next_reply r (Err f) ≡ step_answer k r a
  unfolding step_answer
  refused_answer e = refused_follows r (stepped k r a) f e

  pub curve_refuses : number f ≡ curve_refusal r.curve → next_reply r (Err f) ≡ step_answer k r a
  unfolding step_refusal register_refusal
  curve_refuses e = refused_answer (stops_first f _ (stops_first f _ e))

  pub counts_refuse : 0 ≡ curve_refusal r.curve → number f ≡ count_refusal r.count or_else released_refusal r.count r.released → next_reply r (Err f) ≡ step_answer k r a
  unfolding step_refusal
  counts_refuse ok e = refused_answer (stops_first f _ (register_stops r f ok e))

  module _ (counts : 0 ≡ count_refusal r.count or_else released_refusal r.count r.released) where
    pub seal_refuses : number f ≡ refusal r.curve r.seal → next_reply r (Err f) ≡ step_answer k r a
    unfolding refusal_of_two
    seal_refuses e = refused_answer (stops_first f _ (stops_first f _ e) ∙ sym (step_within k r a (sym counts)))

    module _ (seal : 0 ≡ refusal r.curve r.seal) where
      pub class_refuses : number f ≡ refusal r.curve a → next_reply r (Err f) ≡ step_answer k r a
      class_refuses e = refused_answer (stops_first f _ (e ∙ second_refused r.curve r.seal a (sym seal)) ∙ sym (step_within k r a (sym counts)))

      pub edge_refuses : 0 ≡ refusal r.curve a → number f ≡ edge_refusal k r.count r.released → next_reply r (Err f) ≡ step_answer k r a
      edge_refuses class e = refused_answer (goes_on (class ∙ second_refused r.curve r.seal a (sym seal)) e ∙ sym (step_within k r a (sym counts)))

-- a step that only the class operation can refuse
module _ (r : Register) (a : Class) (counts : 0 ≡ count_refusal r.count or_else released_refusal r.count r.released) where
  pub commit_moves : 0 ≡ edge_refusal Commit r.count r.released → moved_reply r (r.count + 1) (result (double_and_add_answer r.curve r.seal a)) ≡ step_answer Commit r a
  unfolding stepped
  commit_moves edge =
      step_follows Commit r a (sym counts) (sym edge) refl
      (ap (moved_reply r (r.count + 1)) (double_and_add_sealed r.curve r.seal a) ∙ moved_sealed r (r.count + 1) _ (commit_seal r.curve r.seal a))

  pub undo_moves : 0 ≡ edge_refusal Undo r.count r.released → moved_reply r (r.count - 1) (result (subtract_and_halve_answer r.curve r.seal a)) ≡ step_answer Undo r a
  unfolding stepped
  undo_moves edge =
      step_follows Undo r a (sym counts) (sym edge) refl
      (ap (moved_reply r (r.count - 1)) (subtract_and_halve_sealed r.curve r.seal a) ∙ moved_sealed r (r.count - 1) _ (undo_seal r.curve r.seal a))

-- an undo finds an operation to take out
pub undo_room : (k : Step) (n released : ℕ) → k ≡ Undo → 0 ≡ edge_refusal k n released → 1 ≤ n
unfolding OffEdge
undo_room k n released is e =
    let off = (edge_off Undo n released (ap (λ j. edge_refusal j n released) (sym is) ∙ sym e)).0 in
    omega (arith, off)

-- what a step answers, and the bounds that it needs
pub ruleset step_rules = (curve_refuses, counts_refuse, seal_refuses, class_refuses, edge_refuses, commit_moves, undo_moves, counts_low, undo_room)
