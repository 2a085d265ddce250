-- What releases do to a register, and what no call does after them (docs/SPECIFICATION.md, 4 and 11).
-- `release_sets`: an accepted release makes the count the released step; curve, count and seal stay.
-- `undo_after_release`: an undo of an accepted class right after an accepted release is refused with 121, at count 0
-- with 113.
-- `released_kept`: where no release of a list was accepted, the released step after it is that of the first register.
-- `released_grows`: no list of calls makes the released step smaller.
-- `above_released`: from a register that passes its checks no list of calls leads to a count below its released step.
-- `none_behind`: so after an accepted release no list of calls leads to a smaller count.
use Prim.Native.Nat.{◌≤◌}
use mathlib.Core.Path.{◌≡◌, refl, ◌∙◌, ap}
use mathlib.Core.Bool.{Bool, true, false, cond}
use mathlib.Core.List.{List, ◌∷◌}
use native.Mathlib.Omega.{arith}
use lib.Dec.{eqb}
use borrow.Author.Tests.{eqb-true, eqb-false}
use Rattle.lists.specs.Lists.{more}
use Rattle.jacobian.specs.{Answer.Verdict, Answer.accepted, Answer.refused, Answer.Accepts, Answer.refusal_of_two, declared.Class.Class}
use Rattle.jacobian.proofs.{Representation.accepts_both, Calls.accepts_two}
use Rattle.history.specs.Register.{RegisterReply, register_refusal, with_count_and_seal, with_released, stepped, undo_answer, release_answer}
use Rattle.history.specs.Machine as definition
use Rattle.history.specs.Calls.{Call, step, release, answer, registers, Event, last, newest, NoReleases}
use Rattle.history.specs.declared.{Register.Register, Step.Step, Step.TheVariants.Commit, Step.TheVariants.Undo}
use Rattle.history.proofs.Machine.Run.{last_holds, all_oldest, by_accepted}
use Rattle.history.proofs.{Registers.Passes, Registers.register_passes, Registers.passes_register, OneStep.step_taken, OneStep.released_passes, OneStep.release_taken, OneCall.refused_stays, OneCall.accepted_passes, Preserved.last_passes, Edges.undo_at_released, Edges.undo_at_zero}

-- ---- one call
stepped_released : (k : Step) (r : Register) (a : Class) → (stepped k r a).released ≡ r.released
unfolding stepped with_count_and_seal
stepped_released Commit r a = refl
stepped_released Undo r a = refl

pub release_sets : (r : Register) → (release_answer r).outcome ≡ accepted → (release_answer r).register ≡ record { curve = r.curve; count = r.count; seal = r.seal; released = r.count }
unfolding with_released
release_sets r e = ap (λ (x : RegisterReply). x.register) (release_taken r e)

module _ (r : Register) (a : Class) (e : (release_answer r).outcome ≡ accepted) (class : Accepts r.curve a) where
  abbrev next : Register
  next = record { curve = r.curve; count = r.count; seal = r.seal; released = r.count }

  -- the register passed its checks
  passes : Passes r
  passes = released_passes r e

  pub undo_after_release : undo_answer (release_answer r).register a ≡ record { outcome = refused (cond (eqb r.count 0) 113 121); register = (release_answer r).register }
  undo_after_release = rw (release_sets r e) (go (eqb r.count 0) refl)
    where
      two : refusal_of_two r.curve r.seal a ≡ 0
      two = accepts_two r.curve (accepts_both r.curve r.seal passes.curve_passes passes.seal_passes) class

      go : (b : Bool) → eqb r.count 0 ≡ b → undo_answer next a ≡ record { outcome = refused (cond b 113 121); register = next }
      go true z = undo_at_zero next a two passes.count_passes (omega arith) (eqb-true r.count 0 z)
      go false z = undo_at_released next a two passes.count_passes (omega arith) (eqb-false r.count 0 z) refl

-- ---- a list of calls
then_kept : (s : Register) (c : Call) (es : List Event) (t : Register) → (answer s c).outcome ≡ accepted → (NoReleases es → t.released ≡ (answer s c).register.released)
    → NoReleases (definition.event registers s c ∷ es) → t.released ≡ s.released
unfolding definition.event answer
then_kept s (step k a) es t e on (more h hs) = on hs ∙ ap (λ (x : RegisterReply). x.register.released) (step_taken k s a e) ∙ stepped_released k s a
then_kept s release es t e on (more h hs) = absurd (h refl)

pub released_kept : (r : Register) (cs : List Call) → NoReleases (newest r cs) → (last r cs).released ≡ r.released
released_kept r cs only =
    by_accepted registers refused_stays (λ s es t. NoReleases es → t.released ≡ s.released) (λ s h. refl) then_kept r cs (all_oldest registers r cs only)

-- a call does not make the released step smaller
accepted_grows : (r : Register) (c : Call) → (answer r c).outcome ≡ accepted → r.released ≤ (answer r c).register.released
unfolding answer
accepted_grows r (step k a) e = let same = ap (λ (x : RegisterReply). x.register.released) (step_taken k r a e) ∙ stepped_released k r a in omega arith
accepted_grows r release e =
    let same = ap (λ (x : Register). x.released) (release_sets r e) in
    let within = (released_passes r e).released_passes in
    omega arith

call_grows : (r : Register) (c : Call) → r.released ≤ (answer r c).register.released
call_grows r c = go (answer r c).outcome refl
  where
    go : (v : Verdict) → (answer r c).outcome ≡ v → r.released ≤ (answer r c).register.released
    go accepted e = accepted_grows r c e
    go (refused n) e = let same = ap (λ (x : Register). x.released) (refused_stays r c n e) in omega arith

pub released_grows : (r : Register) (cs : List Call) → r.released ≤ (last r cs).released
released_grows r cs = last_holds registers (λ t. r.released ≤ t.released) (λ t c h. let more = call_grows t c in omega arith) cs (omega arith)

pub above_released : (r : Register) (cs : List Call) → register_refusal r ≡ 0 → r.released ≤ (last r cs).count
above_released r cs ok =
    let more = released_grows r cs in
    let within = (register_passes (last r cs) (last_passes r cs ok)).released_passes in
    omega arith

pub none_behind : (r : Register) (cs : List Call) → (release_answer r).outcome ≡ accepted → r.count ≤ (last (release_answer r).register cs).count
unfolding answer
none_behind r cs e =
    let is = ap (λ (x : Register). x.released) (release_sets r e) in
    let above = above_released (release_answer r).register cs (passes_register _ (accepted_passes r release e)) in
    omega arith
