-- Demand 3 on a list of calls (docs/SPECIFICATION.md, 11): from any register, with any classes, refused calls included.
-- `curve_kept`: no call of a list changes degree or curve.
-- `last_curve`: the register after a list has the degree and the curve of the first.
-- `steps_only`: in a list of commits and undos no release is accepted.
-- `is_release`: a call is a release or not.
-- `last_release`: every list is in two parts, the first empty or up to its last accepted release.
-- Where no release of the list was accepted:
-- `taken_back_turned`: taking the accepted calls back, newest first, does to each call what `turned` says.
-- `taken_back_accepted`: no call that takes a call back is refused.
-- `taken_back_registers`: the calls that take back return the registers just before the accepted calls, newest first.
-- `taken_back_counts`: so they return the counts just before the accepted calls.
-- `taken_back_all`: after all of them the register is the first one.
-- In a list of two parts, where no release of the second part was accepted:
-- `after_turned`, `after_accepted`, `after_registers`, `after_counts`: the same of the second part's accepted calls.
-- `after_all`: after taking all of them back the register is that between the two parts.
use mathlib.Core.Path.{◌≡◌, refl, ◌∙◌, ap}
use mathlib.Core.List.{List, ◌++◌, map}
use mathlib.Core.Logic.{◌⊎◌, inl, inr}
use Rattle.lists.specs.Lists.{All}
use Rattle.jacobian.specs.Answer.{accepted}
use Rattle.history.specs.Calls.{Call, step, release, back, registers, run, last, newest, backs, taken_back, turned, NoReleases, taken_back_after, LastRelease}
use Rattle.history.specs.Machine as definition
use Rattle.history.specs.declared.Register.{Register}
use Rattle.lists.proofs.Lists.{all_reverse}
use Rattle.history.proofs.Machine.Run.{last_append, run_all, last_holds, accepted_fit, all_oldest}
use Rattle.history.proofs.Machine.TakingBack as machine
use Rattle.history.proofs.Classes.{step_no_release}
use Rattle.history.proofs.OneCall.{answer_curve, reversible}

pub curve_kept : (r : Register) (cs : List Call) → All (λ e. e.left.curve ≡ r.curve) (run r cs)
unfolding definition.event
curve_kept r cs =
    run_all registers (λ t. t.curve ≡ r.curve) (λ t c h. answer_curve t c ∙ h) (λ t c h. answer_curve t c ∙ h) cs refl

pub last_curve : (r : Register) (cs : List Call) → (last r cs).curve ≡ r.curve
last_curve r cs = last_holds registers (λ t. t.curve ≡ r.curve) (λ t c h. answer_curve t c ∙ h) cs refl

-- ---- a list in which no release was accepted
module _ (r : Register) (cs : List Call) (only : NoReleases (newest r cs)) where
  fits : NoReleases (definition.accepted_of (run r cs))
  fits = all_oldest registers r cs only

  pub taken_back_turned : taken_back r cs ≡ map turned (newest r cs)
  taken_back_turned = machine.taken_back_turned registers back reversible cs tt fits

  pub taken_back_accepted : All (λ e. e.outcome ≡ accepted) (taken_back r cs)
  taken_back_accepted = machine.taken_back_accepted registers back reversible cs tt fits

  pub taken_back_registers : map (λ e. e.left) (taken_back r cs) ≡ map (λ e. e.before) (newest r cs)
  taken_back_registers = machine.taken_back_states registers back reversible cs tt fits (λ t. t)

  pub taken_back_counts : map (λ e. e.left.count) (taken_back r cs) ≡ map (λ e. e.before.count) (newest r cs)
  taken_back_counts = machine.taken_back_states registers back reversible cs tt fits (λ t. t.count)

  pub taken_back_all : last (last r cs) (backs (newest r cs)) ≡ r
  taken_back_all = machine.taken_back_all registers back reversible cs tt fits

pub steps_only : (r : Register) {cs : List Call} → All (λ c. ¬ (c ≡ release)) cs → NoReleases (newest r cs)
unfolding definition.newest
steps_only r h = all_reverse (accepted_fit registers r h)

-- ---- a list in two parts
module _ (r : Register) (cs ds : List Call) (only : NoReleases (newest (last r cs) ds)) where
  -- taking back from the register after both parts is taking back the second list
  both : taken_back_after r cs ds ≡ taken_back (last r cs) ds
  unfolding definition.taken_back
  both = ap (λ t. run t (backs (newest (last r cs) ds))) (last_append registers r cs ds)

  pub after_turned : taken_back_after r cs ds ≡ map turned (newest (last r cs) ds)
  after_turned = both ∙ taken_back_turned (last r cs) ds only

  pub after_accepted : All (λ e. e.outcome ≡ accepted) (taken_back_after r cs ds)
  after_accepted = rw both (taken_back_accepted (last r cs) ds only)

  pub after_registers : map (λ e. e.left) (taken_back_after r cs ds) ≡ map (λ e. e.before) (newest (last r cs) ds)
  after_registers = ap (map (λ e. e.left)) both ∙ taken_back_registers (last r cs) ds only

  pub after_counts : map (λ e. e.left.count) (taken_back_after r cs ds) ≡ map (λ e. e.before.count) (newest (last r cs) ds)
  after_counts = ap (map (λ e. e.left.count)) both ∙ taken_back_counts (last r cs) ds only

  pub after_all : last (last r (cs ++ ds)) (backs (newest (last r cs) ds)) ≡ last r cs
  after_all = ap (λ t. last t (backs (newest (last r cs) ds))) (last_append registers r cs ds) ∙ taken_back_all (last r cs) ds only

-- ---- the last accepted release of a list
pub is_release : (c : Call) → (c ≡ release) ⊎ (¬ (c ≡ release))
is_release (step k a) = inr (step_no_release k a)
is_release release = inl refl

pub last_release : (r : Register) (cs : List Call) → LastRelease r cs
last_release = machine.last_final registers is_release
