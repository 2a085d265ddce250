-- Demand 3 on a list in which each call is by value or in place (docs/SPECIFICATION.md, 8 and 11). What happens is what
-- happens with all calls by value, so the theorems of the crate history hold of it.
-- `refusal_leaves`: a refusal leaves the lent register unchanged.
-- `happened_run`: what happens is what happens with all calls by value.
-- `left_by_last`: so for the register after the list.
-- `newest_is`: so for the accepted calls.
-- `as_by_value`: what holds of these with all calls by value holds of them.
-- `curve_kept`: no call changes degree or curve.
-- `failing`: a register that itself fails a check is refused by every call with that check's number.
-- `failing_stays`: such a register stays as it was.
-- `last_passes`: a register that passes its checks still does so after a list of calls.
-- `last_release`: every list is in two parts, the first empty or up to its last accepted release.
-- `released_grows`: no list of calls makes the released step smaller.
-- `none_behind`: after an accepted release no list of calls leads to a smaller count.
-- `steps_only`: in a list of commits and undos no release is accepted.
-- Where no release was accepted:
-- `released_kept`: the released step after the list is that of the first register.
-- `taken_back_turned`: taking the accepted calls back, newest first, does to each call what `turned` says.
-- `taken_back_accepted`: no call that takes a call back is refused.
-- `taken_back_registers`: each leaves the register just before the call that it takes back.
-- `taken_back_all`: after all of them the register is the first one.
-- `after_turned`, `after_accepted`, `after_registers`, `after_all`: the same of the calls after any place from which on
-- no release was accepted; the last register is then the one at that place.
-- Where the accepted calls are commits and releases, for the walk back from the last seal over the classes of the
-- commits, newest first:
-- `walk_steps`: no step is refused, and each answers the seal just before its commit.
-- `walk_meets`: the seals of the walk are the last seal, then those just before the commits.
-- `walk_ends`: the walk over the k newest classes ends in the seal just before the k-th newest commit, and for k = 0 in
-- the last seal.
-- `walk_part`: no step of the walk over the k newest classes is refused.
use Prim.Native.Nat.{ℕ, suc, ◌≤◌}
use mathlib.Core.{Path.◌≡◌, Path.refl, Path.sym, Path.◌∙◌, Path.ap, List.List, List.[], List.◌∷◌, List.◌++◌, List.map, List.map-map}
use lib.ListN.{length, take, get_or}
use Rattle.lists.specs.{Lists.All, Lists.none, Lists.more, Walk.walk}
use Rattle.jacobian.specs.Answer.{accepted, refused, verdict_of}
use Rattle.history.specs.{Register.RegisterReply, Register.register_refusal, Register.undo_seal, Register.release_answer, Calls.Call, Calls.release, Calls.answer, Calls.registers, Calls.Event, Calls.run, Calls.last, Calls.newest, Calls.backs, Calls.turned, Calls.NoReleases, Calls.NoUndos, Calls.steps, Calls.classes, Calls.walk_back, Calls.steps_back, Calls.met, Calls.seals_met}
use Rattle.history.specs.Machine as machine
use Rattle.history.specs.declared.Register.{Register}
use Rattle.history.proofs.{OneCall.refused_stays, Failing.failing_run, Failing.failing_last, Machine.Run.run_append, Machine.Run.last_append, Machine.Carried.run_carried, Machine.Carried.last_carried, Machine.Carried.newest_carried}
use Rattle.lists.proofs.Lists.{all_map, all_split}
use Rattle.history.proofs.TakingBack as history
use Rattle.history.proofs.Releases as releases
use Rattle.history.proofs.Preserved as preserved
use Rattle.history.proofs.Machine.TakingBack.{last_final}
use Rattle.history.proofs.WalkingBack as walking
use Rattle.seal_register.specs.InPlace.{in_place, RecordedCall, call, recorded_reply, calls, replay, Session, happened, left_by, newest_recorded, seals_recorded}

pub refusal_leaves : (r : Register) (c : Call) (n : ℕ) (left : Register) → in_place (suc n) left ≡ answer r c → left ≡ r
unfolding in_place verdict_of
refusal_leaves r c n left e = ap (λ (x : RegisterReply). x.register) e ∙ refused_stays r c (suc n) (sym (ap (λ (x : RegisterReply). x.outcome) e))

-- ---- a list of calls
-- each call is answered as the machine of registers answers it
agreeing : (r : Register) (ms : List RecordedCall) → Session r ms → All (machine.Agrees (λ t. t) call registers) (machine.run replay r ms)
unfolding machine.run machine.event machine.Agrees machine.carried
agreeing r [] none = none
agreeing r (m ∷ ms) (more e s) =
    more (ap (λ (x : RegisterReply). record { before = r; call = call m; outcome = x.outcome; left = x.register }) (sym e)) (agreeing (recorded_reply m).register ms s)

module _ (r : Register) (ms : List RecordedCall) (s : Session r ms) where
  pub happened_run : happened r ms ≡ run r (calls ms)
  unfolding happened calls
  happened_run = run_carried (λ t. t) call replay registers r ms (agreeing r ms s)

  pub left_by_last : left_by r ms ≡ last r (calls ms)
  unfolding calls
  left_by_last = last_carried (λ t. t) call replay registers r ms (agreeing r ms s)

  pub newest_is : newest_recorded r ms ≡ newest r (calls ms)
  unfolding newest_recorded calls
  newest_is = newest_carried (λ t. t) call replay registers r ms (agreeing r ms s)

  pub as_by_value : (P : List Event → Register → Type 0) → P (newest r (calls ms)) (last r (calls ms)) → P (newest_recorded r ms) (left_by r ms)
  as_by_value P h = rw (newest_is, left_by_last) h

  pub curve_kept : All (λ e. e.left.curve ≡ r.curve) (happened r ms)
  curve_kept = rw happened_run (history.curve_kept r (calls ms))

module _ (r : Register) (fails : ¬ (register_refusal r ≡ 0)) (ms : List RecordedCall) (s : Session r ms) where
  pub failing : happened r ms ≡ map (λ m. record { before = r; call = call m; outcome = refused (register_refusal r); left = r }) ms
  unfolding calls
  failing = happened_run r ms s ∙ failing_run r fails (calls ms) ∙ map-map (λ c. record { before = r; call = c; outcome = refused (register_refusal r); left = r }) call ms

  pub failing_stays : left_by r ms ≡ r
  failing_stays = left_by_last r ms s ∙ failing_last r fails (calls ms)

pub last_passes : (r : Register) (ms : List RecordedCall) → Session r ms → register_refusal r ≡ 0 → register_refusal (left_by r ms) ≡ 0
last_passes r ms s ok = rw (left_by_last r ms s) (preserved.last_passes r (calls ms) ok)

-- ---- releases
-- the accepted calls that are no releases, as calls on a register
none_recorded : {es : List (machine.Event Register RecordedCall)} → All (λ e. ¬ (call e.call ≡ release)) es → NoReleases (map (machine.carried (λ t. t) call) es)
unfolding machine.carried
none_recorded none = none
none_recorded (more h hs) = more h (none_recorded hs)

pub last_release : (r : Register) (ms : List RecordedCall) →
    (p : machine.LastFinal replay (λ m. call m ≡ release) r ms) × NoReleases (newest_recorded (left_by r p.before) p.after)
unfolding newest_recorded
last_release r ms = let p = last_final replay (λ m. history.is_release (call m)) r ms in (p, none_recorded p.none_after)

pub released_grows : (r : Register) (ms : List RecordedCall) → Session r ms → r.released ≤ (left_by r ms).released
released_grows r ms s = rw (left_by_last r ms s) (releases.released_grows r (calls ms))

pub none_behind : (r : Register) → (release_answer r).outcome ≡ accepted → (ms : List RecordedCall) → Session (release_answer r).register ms
    → r.count ≤ (left_by (release_answer r).register ms).count
none_behind r e ms s = rw (left_by_last (release_answer r).register ms s) (releases.none_behind r (calls ms) e)

-- ---- taking back, where no release was accepted
pub steps_only : (r : Register) (ms : List RecordedCall) → Session r ms → All (λ c. ¬ (c ≡ release)) (calls ms) → NoReleases (newest_recorded r ms)
steps_only r ms s h = rw (newest_is r ms s) (history.steps_only r h)

module _ (r : Register) (ms : List RecordedCall) (s : Session r ms) (no_releases : NoReleases (newest_recorded r ms)) where
  no_releases_by_value : NoReleases (newest r (calls ms))
  no_releases_by_value = rw (newest_is r ms s) at no_releases

  pub released_kept : (left_by r ms).released ≡ r.released
  released_kept = rw (left_by_last r ms s) (releases.released_kept r (calls ms) no_releases_by_value)

  -- the list bs of calls takes the accepted calls back, newest first, each by value or in place
  module _ (bs : List RecordedCall) (back : Session (left_by r ms) bs) (takes : calls bs ≡ backs (newest_recorded r ms)) where
    pub taken_back_turned : happened (left_by r ms) bs ≡ map turned (newest_recorded r ms)
    unfolding machine.taken_back
    taken_back_turned =
        happened_run (left_by r ms) bs back ∙ ap (run (left_by r ms)) takes
        ∙ as_by_value r ms s (λ es t. run t (backs es) ≡ map turned es) (history.taken_back_turned r (calls ms) no_releases_by_value)

    pub taken_back_accepted : All (λ e. e.outcome ≡ accepted) (happened (left_by r ms) bs)
    unfolding machine.turned
    taken_back_accepted = rw taken_back_turned (all_map turned (λ e. refl) (newest_recorded r ms))

    pub taken_back_registers : map (λ e. e.left) (happened (left_by r ms) bs) ≡ map (λ e. e.before) (newest_recorded r ms)
    unfolding machine.turned
    taken_back_registers = ap (map (λ e. e.left)) taken_back_turned ∙ map-map (λ e. e.left) turned (newest_recorded r ms)

    pub taken_back_all : left_by (left_by r ms) bs ≡ r
    taken_back_all =
        left_by_last (left_by r ms) bs back ∙ ap (last (left_by r ms)) takes
        ∙ as_by_value r ms s (λ es t. last t (backs es) ≡ r) (history.taken_back_all r (calls ms) no_releases_by_value)

-- ---- the same after a first part of the list: of the calls ns that follow ms, none is an accepted release, and bs
-- takes the accepted ones back
module _ (r : Register) (ms ns : List RecordedCall) (s : Session r (ms ++ ns)) (no_releases : NoReleases (newest_recorded (left_by r ms) ns))
    (bs : List RecordedCall) (back : Session (left_by r (ms ++ ns)) bs) (takes : calls bs ≡ backs (newest_recorded (left_by r ms) ns)) where
  follows : left_by r (ms ++ ns) ≡ left_by (left_by r ms) ns
  follows = last_append replay r ms ns

  second : Session (left_by r ms) ns
  second = (all_split (machine.run replay r ms) (rw (run_append replay r ms ns) at s)).1

  back_from_second : Session (left_by (left_by r ms) ns) bs
  back_from_second = rw follows at back

  pub after_turned : happened (left_by r (ms ++ ns)) bs ≡ map turned (newest_recorded (left_by r ms) ns)
  after_turned = rw follows (taken_back_turned (left_by r ms) ns second no_releases bs back_from_second takes)

  pub after_accepted : All (λ e. e.outcome ≡ accepted) (happened (left_by r (ms ++ ns)) bs)
  after_accepted = rw follows (taken_back_accepted (left_by r ms) ns second no_releases bs back_from_second takes)

  pub after_registers : map (λ e. e.left) (happened (left_by r (ms ++ ns)) bs) ≡ map (λ e. e.before) (newest_recorded (left_by r ms) ns)
  after_registers = rw follows (taken_back_registers (left_by r ms) ns second no_releases bs back_from_second takes)

  pub after_all : left_by (left_by r (ms ++ ns)) bs ≡ left_by r ms
  after_all = rw follows (taken_back_all (left_by r ms) ns second no_releases bs back_from_second takes)

-- ---- the walk back, where the accepted calls are commits and releases
module _ (r : Register) (ms : List RecordedCall) (s : Session r ms) (no_undos : NoUndos (newest_recorded r ms)) where
  no_undos_by_value : NoUndos (newest r (calls ms))
  no_undos_by_value = rw (newest_is r ms s) at no_undos

  pub walk_steps : steps_back r.curve (left_by r ms).seal (classes (newest_recorded r ms)) ≡ map met (steps (newest_recorded r ms))
  walk_steps = as_by_value r ms s (λ es t. steps_back r.curve t.seal (classes es) ≡ map met (steps es)) (walking.walk_steps r (calls ms) no_undos_by_value)

  pub walk_meets : walk (undo_seal r.curve) (left_by r ms).seal (classes (newest_recorded r ms)) ≡ seals_recorded r ms
  unfolding seals_recorded
  walk_meets = as_by_value r ms s (λ es t. walk (undo_seal r.curve) t.seal (classes es) ≡ seals_met t es) (walking.walk_meets r (calls ms) no_undos_by_value)

  pub walk_ends : (k : ℕ) → k ≤ length (classes (newest_recorded r ms))
      → walk_back r.curve (left_by r ms).seal (take k (classes (newest_recorded r ms))) ≡ get_or (seals_recorded r ms) k (left_by r ms).seal
  unfolding seals_recorded
  walk_ends =
      as_by_value r ms s (λ es t. (k : ℕ) → k ≤ length (classes es) → walk_back r.curve t.seal (take k (classes es)) ≡ get_or (seals_met t es) k t.seal)
      (walking.walk_ends r (calls ms) no_undos_by_value)

  pub walk_part : (k : ℕ) → steps_back r.curve (left_by r ms).seal (take k (classes (newest_recorded r ms))) ≡ take k (map met (steps (newest_recorded r ms)))
  walk_part =
      as_by_value r ms s (λ es t. (k : ℕ) → steps_back r.curve t.seal (take k (classes es)) ≡ take k (map met (steps es))) (walking.walk_part r (calls ms) no_undos_by_value)
