-- Demand 3 on walks (docs/SPECIFICATION.md, 11): where the accepted calls of a list are commits and releases, a walk
-- from the last seal over the commits' classes, newest first, meets the seals just before the commits.
-- `commits_end`: the last seal is the end of the commit rule over the classes, oldest first.
-- `walk_meets`: the seals of the walk are the last seal, then those just before the commits, newest first.
-- `walk_steps`: no step of the walk is refused, and each answers the seal just before its commit.
-- `walk_ends`: the walk over the k newest classes ends in the seal just before the k-th newest commit, and for k = 0 in
-- the last seal.
-- `walk_part`: no step of the walk over the k newest classes is refused.
-- `accepted_few`: there are at most as many accepted commits as the limit.
use Prim.Native.Nat.{ℕ, ◌+◌, ◌≤◌}
use mathlib.Core.Path.{◌≡◌, refl, sym, ◌∙◌, ap, ap₂, subst}
use mathlib.Core.List.{List, [], ◌∷◌, ◌++◌, map, map-map, reverse, reverse-cons, reverse-reverse, tail}
use native.Mathlib.Omega.{arith}
use lib.ListN.{length, take, get_or, length-reverse}
use Rattle.lists.specs.{Lists.All, Lists.none, Lists.more, Walk.foldl, Walk.walk}
use Rattle.lists.proofs.{Lists.all_reverse, Walk.foldl_state, Walk.walk_reverse}
use Rattle.jacobian.specs.Answer.{accepted, Accepts, Result, gives}
use Rattle.jacobian.proofs.Representation.{accepts_both}
use Rattle.count_limit.specs.Limit.{count_limit}
use Rattle.history.specs.Register.{RegisterReply, commit_seal, undo_seal, with_count_and_seal, with_released, stepped}
use Rattle.history.specs.Machine as definition
use Rattle.history.specs.Calls.{Call, step, release, answer, registers, Event, run, last, newest, NoUndos, steps, classes, seals_met, seals_back, walk_back, steps_back, met, operations}
use Rattle.history.specs.declared.{Register.Register, Step.TheVariants.Commit, Step.TheVariants.Undo}
use Rattle.history.proofs.Machine.{Run.all_oldest, Run.by_accepted, Carried.map_onto}
use Rattle.history.proofs.{Seals.reversible, Registers.Passes, Registers.register_passes, Registers.passes_register, OneStep.step_taken, OneStep.release_taken, OneCall.refused_stays}
use Rattle.history.proofs.{Classes.steps_reverse, Classes.classes_reverse, Preserved.last_passes, Preserved.operations_accept, Preserved.none_or_passes, Steps.steps_accepted, Steps.steps_walk, Steps.walk_at, Steps.steps_take}

-- ---- in order of time
-- what these commits and releases do between two registers: the seals before the commits and the last one are the
-- states of the commit rule over the classes, and each commit adds 1 to the count
record Committed (s : Register) (es : List Event) (t : Register) : Type 0 where
  states : walk (commit_seal s.curve) s.seal (classes es) ≡ map (λ e. e.before.seal) (steps es) ++ (t.seal ∷ [])
  end : t.seal ≡ foldl (commit_seal s.curve) s.seal (classes es)
  counted : t.count ≡ s.count + length (classes es)

no_commits : (s : Register) → Committed s [] s
unfolding walk foldl classes steps
no_commits s = record { states = refl; end = refl; counted = omega arith }

then_committed : (s : Register) (c : Call) (es : List Event) (t : Register) → (answer s c).outcome ≡ accepted
    → (NoUndos es → Committed (answer s c).register es t) → NoUndos (definition.event registers s c ∷ es) → Committed s (definition.event registers s c ∷ es) t
unfolding walk foldl classes steps definition.event answer stepped with_count_and_seal with_released
then_committed s (step Commit a) es t e on (more h hs) =
    let p : Committed (stepped Commit s a) es t = subst (λ u. Committed u es t) (ap (λ (x : RegisterReply). x.register) (step_taken Commit s a e)) (on hs) in
    record { states = ap (λ l. s.seal ∷ l) p.states; end = p.end; counted = omega (arith, p.counted) }
then_committed s (step Undo a) es t e on (more h hs) = absurd (h a refl)
then_committed s release es t e on (more h hs) =
    let p : Committed (with_released s.count s) es t = subst (λ u. Committed u es t) (ap (λ (x : RegisterReply). x.register) (release_taken s e)) (on hs) in
    record { states = p.states; end = p.end; counted = p.counted }

-- ---- the walk back
-- answers that are accepted, by their classes
all_given : {xs : List Result} → All (λ x. x.outcome ≡ accepted) xs → xs ≡ map gives (map (λ x. x.class) xs)
all_given none = refl
all_given (more {a = x} h hs) = ap₂ (λ v l. record { outcome = v; class = x.class } ∷ l) h (all_given hs)

module _ (r : Register) (cs : List Call) (only : NoUndos (newest r cs)) where
  oldest : List Event
  oldest = definition.accepted_of (run r cs)

  committed : Committed r oldest (last r cs)
  unfolding oldest
  committed =
      by_accepted registers refused_stays (λ s es t. NoUndos es → Committed s es t) (λ s h. no_commits s) then_committed r cs (all_oldest registers r cs only)

  oldest_operations : operations (newest r cs) ≡ classes oldest
  unfolding definition.newest oldest
  oldest_operations = ap classes (reverse-reverse oldest)

  pub commits_end : (last r cs).seal ≡ foldl (commit_seal r.curve) r.seal (operations (newest r cs))
  commits_end = committed.end ∙ ap (foldl (commit_seal r.curve) r.seal) (sym oldest_operations)

  -- the seals of the walk back, in order of time
  commits_walk : walk (commit_seal r.curve) r.seal (operations (newest r cs)) ≡ reverse (seals_back r cs)
  unfolding definition.newest oldest seals_met
  commits_walk =
      ap (walk (commit_seal r.curve) r.seal) oldest_operations
      ∙ committed.states
      ∙ ap (λ l. l ++ ((last r cs).seal ∷ []))
      (sym (reverse-reverse (map (λ e. e.before.seal) (steps oldest)))
      ∙ ap reverse (sym (ap (map (λ e. e.before.seal)) (steps_reverse oldest) ∙ map_onto (λ e. e.before.seal) (steps oldest) [])))
      ∙ sym (reverse-cons (last r cs).seal (map (λ e. e.before.seal) (steps (newest r cs))))

  -- ---- on a register that passes its checks
  module _ (passes : Passes r) where
    seal_accepts : Accepts r.curve r.seal
    seal_accepts = accepts_both r.curve r.seal passes.curve_passes passes.seal_passes

    last_accepts : Accepts r.curve (last r cs).seal
    last_accepts = rw commits_end (foldl_state (reversible r.curve) seal_accepts (operations_accept r cs passes))

    -- the classes, newest first, are the reversed operations
    newest_first : classes (newest r cs) ≡ reverse (operations (newest r cs))
    newest_first = sym (ap reverse (classes_reverse (newest r cs)) ∙ reverse-reverse (classes (newest r cs)))

    meets : walk (undo_seal r.curve) (last r cs).seal (classes (newest r cs)) ≡ seals_back r cs
    meets =
        ap₂ (walk (undo_seal r.curve)) commits_end newest_first
        ∙ walk_reverse (reversible r.curve) seal_accepts (operations_accept r cs passes)
        ∙ ap reverse commits_walk
        ∙ reverse-reverse (seals_back r cs)

    accepted_steps : All (λ x. x.outcome ≡ accepted) (steps_back r.curve (last r cs).seal (classes (newest r cs)))
    accepted_steps = steps_accepted (classes (newest r cs)) last_accepts (rw newest_first (all_reverse (operations_accept r cs passes)))

    answers : steps_back r.curve (last r cs).seal (classes (newest r cs)) ≡ map met (steps (newest r cs))
    unfolding met seals_met
    answers =
        all_given accepted_steps
        ∙ ap (λ l. map gives (tail l)) (sym (steps_walk r.curve (last r cs).seal (classes (newest r cs)) accepted_steps) ∙ meets)
        ∙ map-map gives (λ e. e.before.seal) (steps (newest r cs))

    few : length (classes (newest r cs)) ≤ count_limit
    unfolding definition.newest oldest
    few =
        let n : length (classes (newest r cs)) ≡ length (classes oldest) = ap length (classes_reverse oldest) ∙ length-reverse (classes oldest) in
        let p = register_passes (last r cs) (last_passes r cs (passes_register r passes)) in
        omega (arith, committed.counted, p.count_passes)

  -- ---- on any register: where it fails a check, no call is accepted
  pub walk_meets : walk (undo_seal r.curve) (last r cs).seal (classes (newest r cs)) ≡ seals_back r cs
  unfolding walk classes steps seals_met
  walk_meets = none_or_passes r cs (λ es. walk (undo_seal r.curve) (last r cs).seal (classes es) ≡ seals_met (last r cs) es) refl meets

  pub walk_steps : steps_back r.curve (last r cs).seal (classes (newest r cs)) ≡ map met (steps (newest r cs))
  unfolding steps_back classes steps
  walk_steps = none_or_passes r cs (λ es. steps_back r.curve (last r cs).seal (classes es) ≡ map met (steps es)) refl answers

  pub walk_ends : (k : ℕ) → k ≤ length (classes (newest r cs))
      → walk_back r.curve (last r cs).seal (take k (classes (newest r cs))) ≡ get_or (seals_back r cs) k (last r cs).seal
  unfolding walk_back
  walk_ends k h =
      walk_at (undo_seal r.curve) (last r cs).seal (classes (newest r cs)) k (last r cs).seal h
      ∙ ap (λ l. get_or l k (last r cs).seal) walk_meets

  pub walk_part : (k : ℕ) → steps_back r.curve (last r cs).seal (take k (classes (newest r cs)))
      ≡ take k (map met (steps (newest r cs)))
  walk_part k = steps_take r.curve (last r cs).seal (classes (newest r cs)) k ∙ ap (take k) walk_steps

  pub accepted_few : length (classes (newest r cs)) ≤ count_limit
  unfolding classes
  accepted_few = none_or_passes r cs (λ es. length (classes es) ≤ count_limit) (omega arith) few
