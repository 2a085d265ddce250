-- Taking back on any reversible machine (docs/SPECIFICATION.md, 11), from a state where its invariant holds, over a
-- list whose accepted calls fit, refused calls included.
-- `taken_back_turned`: taking the accepted calls back, newest first, does to each call what `turned` says.
-- `taken_back_accepted`: no call that takes a call back is refused.
-- `taken_back_states`: any function of the states just before the accepted calls comes back, newest first.
-- `taken_back_all`: after all of them the state is the first one.
-- `last_final`: every list is in two parts, the first empty or up to its last accepted call that has no way back.
use mathlib.Core.Path.{◌≡◌, refl, sym, ◌∙◌, ap, ap₂, subst}
use mathlib.Core.Logic.{◌⊎◌, inl, inr}
use mathlib.Core.List.{List, [], ◌∷◌, ◌++◌, map, map-map, reverse, reverse-cons, map-append}
use Rattle.lists.specs.{Lists.All, Lists.none, Lists.more, Walk.foldl}
use Rattle.jacobian.specs.Answer.{Verdict, accepted, refused}
use Rattle.history.specs.Machine.{Machine, Event, accepted_of, event, run, last, newest, backs, turned, taken_back, Reversible, EndsFinal, empty, ends, LastFinal}
use Rattle.lists.proofs.Lists.{all_map, all_head, all_reverse}
use Rattle.history.proofs.Machine.Run.{run_append, last_append, all_oldest, by_accepted}

module _ {State Call : Type 0} (M : Machine State Call) (back : Call → Call) where
  -- ---- accepted calls that can each be taken back, each made in the state that the one before it left
  data Chain : State → List (Event State Call) → State → Type 0 where
    still : {s : State} → Chain s [] s
    turns : {e : Event State Call} {es : List (Event State Call)} {t : State} → event M e.left (back e.call) ≡ turned back e → Chain e.left es t → Chain e.before (e ∷ es) t

  backs_cons : (e : Event State Call) (es : List (Event State Call)) → backs back (reverse (e ∷ es)) ≡ backs back (reverse es) ++ (back e.call ∷ [])
  unfolding backs
  backs_cons e es = ap (backs back) (reverse-cons e es) ∙ map-append (λ x. back x.call) (reverse es) (e ∷ [])

  chain_last : {s t : State} {es : List (Event State Call)} → Chain s es t → last M t (backs back (reverse es)) ≡ s
  unfolding turned last foldl backs event
  chain_last still = refl
  chain_last (turns {e = e} {es = es} {t = t} k h) =
      ap (last M t) (backs_cons e es)
      ∙ last_append M t (backs back (reverse es)) (back e.call ∷ [])
      ∙ ap (λ s. M.next s (back e.call)) (chain_last h)
      ∙ ap (λ (x : Event State Call). x.left) k

  chain_run : {s t : State} {es : List (Event State Call)} → Chain s es t → run M t (backs back (reverse es)) ≡ map (turned back) (reverse es)
  unfolding run backs
  chain_run still = refl
  chain_run (turns {e = e} {es = es} {t = t} k h) =
      ap (run M t) (backs_cons e es)
      ∙ run_append M t (backs back (reverse es)) (back e.call ∷ [])
      ∙ ap₂ (λ xs s. xs ++ (event M s (back e.call) ∷ [])) (chain_run h) (chain_last h)
      ∙ ap (λ x. map (turned back) (reverse es) ++ (x ∷ [])) k
      ∙ sym (ap (map (turned back)) (reverse-cons e es) ∙ map-append (turned back) (reverse es) (e ∷ []))

  module _ {Holds : State → Type 0} {Fits : Call → Type 0} (law : Reversible M back Holds Fits) where
    run_chain : (s : State) (cs : List Call) → Holds s → All (λ e. Fits e.call) (accepted_of (run M s cs)) → Chain s (accepted_of (run M s cs)) (last M s cs)
    unfolding event
    run_chain =
        by_accepted M law.stays (λ s es t. Holds s → All (λ e. Fits e.call) es → Chain s es t) (λ s h fits. still)
        (λ s c es t e on h fits.
        let f = all_head fits in
        turns {e = event M s c} (law.returns s c h f.0 e) (on (law.keeps s c h f.0 e) f.1))

    module _ {s : State} (cs : List Call) (holds : Holds s) (fits : All (λ e. Fits e.call) (accepted_of (run M s cs))) where
      pub taken_back_turned : taken_back M back s cs ≡ map (turned back) (newest M s cs)
      unfolding taken_back newest
      taken_back_turned = chain_run (run_chain s cs holds fits)

      pub taken_back_accepted : All (λ e. e.outcome ≡ accepted) (taken_back M back s cs)
      unfolding turned
      taken_back_accepted = rw taken_back_turned (all_map (turned back) (λ e. refl) (newest M s cs))

      pub taken_back_states : {X : Type 0} (f : State → X) → map (λ e. f e.left) (taken_back M back s cs) ≡ map (λ e. f e.before) (newest M s cs)
      unfolding turned
      taken_back_states f = ap (map (λ e. f e.left)) taken_back_turned ∙ map-map (λ e. f e.left) (turned back) (newest M s cs)

      pub taken_back_all : last M (last M s cs) (backs back (newest M s cs)) ≡ s
      unfolding newest
      taken_back_all = chain_last (run_chain s cs holds fits)

-- ---- the last accepted final call of a list
module _ {State Call : Type 0} (M : Machine State Call) {Final : Call → Type 0} (final : (c : Call) → Final c ⊎ (¬ Final c)) where
  -- a call that is not both accepted and final, before calls without such a one
  then_none : (s : State) (c : Call) (cs : List Call) → (M.outcome s c ≡ accepted → ¬ Final c) → All (λ e. ¬ Final e.call) (newest M (M.next s c) cs)
      → All (λ e. ¬ Final e.call) (newest M s (c ∷ cs))
  unfolding newest run event accepted_of
  then_none s c cs not_final h = all_reverse (go (M.outcome s c) refl)
    where
      rest : List (Event State Call)
      rest = accepted_of (run M (M.next s c) cs)

      hs : All (λ e. ¬ Final e.call) rest
      hs = all_oldest M (M.next s c) cs h

      go : (v : Verdict) → M.outcome s c ≡ v → All {X = Event State Call} (λ e. ¬ Final e.call) (elim v [ accepted ↦ event M s c ∷ rest | refused n ↦ rest ])
      go accepted e = more (not_final e) hs
      go (refused n) e = hs

  -- the first call of a list in which no later one is accepted and final
  at_first : (s : State) (c : Call) (cs : List Call) → All (λ e. ¬ Final e.call) (newest M (M.next s c) cs) → LastFinal M Final s (c ∷ cs)
  unfolding last foldl
  at_first s c cs h = go (M.outcome s c) refl (final c)
    where
      all_after : (M.outcome s c ≡ accepted → ¬ Final c) → LastFinal M Final s (c ∷ cs)
      all_after not_final = record { before = []; after = c ∷ cs; parts = refl; at_final = empty; none_after = then_none s c cs not_final h }

      go : (v : Verdict) → M.outcome s c ≡ v → Final c ⊎ (¬ Final c) → LastFinal M Final s (c ∷ cs)
      go accepted e (inl f) = record { before = c ∷ []; after = cs; parts = refl; at_final = ends [] c f e; none_after = h }
      go accepted e (inr not_final) = all_after (λ q. not_final)
      go (refused n) e f = all_after (λ q. cc)

  -- one call before a list
  extended : (s : State) (c : Call) {cs before : List Call} (after : List Call) → cs ≡ before ++ after → EndsFinal M Final (M.next s c) before
      → All (λ e. ¬ Final e.call) (newest M (last M (M.next s c) before) after) → LastFinal M Final s (c ∷ cs)
  unfolding last foldl
  extended s c after e empty h = subst (λ cs. LastFinal M Final s (c ∷ cs)) (sym e) (at_first s c after h)
  extended s c after e (ends ds d f q) h =
      record { before = c ∷ (ds ++ (d ∷ [])); after = after; parts = ap (λ cs. c ∷ cs) e; at_final = ends (c ∷ ds) d f q; none_after = h }

  pub last_final : (s : State) (cs : List Call) → LastFinal M Final s cs
  unfolding newest run accepted_of
  last_final s [] = record { before = []; after = []; parts = refl; at_final = empty; none_after = none }
  last_final s (c ∷ cs) = let p = last_final (M.next s c) cs in extended s c p.after p.parts p.at_final p.none_after
