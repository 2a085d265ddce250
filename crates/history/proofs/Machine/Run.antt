-- What a list of calls does on any machine.
-- `all_accepted`: what holds of each call of a list that is accepted holds of all its accepted calls.
-- `run_append`: a list after another happens from the state that the first one left.
-- `last_append`: the state after both is that of the second list from the state after the first.
-- `last_holds`: an invariant that every call keeps holds after the list.
-- `run_all`: what such an invariant implies of one call holds of every call of the list.
-- `accepted_fit`: what holds of all calls of a list holds of the accepted ones.
-- `all_oldest`: what holds of the accepted calls, newest first, holds of them in order of time.
-- `by_accepted`: where refused calls change nothing, induction on the accepted calls of a list, from the oldest.
use Prim.Native.Nat.{ℕ}
use mathlib.Core.Path.{◌≡◌, refl, ap, subst}
use mathlib.Core.List.{List, [], ◌∷◌, ◌++◌, reverse-reverse}
use Rattle.lists.specs.{Lists.All, Lists.none, Lists.more, Walk.foldl}
use Rattle.lists.proofs.{Lists.all_reverse, Walk.foldl_append}
use Rattle.jacobian.specs.Answer.{Verdict, accepted, refused}
use Rattle.history.specs.Machine.{Machine, Event, accepted_of, event, run, last, newest}

pub all_accepted : {State Call : Type 0} {P : Event State Call → Type 0} {es : List (Event State Call)} → All (λ e. e.outcome ≡ accepted → P e) es → All P (accepted_of es)
unfolding accepted_of
all_accepted none = none
all_accepted {P = P} (more {a = e} {l = es} p h) = go e.outcome refl (all_accepted h)
  where
    go : (v : Verdict) → e.outcome ≡ v → All P (accepted_of es) → All P (elim v [ accepted ↦ e ∷ accepted_of es | refused n ↦ accepted_of es ])
    go accepted q k = more (p q) k
    go (refused n) q k = k

module _ {State Call : Type 0} (M : Machine State Call) where
  pub run_append : (s : State) (cs ds : List Call) → run M s (cs ++ ds) ≡ run M s cs ++ run M (last M s cs) ds
  unfolding run last foldl
  run_append s [] ds = refl
  run_append s (c ∷ cs) ds = ap (λ es. event M s c ∷ es) (run_append (M.next s c) cs ds)

  pub last_append : (s : State) (cs ds : List Call) → last M s (cs ++ ds) ≡ last M (last M s cs) ds
  unfolding last
  last_append s cs ds = foldl_append M.next s cs ds

  module _ (Holds : State → Type 0) (keeps : (s : State) (c : Call) → Holds s → Holds (M.next s c)) where
    pub last_holds : {s : State} (cs : List Call) → Holds s → Holds (last M s cs)
    unfolding last foldl
    last_holds [] h = h
    last_holds {s} (c ∷ cs) h = last_holds {s = M.next s c} cs (keeps s c h)

    pub run_all : {P : Event State Call → Type 0} → ((s : State) (c : Call) → Holds s → P (event M s c)) → {s : State} (cs : List Call) → Holds s → All P (run M s cs)
    unfolding run
    run_all p [] h = none
    run_all p {s} (c ∷ cs) h = more (p s c h) (run_all p {s = M.next s c} cs (keeps s c h))

  -- each accepted call of the list fits where all calls do
  run_fit : {Fits : Call → Type 0} (s : State) {cs : List Call} → All Fits cs → All (λ e. e.outcome ≡ accepted → Fits e.call) (run M s cs)
  unfolding run event
  run_fit s none = none
  run_fit s (more {a = c} f fs) = more (λ e. f) (run_fit (M.next s c) fs)

  pub accepted_fit : {Fits : Call → Type 0} (s : State) {cs : List Call} → All Fits cs → All (λ e. Fits e.call) (accepted_of (run M s cs))
  accepted_fit s fits = all_accepted (run_fit s fits)

  pub all_oldest : {P : Event State Call → Type 0} (s : State) (cs : List Call) → All P (newest M s cs) → All P (accepted_of (run M s cs))
  unfolding newest
  all_oldest {P} s cs h = subst (All P) (reverse-reverse (accepted_of (run M s cs))) (all_reverse h)

  module _ (stays : (s : State) (c : Call) (n : ℕ) → M.outcome s c ≡ refused n → M.next s c ≡ s) (P : State → List (Event State Call) → State → Type 0)
      (empty : (s : State) → P s [] s)
      (longer : (s : State) (c : Call) (es : List (Event State Call)) (t : State) → M.outcome s c ≡ accepted → P (M.next s c) es t → P s (event M s c ∷ es) t) where
    pub by_accepted : (s : State) (cs : List Call) → P s (accepted_of (run M s cs)) (last M s cs)
    unfolding run last foldl accepted_of event
    by_accepted s [] = empty s
    by_accepted s (c ∷ cs) = go (M.outcome s c) refl (by_accepted (M.next s c) cs)
      where
        rest : List (Event State Call)
        rest = accepted_of (run M (M.next s c) cs)

        end : State
        end = last M (M.next s c) cs

        go : (v : Verdict) → M.outcome s c ≡ v → P (M.next s c) rest end → P s (elim v [ accepted ↦ event M s c ∷ rest | refused n ↦ rest ]) end
        go accepted e h = longer s c rest end e h
        go (refused n) e h = subst (λ u. P u rest end) (stays s c n e) h
