-- A list of calls on one machine, mapped to another machine that agrees with it at each of these calls.
-- `run_carried`: the mapped calls happen on the other machine as on the first.
-- `last_carried`: the state after the list on the other machine is the mapped one.
-- `newest_carried`: the accepted calls on the other machine are the mapped ones.
use mathlib.Core.Path.{◌≡◌, refl, sym, ◌∙◌, ap, ap₂}
use mathlib.Core.List.{List, [], ◌∷◌, map, reverse, reverse_aux}
use Rattle.lists.specs.{Lists.All, Lists.none, Lists.more, Walk.foldl}
use Rattle.jacobian.specs.Answer.{Verdict, accepted, refused}
use Rattle.history.specs.Machine.{Machine, Event, accepted_of, event, run, last, newest, carried, Agrees}

pub map_onto : {X Y : Type 0} (f : X → Y) (l r : List X) → map f (reverse_aux l r) ≡ reverse_aux (map f l) (map f r)
map_onto f [] r = refl
map_onto f (x ∷ l) r = map_onto f l (x ∷ r)

module _ {State Call State' Call' : Type 0} (state : State → State') (call : Call → Call') (M : Machine State Call) (N : Machine State' Call') where
  pub accepted_carried : (es : List (Event State Call)) → map (carried state call) (accepted_of es) ≡ accepted_of (map (carried state call) es)
  unfolding accepted_of carried
  accepted_carried [] = refl
  accepted_carried (e ∷ es) = go e.outcome (accepted_carried es)
    where
      go : (v : Verdict) → map (carried state call) (accepted_of es) ≡ accepted_of (map (carried state call) es)
          → map (carried state call) (elim v [ accepted ↦ e ∷ accepted_of es | refused n ↦ accepted_of es ])
          ≡ elim v [ accepted ↦ carried state call e ∷ accepted_of (map (carried state call) es) | refused n ↦ accepted_of (map (carried state call) es) ]
      go accepted h = ap (λ l. carried state call e ∷ l) h
      go (refused n) h = h

  pub run_carried : (s : State) (cs : List Call) → All (Agrees state call N) (run M s cs) → map (carried state call) (run M s cs) ≡ run N (state s) (map call cs)
  unfolding run event carried Agrees
  run_carried s [] none = refl
  run_carried s (c ∷ cs) (more h hs) = ap₂ ◌∷◌ (sym h) (run_carried (M.next s c) cs hs ∙ ap (λ (e : Event State' Call'). run N e.left (map call cs)) (sym h))

  pub last_carried : (s : State) (cs : List Call) → All (Agrees state call N) (run M s cs) → state (last M s cs) ≡ last N (state s) (map call cs)
  unfolding run event carried Agrees last foldl
  last_carried s [] none = refl
  last_carried s (c ∷ cs) (more h hs) = last_carried (M.next s c) cs hs ∙ ap (λ (e : Event State' Call'). last N e.left (map call cs)) (sym h)

  pub newest_carried : (s : State) (cs : List Call) → All (Agrees state call N) (run M s cs) → map (carried state call) (newest M s cs) ≡ newest N (state s) (map call cs)
  unfolding newest
  newest_carried s cs h = map_onto (carried state call) (accepted_of (run M s cs)) [] ∙ ap reverse (accepted_carried (run M s cs) ∙ ap accepted_of (run_carried s cs h))
