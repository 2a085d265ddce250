-- The accepted calls of a list on one machine, whose refused calls leave the state as it was, mapped to another machine
-- that agrees with it at each accepted call.
-- `accepted_run`: the mapped calls happen on the other machine, and all of them are accepted.
-- `accepted_last`: the state after them on the other machine is the mapped one.
-- `accepted_newest`: they are the accepted calls of the other machine.
use Prim.Native.Nat.{ℕ}
use mathlib.Core.Path.{◌≡◌, refl, sym, ◌∙◌, ap, ap₂, subst}
use mathlib.Core.List.{List, [], ◌∷◌, map, reverse}
use Rattle.lists.specs.{Lists.All, Lists.none, Lists.more, Walk.foldl}
use Rattle.jacobian.specs.Answer.{Verdict, accepted, refused}
use Rattle.history.specs.Machine.{Machine, Event, accepted_of, event, run, last, newest, accepted_calls, carried, Agrees}
use Rattle.history.proofs.Machine.Carried.{map_onto, accepted_carried}

-- the accepted calls among the accepted ones are all of them
accepted_twice : {State Call : Type 0} (es : List (Event State Call)) → accepted_of (accepted_of es) ≡ accepted_of es
unfolding accepted_of
accepted_twice [] = refl
accepted_twice {State} {Call} (e ∷ es) = go e.outcome refl (accepted_twice es)
  where
    go : (v : Verdict) → e.outcome ≡ v → accepted_of (accepted_of es) ≡ accepted_of es
        → accepted_of {State = State} {Call = Call} (elim v [ accepted ↦ e ∷ accepted_of es | refused n ↦ accepted_of es ]) ≡ elim v [ accepted ↦ e ∷ accepted_of es | refused n ↦ accepted_of es ]
    go accepted q h =
        ap (λ (w : Verdict). elim w [ accepted ↦ e ∷ accepted_of (accepted_of es) | refused n ↦ accepted_of (accepted_of es) ]) q ∙ ap (λ l. e ∷ l) h
    go (refused n) q h = h

module _ {State Call State' Call' : Type 0} (state : State → State') (call : Call → Call') (M : Machine State Call) (N : Machine State' Call')
    (stays : (s : State) (c : Call) (n : ℕ) → M.outcome s c ≡ refused n → M.next s c ≡ s) where
  -- on the other machine: the run of these calls, and the state after them
  abbrev Goes : State → List (Event State Call) → State → Type 0
  Goes s es t = let cs = map call (map (λ e. e.call) es) in (run N (state s) cs ≡ map (carried state call) es) × (last N (state s) cs ≡ state t)

  goes : (s : State) (cs : List Call) → All (λ e. e.outcome ≡ accepted → Agrees state call N e) (run M s cs) → Goes s (accepted_of (run M s cs)) (last M s cs)
  unfolding run last foldl event accepted_of carried Agrees
  goes s [] none = (refl, refl)
  goes s (c ∷ cs) (more h hs) = go (M.outcome s c) refl (goes (M.next s c) cs hs)
    where
      rest : List (Event State Call)
      rest = accepted_of (run M (M.next s c) cs)

      end : State
      end = last M (M.next s c) cs

      after : List Call'
      after = map call (map (λ e. e.call) rest)

      go : (v : Verdict) → M.outcome s c ≡ v → Goes (M.next s c) rest end → Goes s (elim v [ accepted ↦ event M s c ∷ rest | refused n ↦ rest ]) end
      go accepted q on =
          let same : N.next (state s) (call c) ≡ state (M.next s c) = ap (λ (e : Event State' Call'). e.left) (h q) in
          (ap₂ ◌∷◌ (h q) (ap (λ t. run N t after) same ∙ on.0), ap (λ t. last N t after) same ∙ on.1)
      go (refused n) q on = subst (λ t. Goes t rest end) (stays s c n q) on

  module _ (s : State) (cs : List Call) (agrees : All (λ e. e.outcome ≡ accepted → Agrees state call N e) (run M s cs)) where
    pub accepted_run : run N (state s) (map call (accepted_calls M s cs)) ≡ map (carried state call) (accepted_of (run M s cs))
    unfolding accepted_calls
    accepted_run = (goes s cs agrees).0

    pub accepted_last : state (last M s cs) ≡ last N (state s) (map call (accepted_calls M s cs))
    unfolding accepted_calls
    accepted_last = sym (goes s cs agrees).1

    pub accepted_newest : map (carried state call) (newest M s cs) ≡ newest N (state s) (map call (accepted_calls M s cs))
    unfolding newest
    accepted_newest =
        map_onto (carried state call) (accepted_of (run M s cs)) []
        ∙ ap (λ es. reverse (map (carried state call) es)) (sym (accepted_twice (run M s cs)))
        ∙ ap reverse (accepted_carried state call M N (accepted_of (run M s cs)))
        ∙ ap (λ es. reverse (accepted_of es)) (sym accepted_run)
