-- Machines: what a list of calls does, and taking calls back (docs/SPECIFICATION.md, 11).
-- A register is a machine, by value or in place.
use Rattle.std.specs.Prelude.{ℕ, ◌≡◌, List, [], ◌∷◌, ◌++◌, map, reverse}
use Rattle.lists.specs.{Lists.All, Walk.foldl}
use Rattle.jacobian.specs.Answer.{Verdict, accepted, refused}

-- a machine: for each state and call an outcome and the next state
pub record Machine (State Call : Type 0) : Type 0 where
  pub outcome : State → Call → Verdict
  pub next : State → Call → State

-- a call that was made: the state before it, the call, its outcome and the state after it
pub record Event (State Call : Type 0) : Type 0 where
  pub before : State
  pub call : Call
  pub outcome : Verdict
  pub left : State

-- the accepted calls among these
unfoldable pub accepted_of : {State Call : Type 0} → List (Event State Call) → List (Event State Call)
accepted_of [] = []
accepted_of (e ∷ es) = elim e.outcome [ accepted ↦ e ∷ accepted_of es | refused n ↦ accepted_of es ]

module _ {State Call : Type 0} (M : Machine State Call) where
  -- one call made in a state
  unfoldable pub event : State → Call → Event State Call
  event s c = record { before = s; call = c; outcome = M.outcome s c; left = M.next s c }

  -- the calls of a list as they happen: each is made in the state that the call before it left
  unfoldable pub run : State → List Call → List (Event State Call)
  run s [] = []
  run s (c ∷ cs) = event s c ∷ run (M.next s c) cs

  -- the state after the list
  unfoldable pub last : State → List Call → State
  last s cs = foldl M.next s cs

  -- the accepted calls of the list, newest first
  unfoldable pub newest : State → List Call → List (Event State Call)
  newest s cs = reverse (accepted_of (run s cs))

  -- the calls of the list that are accepted, in order
  unfoldable pub accepted_calls : State → List Call → List Call
  accepted_calls s cs = map (λ e. e.call) (accepted_of (run s cs))

-- ---- taking back, by a function that names for each call the one that takes it back
module _ {State Call : Type 0} (back : Call → Call) where
  -- the calls that take these back
  unfoldable pub backs : List (Event State Call) → List Call
  backs es = map (λ e. back e.call) es

  -- a call taken back: accepted, from the state after it to the state before it
  unfoldable pub turned : Event State Call → Event State Call
  turned e = record { before = e.left; call = back e.call; outcome = accepted; left = e.before }

module _ {State Call : Type 0} (M : Machine State Call) (back : Call → Call) where
  -- the accepted calls of a list taken back, newest first, from the state after the list
  unfoldable pub taken_back : State → List Call → List (Event State Call)
  taken_back s cs = run M (last M s cs) (backs back (newest M s cs))

  -- a machine whose calls can be taken back, with an invariant of states and a condition on calls
  -- `stays`: a refused call leaves the state as it was
  -- `keeps`: an accepted call that fits keeps the invariant
  -- `returns`: the call that takes such a call back, made just after it, is accepted and gives the state before it
  pub record Reversible (Holds : State → Type 0) (Fits : Call → Type 0) : Type 0 where
    pub stays : (s : State) (c : Call) (n : ℕ) → M.outcome s c ≡ refused n → M.next s c ≡ s
    pub keeps : (s : State) (c : Call) → Holds s → Fits c → M.outcome s c ≡ accepted → Holds (M.next s c)
    pub returns : (s : State) (c : Call) → Holds s → Fits c → M.outcome s c ≡ accepted → event M (M.next s c) (back c) ≡ turned back (event M s c)

-- ---- calls that have no way back, which are final
module _ {State Call : Type 0} (M : Machine State Call) (Final : Call → Type 0) where
  -- the list is empty, or it ends in an accepted call that is final
  pub data EndsFinal (s : State) : List Call → Type 0 where
    empty : EndsFinal s []
    ends : (cs : List Call) (c : Call) → Final c → M.outcome (last M s cs) c ≡ accepted → EndsFinal s (cs ++ (c ∷ []))

  -- a list in two parts: the first up to its last accepted final call, or empty where there is none, and the calls
  -- after
  pub record LastFinal (s : State) (cs : List Call) : Type 0 where
    pub before : List Call
    pub after : List Call
    pub parts : cs ≡ before ++ after
    pub at_final : EndsFinal s before
    pub none_after : All (λ e. ¬ Final e.call) (newest M (last M s before) after)

-- ---- one machine mapped to another, by a function on states and one on calls
module _ {State Call State' Call' : Type 0} (state : State → State') (call : Call → Call') where
  -- a call that was made, with its states and the call mapped
  unfoldable pub carried : Event State Call → Event State' Call'
  carried e = record { before = state e.before; call = call e.call; outcome = e.outcome; left = state e.left }

  -- the other machine does with the mapped call what this machine did
  unfoldable pub Agrees : Machine State' Call' → Event State Call → Type 0
  Agrees N e = event N (state e.before) (call e.call) ≡ carried e
