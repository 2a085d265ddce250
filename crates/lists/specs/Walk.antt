-- Walks by a rule along a list: the last state, and all states (docs/SPECIFICATION.md, 2.8).
use Rattle.std.specs.Prelude.{◌≡◌, List, [], ◌∷◌}

module _ {X Y : Type 0} (rule : X → Y → X) where
  -- the last state: the rule is applied once for each element of the list, in order
  unfoldable pub foldl : X → List Y → X
  foldl s [] = s
  foldl s (c ∷ l) = foldl (rule s c) l

  -- all states in order, from the start to the last
  unfoldable pub walk : X → List Y → List X
  walk s [] = s ∷ []
  walk s (c ∷ l) = s ∷ walk (rule s c) l

-- two rules that map states to states, and each of which undoes the other
pub record Reversible {X Y : Type 0} (State : X → Type 0) (Step : Y → Type 0) (rule back : X → Y → X) : Type 0 where
  pub rule_closed : {s : X} {c : Y} → State s → Step c → State (rule s c)
  pub back_closed : {s : X} {c : Y} → State s → Step c → State (back s c)
  pub back_rule : {s : X} {c : Y} → State s → Step c → back (rule s c) c ≡ s
  pub rule_back : {s : X} {c : Y} → State s → Step c → rule (back s c) c ≡ s
