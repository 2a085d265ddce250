-- Walks by a rule over a list, and back by a rule that undoes it (`Reversible`).
-- `foldl_append`: a walk over a joined list is the walk over the second part from the end of the first.
-- `foldl_member`: a walk from a state over steps ends in a state, if the rule maps states to states.
-- `foldl_state`: the same for the first rule of a `Reversible`.
-- `foldl_agrees`: two rules that agree on states lead to the same end.
-- `foldl_injective`: different starts have different ends, if the rule is injective at each step.
-- `foldl_reverse`: the way back over the reversed list ends at the start.
-- `walk_reverse`: the way back meets the same states in reverse order.
-- `only_start`: the end of the way back from t is the only start from which the rule leads to t.
-- `foldl_back`: from there the rule does lead to t.
-- `turned`: the two rules may be exchanged.
use mathlib.Core.Path.{◌≡◌, refl, sym, ◌∙◌, ap}
use mathlib.Core.List.{List, [], ◌∷◌, ◌++◌, reverse, reverse-cons, reverse-reverse}
use Rattle.lists.specs.{Lists.All, Lists.none, Lists.more, Walk.foldl, Walk.walk, Walk.Reversible}
use Rattle.lists.proofs.Lists.{all_reverse}

module _ {X Y : Type 0} (rule : X → Y → X) where
  pub foldl_append : (s : X) (l m : List Y) → foldl rule s (l ++ m) ≡ foldl rule (foldl rule s l) m
  unfolding foldl
  foldl_append s [] m = refl
  foldl_append s (c ∷ l) m = foldl_append (rule s c) l m

  foldl_reverse_cons : (s : X) (c : Y) (l : List Y) → foldl rule s (reverse (c ∷ l)) ≡ rule (foldl rule s (reverse l)) c
  unfolding foldl
  foldl_reverse_cons s c l = ap (foldl rule s) (reverse-cons c l) ∙ foldl_append s (reverse l) (c ∷ [])

  walk_append : (s : X) (l : List Y) (c : Y) → walk rule s (l ++ (c ∷ [])) ≡ walk rule s l ++ (rule (foldl rule s l) c ∷ [])
  unfolding foldl walk
  walk_append s [] c = refl
  walk_append s (b ∷ l) c = ap (λ m. s ∷ m) (walk_append (rule s b) l c)

  -- a rule that maps states to states
  module _ {State : X → Type 0} {Step : Y → Type 0} (closed : (s : X) (c : Y) → State s → Step c → State (rule s c)) where
    pub foldl_member : {s : X} {l : List Y} → State s → All Step l → State (foldl rule s l)
    unfolding foldl
    foldl_member h none = h
    foldl_member {s} h (more {a = c} k r) = foldl_member {s = rule s c} (closed s c h k) r

    pub foldl_agrees : (other : X → Y → X) → ((s : X) (c : Y) → State s → Step c → rule s c ≡ other s c)
        → {s : X} {l : List Y} → State s → All Step l → foldl rule s l ≡ foldl other s l
    unfolding foldl
    foldl_agrees other same h none = refl
    foldl_agrees other same {s} h (more {a = c} {l = l} k r) =
        foldl_agrees other same {s = rule s c} (closed s c h k) r ∙ ap (λ z. foldl other z l) (same s c h k)

    pub foldl_injective : ((s t : X) (c : Y) → State s → State t → Step c → rule s c ≡ rule t c → s ≡ t)
        → {s t : X} {l : List Y} → State s → State t → All Step l → foldl rule s l ≡ foldl rule t l → s ≡ t
    unfolding foldl
    foldl_injective one h k none e = e
    foldl_injective one {s} {t} h k (more {a = c} m r) e = one s t c h k m (foldl_injective one {s = rule s c} {t = rule t c} (closed s c h m) (closed t c k m) r e)

module _ {X Y : Type 0} {State : X → Type 0} {Step : Y → Type 0} {rule back : X → Y → X} (R : Reversible State Step rule back) where
  pub foldl_state : {s : X} {l : List Y} → State s → All Step l → State (foldl rule s l)
  foldl_state = foldl_member rule {State = State} {Step = Step} (λ s c h k. R.rule_closed h k)

  pub foldl_reverse : {s : X} {l : List Y} → State s → All Step l → foldl back (foldl rule s l) (reverse l) ≡ s
  unfolding foldl
  foldl_reverse h none = refl
  foldl_reverse {s} h (more {a = c} {l = l} k r) =
      foldl_reverse_cons back (foldl rule (rule s c) l) c l ∙ ap (λ z. back z c) (foldl_reverse {s = rule s c} (R.rule_closed h k) r) ∙ R.back_rule h k

  pub walk_reverse : {s : X} {l : List Y} → State s → All Step l → walk back (foldl rule s l) (reverse l) ≡ reverse (walk rule s l)
  unfolding foldl walk
  walk_reverse h none = refl
  walk_reverse {s} h (more {a = c} {l = l} k r) =
      ap (walk back (foldl rule (rule s c) l)) (reverse-cons c l)
      ∙ walk_append back (foldl rule (rule s c) l) (reverse l) c
      ∙ ap (λ m. m ++ (back (foldl back (foldl rule (rule s c) l) (reverse l)) c ∷ [])) (walk_reverse {s = rule s c} (R.rule_closed h k) r)
      ∙ ap (λ z. reverse (walk rule (rule s c) l) ++ (z ∷ [])) (ap (λ z. back z c) (foldl_reverse (R.rule_closed h k) r) ∙ R.back_rule h k)
      ∙ sym (reverse-cons s (walk rule (rule s c) l))

  pub only_start : {s t : X} {l : List Y} → State s → All Step l → foldl rule s l ≡ t → s ≡ foldl back t (reverse l)
  only_start {l = l} h k e = sym (foldl_reverse h k) ∙ ap (λ z. foldl back z (reverse l)) e

  pub turned : Reversible State Step back rule
  turned = record { rule_closed = λ h k. R.back_closed h k; back_closed = λ h k. R.rule_closed h k; back_rule = λ h k. R.rule_back h k; rule_back = λ h k. R.back_rule h k }

module _ {X Y : Type 0} {State : X → Type 0} {Step : Y → Type 0} {rule back : X → Y → X} (R : Reversible State Step rule back) where
  pub foldl_back : {t : X} {l : List Y} → State t → All Step l → foldl rule (foldl back t (reverse l)) l ≡ t
  foldl_back {t} {l} h k = ap (foldl rule (foldl back t (reverse l))) (sym (reverse-reverse l)) ∙ foldl_reverse (turned R) h (all_reverse k)
