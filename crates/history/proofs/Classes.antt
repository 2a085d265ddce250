-- The steps and the classes among accepted calls.
-- `steps_all`: where no call is a release, all calls are steps.
-- `classes_count`: there is one class for each step.
-- `steps_reverse`, `classes_reverse`: the steps and the classes of a reversed list are the reversed ones.
-- `step_no_release`: a step is no release.
-- `commits_are_steps`, `commits_no_undos`: commits are neither releases nor undos.
use mathlib.Core.Path.{◌≡◌, refl, sym, ◌∙◌, ap, ap₂}
use mathlib.Core.List.{List, [], ◌∷◌, map, reverse, reverse_aux}
use lib.ListN.{length, length-map}
use Rattle.lists.specs.Lists.{none, more}
use Rattle.jacobian.specs.declared.Class.{Class}
use Rattle.history.specs.Calls.{Call, step, release, commit, undo, Event, NoReleases, NoUndos, OnlyCommits, steps, classes}
use Rattle.history.specs.declared.{Step.Step, Step.TheVariants.Commit}
use Rattle.history.proofs.Machine.Carried.{map_onto}

pub steps_all : {es : List Event} → NoReleases es → steps es ≡ es
unfolding steps
steps_all none = refl
steps_all (more {a = e} {l = es} h hs) = go e.call refl (steps_all hs)
  where
    go : (c : Call) → e.call ≡ c → steps es ≡ es → elim c [ step k a ↦ e ∷ steps es | release ↦ steps es ] ≡ e ∷ es
    go (step k a) q i = ap (λ l. e ∷ l) i
    go release q i = absurd (h q)

-- the class of a step; of a release the seal, which no lemma asks for
step_class : Event → Class
step_class e = elim e.call [ step k a ↦ a | release ↦ e.before.seal ]

classes_steps : (es : List Event) → classes es ≡ map step_class (steps es)
unfolding classes steps step_class
classes_steps [] = refl
classes_steps (e ∷ es) = go e.call refl (classes_steps es)
  where
    go : (c : Call) → e.call ≡ c → classes es ≡ map step_class (steps es)
        → elim c [ step k a ↦ a ∷ classes es | release ↦ classes es ] ≡ map step_class (elim c [ step k a ↦ e ∷ steps es | release ↦ steps es ])
    go (step k a) q i = ap₂ ◌∷◌ (sym (ap (λ (c : Call). elim c [ step k a ↦ a | release ↦ e.before.seal ]) q)) i
    go release q i = i

pub classes_count : (es : List Event) → length (classes es) ≡ length (steps es)
classes_count es = ap length (classes_steps es) ∙ length-map (steps es) step_class

steps_onto : (es fs : List Event) → steps (reverse_aux es fs) ≡ reverse_aux (steps es) (steps fs)
unfolding steps
steps_onto [] fs = refl
steps_onto (e ∷ es) fs = steps_onto es (e ∷ fs) ∙ go e.call
  where
    go : (c : Call) → reverse_aux (steps es) (elim c [ step k a ↦ e ∷ steps fs | release ↦ steps fs ]) ≡ reverse_aux (elim c [ step k a ↦ e ∷ steps es | release ↦ steps es ]) (steps fs)
    go (step k a) = refl
    go release = refl

pub steps_reverse : (es : List Event) → steps (reverse es) ≡ reverse (steps es)
unfolding steps
steps_reverse es = steps_onto es []

pub classes_reverse : (es : List Event) → classes (reverse es) ≡ reverse (classes es)
classes_reverse es =
    classes_steps (reverse es)
    ∙ ap (map step_class) (steps_reverse es)
    ∙ map_onto step_class (steps es) []
    ∙ ap reverse (sym (classes_steps es))

-- ---- commits
pub step_no_release : (k : Step) (a : Class) → ¬ (step k a ≡ release)
step_no_release k a e = cc

commit_no_undo : (a b : Class) → ¬ (commit a ≡ undo b)
commit_no_undo a b e = cc

pub commits_are_steps : {es : List Event} → OnlyCommits es → NoReleases es
commits_are_steps none = none
commits_are_steps (more h hs) = more (λ q. step_no_release Commit h.0 (sym h.1 ∙ q)) (commits_are_steps hs)

pub commits_no_undos : {es : List Event} → OnlyCommits es → NoUndos es
commits_no_undos none = none
commits_no_undos (more h hs) = more (λ b q. commit_no_undo h.0 b (sym h.1 ∙ q)) (commits_no_undos hs)
