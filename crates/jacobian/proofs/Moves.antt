-- The rules by which a commit and an undo move a seal, by value, on accepted classes (docs/SPECIFICATION.md, 11).
-- `double_and_add_gives`, `subtract_and_halve_gives`: the answer is the class of the theory's result.
-- `double_and_add_accepts`, `subtract_and_halve_accepts`: the class of the answer is accepted.
-- `subtract_of_double_and_add`: the half of (2 a + b) - b is a.
-- `double_of_subtract_and_halve`: twice the half of a - b, plus b, is a.
-- `subtract_and_halve_is_only`: subtract and halve answers the only accepted class that double and add takes to a.
use mathlib.Core.Path.{◌≡◌, sym, ◌∙◌, ap}
use Rattle.class_group.specs.{Operations.sum, Operations.double, Moves.double_and_add, Moves.subtract_and_halve, Moves.counted_double_and_add, Moves.counted_subtract_and_halve}
use Rattle.class_group.proofs.Moves.{double_and_add_reduced, subtract_and_halve_reduced, subtract_double_and_add, double_subtract_and_halve}
use Rattle.jacobian.specs.{Curves.curve, Classes.pair, Classes.class_of}
use Rattle.jacobian.specs.Answer.{gives, Result, result, Accepts, Only, Precedes, double_and_add_answer, subtract_and_halve_answer}
use Rattle.jacobian.specs.declared.{Curve.Curve, Class.Class}
use Rattle.jacobian.proofs.Calls.{reduced, accepts_two, answered_none, class_accepts, class_pair, value_is}

module _ {c : Curve} {a b : Class} (h : Accepts c a) (k : Accepts c b) where
  pub double_and_add_gives : result (double_and_add_answer c a b) ≡ gives (class_of c.degree (double_and_add (curve c) (pair c.degree a) (pair c.degree b)))
  unfolding double_and_add_answer double_and_add counted_double_and_add sum double
  double_and_add_gives = answered_none c _ _ (accepts_two c h k)

  pub subtract_and_halve_gives : result (subtract_and_halve_answer c a b) ≡ gives (class_of c.degree (subtract_and_halve (curve c) (pair c.degree a) (pair c.degree b)))
  unfolding subtract_and_halve_answer subtract_and_halve counted_subtract_and_halve sum
  subtract_and_halve_gives = answered_none c _ _ (accepts_two c h k)

  pub double_and_add_accepts : Accepts c (double_and_add_answer c a b).class
  double_and_add_accepts = class_accepts c h _ (double_and_add_reduced (curve c) (reduced c h) (reduced c k)) double_and_add_gives

  pub subtract_and_halve_accepts : Accepts c (subtract_and_halve_answer c a b).class
  subtract_and_halve_accepts = class_accepts c h _ (subtract_and_halve_reduced (curve c) (reduced c h) (reduced c k)) subtract_and_halve_gives

  doubled_and_added : pair c.degree (double_and_add_answer c a b).class ≡ double_and_add (curve c) (pair c.degree a) (pair c.degree b)
  doubled_and_added = class_pair c _ (double_and_add_reduced (curve c) (reduced c h) (reduced c k)) double_and_add_gives

  subtracted_and_halved : pair c.degree (subtract_and_halve_answer c a b).class ≡ subtract_and_halve (curve c) (pair c.degree a) (pair c.degree b)
  subtracted_and_halved = class_pair c _ (subtract_and_halve_reduced (curve c) (reduced c h) (reduced c k)) subtract_and_halve_gives

  returned : Precedes c a b (subtract_and_halve_answer c a b).class
  returned = ap (λ D. double_and_add (curve c) D (pair c.degree b)) subtracted_and_halved ∙ double_subtract_and_halve (curve c) (reduced c h) (reduced c k)

module _ {c : Curve} {a b : Class} (h : Accepts c a) (k : Accepts c b) where
  -- demand 3: half of (2 a + b) - b is a
  pub subtract_of_double_and_add : result (subtract_and_halve_answer c (double_and_add_answer c a b).class b) ≡ gives a
  subtract_of_double_and_add =
      subtract_and_halve_gives (double_and_add_accepts h k) k
      ∙ value_is c h
      (ap (λ D. subtract_and_halve (curve c) D (pair c.degree b)) (doubled_and_added h k)
      ∙ subtract_double_and_add (curve c) (reduced c h) (reduced c k))

  -- demand 3: twice the half of a - b, plus b, is a
  pub double_of_subtract_and_halve : result (double_and_add_answer c (subtract_and_halve_answer c a b).class b) ≡ gives a
  double_of_subtract_and_halve = double_and_add_gives (subtract_and_halve_accepts h k) k ∙ value_is c h (returned h k)

-- the only accepted class that double_and_add with b takes to a
pub subtract_and_halve_is_only : {c : Curve} {a b : Class} → Accepts c a → Accepts c b
    → Only c (Precedes c a b) (subtract_and_halve_answer c a b).class
subtract_and_halve_is_only {c} {a} {b} h k =
    record {
      accepts = subtract_and_halve_accepts h k;
      holds = returned h k;
      only = λ x l e.
          sym (ap (λ (r : Result). r.class) (subtract_of_double_and_add l k))
          ∙ ap (λ (r : Result). (subtract_and_halve_answer c r.class b).class) (double_and_add_gives l k ∙ value_is c h e);
    }
