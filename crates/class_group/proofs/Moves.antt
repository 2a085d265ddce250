-- The two rules that move a seal, double and add, and subtract and halve, on reduced classes.
-- `moves`: each rule gives a reduced class and undoes the other; so the theorems of lists/proofs/Walk.antt hold of
-- both, and those of proofs/Displacement.antt of the first.
-- `double_and_add_reduced`: double and add gives a reduced class.
-- `subtract_and_halve_reduced`: subtract and halve gives a reduced class.
-- `subtract_double_and_add`: subtract and halve undoes double and add.
-- `double_subtract_and_halve`: double and add undoes subtract and halve.
-- `counted_double_and_add_class`: with counted steps, double and add gives the same class.
-- `counted_subtract_and_halve_class`: with counted steps, subtract and halve gives the same class.
use mathlib.Core.Path.{◌≡◌, refl}
use Rattle.field_laws.specs.Field.{Field2}
use Rattle.char2_algebra.specs.Polynomials.{Polynomials}
use Rattle.lists.specs.Walk.{Reversible}
use Rattle.class_group.specs.{Curve.Curve, Mumford.Pair, Mumford.Reduced, Operations.sum, Operations.double}
use Rattle.class_group.specs.Moves.{double_and_add, subtract_and_halve, counted_double_and_add, counted_subtract_and_halve}
use Rattle.class_group.proofs.{Halving.class_halving, Displacement.reversible}

module _ {K P : Type 0} {F : Field2 K} {A : Polynomials F P} (C : Curve A) where
  -- demand 3: each rule gives a reduced class, and undoes the other
  pub moves : Reversible (Reduced C) (Reduced C) (double_and_add C) (subtract_and_halve C)
  unfolding double_and_add subtract_and_halve
  moves = reversible (class_halving C)

  pub double_and_add_reduced : {S D : Pair P} → Reduced C S → Reduced C D → Reduced C (double_and_add C S D)
  double_and_add_reduced s d = moves.rule_closed s d

  pub subtract_and_halve_reduced : {S D : Pair P} → Reduced C S → Reduced C D → Reduced C (subtract_and_halve C S D)
  subtract_and_halve_reduced s d = moves.back_closed s d

  pub subtract_double_and_add : {S D : Pair P} → Reduced C S → Reduced C D → subtract_and_halve C (double_and_add C S D) D ≡ S
  subtract_double_and_add s d = moves.back_rule s d

  pub double_subtract_and_halve : {S D : Pair P} → Reduced C S → Reduced C D → double_and_add C (subtract_and_halve C S D) D ≡ S
  double_subtract_and_halve s d = moves.rule_back s d

  pub counted_double_and_add_class : (S D : Pair P) → (counted_double_and_add C S D).class ≡ double_and_add C S D
  unfolding counted_double_and_add double_and_add sum double
  counted_double_and_add_class S D = refl

  pub counted_subtract_and_halve_class : (S D : Pair P) → (counted_subtract_and_halve C S D).class ≡ subtract_and_halve C S D
  unfolding counted_subtract_and_halve subtract_and_halve sum
  counted_subtract_and_halve_class S D = refl
