-- Classes by value and reduced classes determine each other.
-- `accepted_formed`, `formed_accepted`: an accepted value is in form; one in form is accepted where u divides.
-- `accepted_reduced`: an accepted value stands for a reduced class.
-- `class_of_accepted`: the value of a reduced class is accepted.
-- `class_of_pair`: an accepted value is the value of the class that it stands for.
-- `pair_injective`: two accepted values that stand for the same class are equal.
-- `accepted_iff`: on an accepted curve the accepted values are those of the reduced classes.
-- Form.antt has `pair_class_of`: the value of a reduced class stands for that class.
use Prim.Native.Nat.{ℕ, ◌<◌, ◌^◌}
use mathlib.Core.Path.{◌≡◌, sym, ◌∙◌, ap}
use mathlib.Core.List.{List}
use mathlib.Core.Logic.{◌↔◌}
use lib.ListN.{get_or}
use Rattle.char2_algebra.specs.Divides.{Divides}
use Rattle.char2_algebra.proofs.Degree.{len_of_zero}
use Rattle.char2_algebra.proofs.Lead.{monic_nonzero}
use Rattle.char2_algebra.proofs.Division.{rem_of_divides}
use Rattle.class_group.specs.Mumford.{Pair, Reduced, value}
use Rattle.row_theory.specs.{Field.degree_of, Field.Poly, Field.𝔸, Row.InRange}
use Rattle.row_theory.proofs.Rows.Elements.{degree_is}
use Rattle.jacobian.specs.declared.Curve.{Curve}
use Rattle.jacobian.specs.declared.Class.{Class}
use Rattle.jacobian.specs.Curves.{curve_refusal, curve}
use Rattle.jacobian.specs.{Classes.pair, Classes.class_of, Classes.class_refusal, Answer.refusal, Answer.Accepts}
use Rattle.jacobian.proofs.ByValue.Checks.{then_zero, curve_passes, class_passes}
use Rattle.jacobian.proofs.Representation.Form.{Formed, passes_formed, formed_reduced, u_monic, class_of_formed, class_of_is_formed, pair_class_of}
use Rattle.jacobian.proofs.Representation.Unrefused.{zero_then, passes_unrefused}
pub mod Form
pub mod Unrefused

module _ (c : Curve) (ok : curve_refusal c ≡ 0) where
  bound_is : 2 ^ degree_of c.degree ≡ 2 ^ c.degree
  bound_is = ap (λ d. 2 ^ d) (degree_is c.degree (curve_passes c ok).accepted)

  range_in : (r : List ℕ) → InRange c.degree r → (i : ℕ) → get_or r i 0 < 2 ^ c.degree
  range_in r h i = rw bound_is at (h i)

  -- an accepted class is in form, and one in form is accepted where u divides v² + v + f
  pub accepted_formed : (a : Class) → class_refusal c a ≡ 0 → Formed c.degree a
  accepted_formed a e =
      let p = class_passes c a e in
      passes_formed c.degree (curve_passes c ok).accepted a p.shape p.range

  pub formed_accepted : (a : Class) → Formed c.degree a
      → Divides (𝔸 c.degree).ring (pair c.degree a).u (value (curve c) (pair c.degree a).v)
      → class_refusal c a ≡ 0
  formed_accepted a h k =
      let P = 𝔸 c.degree in
      let D = pair c.degree a in
      let nonzero = monic_nonzero P D.u (u_monic c.degree a h) in
      passes_unrefused c a
      (record {
        shape = h.shape;
        range = record { u_below = range_in a.u h.u_range; v_below = range_in a.v h.v_range };
        divides = ap P.len (rem_of_divides P D.u nonzero (value (curve c) D.v) k) ∙ len_of_zero P;
      })

-- ---- acceptance: neither the curve nor the class is refused
pub accepts_curve : {c : Curve} {a : Class} → Accepts c a → curve_refusal c ≡ 0
unfolding refusal
accepts_curve h = (then_zero _ _ h.none).0

pub accepts_class : {c : Curve} {a : Class} → Accepts c a → class_refusal c a ≡ 0
unfolding refusal
accepts_class h = (then_zero _ _ h.none).1

pub accepts_both : (c : Curve) (a : Class) → curve_refusal c ≡ 0 → class_refusal c a ≡ 0 → Accepts c a
unfolding refusal
accepts_both c a ok e = record { none = zero_then _ _ ok e }

-- ---- the theorems
module _ (c : Curve) where
  -- an accepted value stands for a reduced class
  pub accepted_reduced : (a : Class) → Accepts c a → Reduced (curve c) (pair c.degree a)
  accepted_reduced a e =
      formed_reduced c.degree a (accepted_formed c (accepts_curve e) a (accepts_class e)) (curve c) (class_passes c a (accepts_class e)).divides

  -- the value of a reduced class is accepted
  pub class_of_accepted : curve_refusal c ≡ 0 → (D : Pair (Poly c.degree)) → Reduced (curve c) D → Accepts c (class_of c.degree D)
  class_of_accepted ok D h =
      accepts_both c _ ok
      (formed_accepted c ok (class_of c.degree D) (class_of_is_formed c.degree (curve c) D h)
      (rw (pair_class_of c.degree (curve c) D h) h.divides))

  -- an accepted value is the value of the class that it stands for
  pub class_of_pair : (a : Class) → Accepts c a → class_of c.degree (pair c.degree a) ≡ a
  class_of_pair a e = class_of_formed c.degree a (accepted_formed c (accepts_curve e) a (accepts_class e))

  -- a reduced class has only one accepted value
  pub pair_injective : (a b : Class) → Accepts c a → Accepts c b → pair c.degree a ≡ pair c.degree b → a ≡ b
  pair_injective a b h k e = sym (class_of_pair a h) ∙ ap (class_of c.degree) e ∙ class_of_pair b k

  -- on an accepted curve the accepted values are those of the reduced classes
  pub accepted_iff : curve_refusal c ≡ 0 → (a : Class)
      → Accepts c a ↔ ((D : Pair (Poly c.degree)) × Reduced (curve c) D × (a ≡ class_of c.degree D))
  accepted_iff ok a = (
    λ e. (pair c.degree a, accepted_reduced a e, sym (class_of_pair a e)),
    λ t. rw t.2 (class_of_accepted ok t.0 t.1),
  )
