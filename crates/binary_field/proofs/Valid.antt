-- Demand 1 of the calls on elements: every refusal is valid.
-- `element_refusal_valid`: the refusal of a call on elements is 0 or one of 106, 110 and 117.
-- `inverse_refusal_valid`: so is the refusal of an inverse.
-- `element_refusal_other`: no call on elements but the inverse refuses with 117.
use Prim.Native.Nat.{ℕ, zero, suc, ◌^◌}
use mathlib.Core.{Path.◌≡◌, Path.refl, Bool.Bool, Bool.true, Bool.false, List.List, List.[], List.◌∷◌, Logic.inl, Logic.inr}
use native.Mathlib.Omega.{arith}
use lib.Dec.{ltb}
use Rattle.binary_field_theory.specs.Element.{is_degree}
use Rattle.binary_field.specs.{Checks.unless, Checks.◌or_else◌, Checks.listed, Answer.below, Answer.degree_refusal, Answer.element_refusal, Answer.inverse_refusal, Answer.element_refusals, Answer.ValidElementRefusal}

valid_two : (x y : Bool) → ValidElementRefusal (unless x 106 or_else unless y 110)
unfolding ValidElementRefusal unless ◌or_else◌ listed element_refusals
valid_two true true = inl refl
valid_two true false = inr refl
valid_two false y = inr refl

pub element_refusal_valid : (d : ℕ) (ns : List ℕ) → ValidElementRefusal (element_refusal d ns)
unfolding element_refusal degree_refusal
element_refusal_valid d ns = valid_two (is_degree d) (below (2 ^ d) ns)

valid_then : (n : ℕ) (z : Bool) → ValidElementRefusal n → ValidElementRefusal (n or_else unless z 117)
unfolding ValidElementRefusal unless ◌or_else◌ listed element_refusals
valid_then zero true t = t
valid_then zero false t = inr refl
valid_then (suc n) z t = t

pub inverse_refusal_valid : (d a : ℕ) → ValidElementRefusal (inverse_refusal d a)
unfolding inverse_refusal
inverse_refusal_valid d a = valid_then (element_refusal d (a ∷ [])) (ltb 0 a) (element_refusal_valid d (a ∷ []))

-- ---- 117

two_others : (x y : Bool) → ¬ (unless x 106 or_else unless y 110 ≡ 117)
unfolding unless ◌or_else◌
two_others true true e = omega arith
two_others true false e = omega arith
two_others false y e = omega arith

pub element_refusal_other : (d : ℕ) (ns : List ℕ) → ¬ (element_refusal d ns ≡ 117)
unfolding element_refusal degree_refusal
element_refusal_other d ns = two_others (is_degree d) (below (2 ^ d) ns)
