-- The class of a stamp on a curve (docs/SPECIFICATION.md, 2 and 6).
use Rattle.std.specs.Prelude.{ℕ, zero, suc, ◌+◌, ◌-◌, ◌*◌, ◌^◌, ◌<◌, ltb}
use Rattle.std.proofs.Math.Option
use mathlib.Core.{Path.◌≡◌, List.List, List.[], List.◌∷◌, List.◌++◌, List.map, Option.Option, Option.none, Option.some}
use Rattle.binary_field_theory.specs.{Search.first, Quadratic.Root, Quadratic.EvenRoot, Quadratic.even_root}
use Rattle.class_group.specs.NonSingular.{evaluate}
use Rattle.row_theory.specs.Field.{F, el}
use Rattle.jacobian.specs.{Checks.unless, Checks.◌or_else◌, Checks.Check, Checks.check, Checking.curve_checks, Curves.f_row, Curves.curve_refusal, Answer.Reply, Answer.accepted, Answer.refusing, declared.Curve.Curve, declared.Class.Class}

-- the value at x of the polynomial with these coefficients, the lowest first
unfoldable pub value_at : ℕ → List ℕ → ℕ → ℕ
value_at d f x = (evaluate (F d).ring (map (el d) f) (el d x)).0

-- the class of the point (x, y): u is the variable plus x, and v is y
unfoldable pub point_class : ℕ → ℕ → Class
point_class x y = record { degree = 1; u = x ∷ 0 ∷ 0 ∷ []; v = y ∷ 0 ∷ 0 ∷ [] }

-- the class of the point (x, y) for the root y of y² + y = f(x) with lowest bit 0, where there is a root
unfoldable pub class_at : ℕ → List ℕ → ℕ → Option Class
class_at d f x = Option.map (point_class x) (even_root d (value_at d f x))

-- the class of the first candidate that has one; the candidates of a stamp s are 8 s + i for i from 0 to 7
unfoldable pub first_class : ℕ → List ℕ → ℕ → Option Class
first_class d f s = first (λ i. class_at d f (8 * s + i)) 8

-- the refusal of a stamp: 106, then 107, then 115 for a stamp of 2^(d-3) or more, else 0
unfoldable pub stamp_refusal : Curve → ℕ → ℕ
stamp_refusal c s = curve_refusal c or_else unless (ltb s (2 ^ (c.degree - 3))) 115

-- the refusal where it is not 0, else the class with no reduction step, or 116 where there is none
unfoldable pub stamped : ℕ → Option Class → Reply
stamped zero (some a) = record { outcome = accepted; class = a; steps = 0 }
stamped zero none = refusing 116
stamped (suc n) o = refusing (suc n)

-- the answer of the call on a stamp
unfoldable pub stamp_answer : Curve → ℕ → Reply
stamp_answer c s = stamped (stamp_refusal c s) (first_class c.degree (f_row c) s)

-- ---- what the theorems name

-- y² + y = f(x) has a root for some candidate x of the stamp
abbrev pub SomeRoot : Curve → ℕ → Type 0
SomeRoot c s = (i : ℕ) × (i < 8) × ((y : ℕ) × Root c.degree (value_at c.degree (f_row c) (8 * s + i)) y)

-- the checks of a stamp: those of the curve, then that the stamp is below 2^(d-3), then that a candidate has a root
abbrev pub stamp_checks : Curve → ℕ → List Check
stamp_checks c s = curve_checks c ++ check 115 (s < 2 ^ (c.degree - 3)) ∷ check 116 (SomeRoot c s) ∷ []

-- the numbers with which a stamp is refused, in checking order
unfoldable pub stamp_numbers : List ℕ
stamp_numbers = 106 ∷ 107 ∷ 115 ∷ 116 ∷ []

-- y² + y = f(x) has no root
abbrev pub Rootless : Curve → ℕ → Type 0
Rootless c x = (y : ℕ) → Root c.degree (value_at c.degree (f_row c) x) y → ⊥

-- a is the class of candidate i, with the root whose lowest bit is 0, and no candidate before it has a root
pub record FirstClass (c : Curve) (s i : ℕ) (a : Class) : Type 0 where
  pub place : i < 8
  pub y : ℕ
  pub root : EvenRoot c.degree (value_at c.degree (f_row c) (8 * s + i)) y
  pub class : a ≡ point_class (8 * s + i) y
  pub earlier : (j : ℕ) → j < i → Rootless c (8 * s + j)
