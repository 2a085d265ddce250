-- The answers of the calls on classes by value, refusals included (docs/SPECIFICATION.md, 2, 3, 4 and 6).
use Rattle.std.specs.Prelude.{ℕ, zero, suc, ◌≡◌, [], ◌∷◌, Ok, Err}
use Rattle.std.specs.Prelude as Prelude
use Rattle.refusals.specs.Refusals.{number}
use Rattle.refusals.specs.declared.Refusal.{Refusal}
use Rattle.class_group.specs.{Reduction.Counted, Operations.double, Moves.double_and_add}
use Rattle.row_theory.specs.Field.{Poly}
use Rattle.class_rows.specs.{Operations.unary, Operations.binary, declared.Unary.Unary, declared.Binary.Binary}
use Rattle.class_rows.specs.declared.Unary.TheVariants.{Opposite, Double, Half}
use Rattle.class_rows.specs.declared.Binary.TheVariants.{Sum, DoubleAndAdd, SubtractAndHalve}
use Rattle.jacobian.specs.{Checks.◌or_else◌, Curves.curve_refusal, Curves.curve, Classes.pair, Classes.class_of, Classes.class_refusal}
use Rattle.jacobian.specs.declared.{Curve.Curve, Class.Class, CountedClass.CountedClass}

-- an outcome: acceptance, or a refusal with its number
pub data Verdict : Type 0 where
  accepted : Verdict
  refused : ℕ → Verdict

-- the code's outcome as a verdict
abbrev pub verdict : Prelude.Result (Unit {0}) Refusal → Verdict
verdict (Ok _) = accepted
verdict (Err r) = refused (number r)

-- the refusal of a call on one class, or 0: that of the curve, then that of the class
unfoldable pub refusal : Curve → Class → ℕ
refusal c a = curve_refusal c or_else class_refusal c a

-- the refusal of a call on two classes, or 0: that of the curve, of the first class, then of the second
unfoldable pub refusal_of_two : Curve → Class → Class → ℕ
refusal_of_two c a b = refusal c a or_else class_refusal c b

-- a class that no check refuses on a curve
pub record Accepts (c : Curve) (a : Class) : Type 0 where
  pub none : refusal c a ≡ 0

-- acceptance for 0, else the refusal
unfoldable pub verdict_of : ℕ → Verdict
verdict_of zero = accepted
verdict_of (suc n) = refused (suc n)

-- the neutral class [1, 0] by value
unfoldable pub neutral_class : Class
neutral_class = record { degree = 0; u = 0 ∷ 0 ∷ 0 ∷ []; v = 0 ∷ 0 ∷ 0 ∷ [] }

-- the answer of a call that gives a class, with the number of reduction steps that led to it
pub record Reply : Type 0 where
  pub outcome : Verdict
  pub class : Class
  pub steps : ℕ

-- the answer of a call that gives a class, without the steps
pub record Result : Type 0 where
  pub outcome : Verdict
  pub class : Class

-- a reply without its steps
abbrev pub result : Reply → Result
result r = record { outcome = r.outcome; class = r.class }

-- acceptance with a class
abbrev pub gives : Class → Result
gives a = record { outcome = accepted; class = a }

-- a refusal, with the neutral class and no step
abbrev pub refusing : ℕ → Reply
refusing n = record { outcome = refused n; class = neutral_class; steps = 0 }

-- the code's answer as a reply
abbrev pub reply : Prelude.Result CountedClass Refusal → Reply
reply (Ok r) = record { outcome = accepted; class = r.class; steps = r.steps }
reply (Err r) = refusing (number r)

-- the class and its steps where the refusal is 0, else the refusal
unfoldable pub answered : (d : ℕ) → ℕ → Counted (Poly d) → Reply
answered d zero D = record { outcome = accepted; class = class_of d D.class; steps = D.steps }
answered d (suc n) D = refusing (suc n)

-- ---- the calls

-- acceptance of a curve, or its refusal
unfoldable pub curve_answer : Curve → Verdict
curve_answer c = verdict_of (curve_refusal c)

-- acceptance of a class on a curve, or the refusal
unfoldable pub membership_answer : Curve → Class → Verdict
membership_answer c a = verdict_of (refusal c a)

-- a call on one class: the theory's opposite, double or half, or the refusal
abbrev pub unary_answer : Unary → Curve → Class → Reply
unary_answer op c a = let d = c.degree in answered d (refusal c a) (unary op (curve c) (pair d a))

-- the opposite of a class
unfoldable pub opposite_answer : Curve → Class → Reply
opposite_answer c a = unary_answer Opposite c a

-- the double of a class
unfoldable pub double_answer : Curve → Class → Reply
double_answer c a = unary_answer Double c a

-- the half of a class
unfoldable pub half_answer : Curve → Class → Reply
half_answer c a = unary_answer Half c a

-- a is the only accepted class of which P holds
pub record Only (c : Curve) (P : Class → Type 0) (a : Class) : Type 0 where
  pub accepts : Accepts c a
  pub holds : P a
  pub only : (b : Class) → Accepts c b → P b → b ≡ a

-- twice h is a
abbrev pub IsHalf : Curve → Class → Class → Type 0
IsHalf c a h = double (curve c) (pair c.degree h) ≡ pair c.degree a

-- what half promises: its answer; and where it accepts, its class is the only accepted one whose double is a
pub record HalfAnswers (c : Curve) (a : Class) (r : Reply) : Type 0 where
  pub answer : r ≡ half_answer c a
  pub is_half : refusal c a ≡ 0 → Only c (IsHalf c a) r.class

-- a call on two classes: the theory's sum; twice a class plus another, as a commit moves a seal; the half of a class
-- less another, as an undo moves it back; or the refusal
abbrev pub binary_answer : Binary → Curve → Class → Class → Reply
binary_answer op c a b = let d = c.degree in answered d (refusal_of_two c a b) (binary op (curve c) (pair d a) (pair d b))

-- the sum of two classes
unfoldable pub sum_answer : Curve → Class → Class → Reply
sum_answer c a b = binary_answer Sum c a b

-- twice a plus b
unfoldable pub double_and_add_answer : Curve → Class → Class → Reply
double_and_add_answer c a b = binary_answer DoubleAndAdd c a b

-- the half of a less b
unfoldable pub subtract_and_halve_answer : Curve → Class → Class → Reply
subtract_and_halve_answer c a b = binary_answer SubtractAndHalve c a b

-- twice h plus b is a
abbrev pub Precedes : Curve → Class → Class → Class → Type 0
Precedes c a b h = double_and_add (curve c) (pair c.degree h) (pair c.degree b) ≡ pair c.degree a

-- what subtract_and_halve promises: its answer; and where it accepts, its class is the only accepted h for which
-- twice h plus b is a
pub record SubtractAndHalveAnswers (c : Curve) (a b : Class) (r : Reply) : Type 0 where
  pub answer : r ≡ subtract_and_halve_answer c a b
  pub taken_back : refusal_of_two c a b ≡ 0 → Only c (Precedes c a b) r.class
