-- What the checks of a curve and of classes by value require, in checking order (docs/SPECIFICATION.md, 3 and 6).
use Rattle.std.specs.Prelude.{ℕ, ◌≤◌, ◌^◌, length, get_or}
use mathlib.Core.{Path.◌≡◌, List.List, List.[], List.◌∷◌, List.◌++◌}
use Rattle.char2_algebra.specs.Divides.{Divides}
use Rattle.class_group.specs.Mumford.{value}
use Rattle.row_theory.specs.Field.{𝔸}
use Rattle.jacobian.specs.{Answer.Verdict, Answer.accepted, Answer.refused, Answer.Reply, Answer.refusing}
use Rattle.jacobian.specs.{Checks.Check, Checks.check, Checks.AllHold, Checks.FirstFails, Curves.coefficients, Curves.curve, Classes.pair, declared.Curve.Curve, declared.Class.Class}
pub use Rattle.binary_field.specs.Checking.{Below, degree_check}

-- the checks of a curve: the degree is 5 or 61, then every coefficient is below 2^d
abbrev pub curve_checks : Curve → List Check
curve_checks c = degree_check c.degree ∷ check 107 (Below (2 ^ c.degree) (coefficients c)) ∷ []

-- a row of three numbers, which are 0 from index n on
pub record Padded (n : ℕ) (r : List ℕ) : Type 0 where
  pub three : length r ≡ 3
  pub zeros : (i : ℕ) → n ≤ i → get_or r i 0 ≡ 0

-- the checks of a class in the right form: the range of its numbers, then that u divides v² + v + f
abbrev pub formed_checks : Curve → Class → List Check
formed_checks c a =
    let d = c.degree in
    check 110 (Below (2 ^ d) a.u × Below (2 ^ d) a.v)
    ∷ check 111 (Divides (𝔸 d).ring (pair d a).u (value (curve c) (pair d a).v))
    ∷ []

-- the checks of a class: its form, then those of a class in the right form
abbrev pub class_checks : Curve → Class → List Check
class_checks c a = let n = a.degree in check 104 ((n ≤ 3) × Padded n a.u × Padded n a.v) ∷ formed_checks c a

-- the checks of a call on one class
abbrev pub checks_of_one : Curve → Class → List Check
checks_of_one c a = curve_checks c ++ class_checks c a

-- the checks of a call on two classes
abbrev pub checks_of_two : Curve → Class → Class → List Check
checks_of_two c a b = checks_of_one c a ++ class_checks c b

-- the numbers with which a curve is refused, in checking order
unfoldable pub curve_numbers : List ℕ
curve_numbers = 106 ∷ 107 ∷ []

-- the numbers with which a call on classes is refused, in checking order
unfoldable pub class_call_numbers : List ℕ
class_call_numbers = 106 ∷ 107 ∷ 104 ∷ 110 ∷ 111 ∷ []

-- ---- what a call answers by its checks

-- the outcome of checks made in order: accepted where all hold, else refused with the number of the first that fails
pub data VerdictOf (cs : List Check) (v : Verdict) : Type 0 where
  accepts : v ≡ accepted → AllHold cs → VerdictOf cs v
  refuses : (n : ℕ) → v ≡ refused n → FirstFails cs n → VerdictOf cs v

-- the same of an answer with a class: a refusal has the neutral class and no step
pub data ReplyOf (cs : List Check) (r : Reply) : Type 0 where
  accepts : r.outcome ≡ accepted → AllHold cs → ReplyOf cs r
  refuses : (n : ℕ) → r ≡ refusing n → FirstFails cs n → ReplyOf cs r
