-- n times a class, and a class halved k times, by value (docs/SPECIFICATION.md, 2.11, 3 and 6).
use Rattle.std.specs.Prelude.{ℕ, zero, suc, ◌^◌, ◌≡◌, ltb, leb, Ok, Err}
use Rattle.std.specs.Prelude as Prelude
use Rattle.refusals.specs.{Refusals.number, declared.Refusal.Refusal}
use Rattle.class_group.specs.{Mumford.neutral, Operations.sum, Half.half, Multiples.multiple, Multiples.repeat}
use Rattle.jacobian.specs.{Checks.unless, Checks.◌or_else◌, Curves.curve, Classes.pair, Classes.class_of}
use Rattle.jacobian.specs.{Answer.Result, Answer.result, Answer.gives, Answer.refusing, Answer.refusal, Answer.Only, Answer.half_answer, Group.doublings}
use Rattle.jacobian.specs.declared.{Curve.Curve, Class.Class}

-- one more than the largest n
abbrev pub multiple_limit : ℕ
multiple_limit = 2 ^ 61

-- the largest k
abbrev pub halvings_limit : ℕ
halvings_limit = 64

-- refusal n with the neutral class
abbrev pub refuses : ℕ → Result
refuses n = result (refusing n)

-- the code's answer as a result
abbrev pub class_result : Prelude.Result Class Refusal → Result
class_result (Ok a) = gives a
class_result (Err r) = refuses (number r)

-- the class where the number is 0, else that refusal with the neutral class
unfoldable pub given : ℕ → Class → Result
given zero a = gives a
given (suc n) a = refuses (suc n)

-- ---- n times a class
-- the sum of n terms, each the class
unfoldable pub multiple_class : Curve → Class → ℕ → Class
multiple_class c a n = let d = c.degree in class_of d (multiple (sum (curve c)) (neutral (curve c)) n (pair d a))

-- the refusal of the curve or the class, else 118 for n at or above the limit
unfoldable pub multiple_refusal : Curve → Class → ℕ → ℕ
multiple_refusal c a n = refusal c a or_else unless (ltb n multiple_limit) 118

-- what n times a class answers
unfoldable pub multiple_answer : Curve → Class → ℕ → Result
multiple_answer c a n = given (multiple_refusal c a n) (multiple_class c a n)

-- ---- a class halved k times
-- the one class that k doublings take to the class, found by k halves
unfoldable pub halved_class : Curve → Class → ℕ → Class
halved_class c a k = let d = c.degree in class_of d (repeat (half (curve c)) k (pair d a))

-- the refusal of the curve or the class, else 119 for k above the limit
unfoldable pub halvings_refusal : Curve → Class → ℕ → ℕ
halvings_refusal c a k = refusal c a or_else unless (leb k halvings_limit) 119

-- what a class halved k times answers
unfoldable pub halvings_answer : Curve → Class → ℕ → Result
halvings_answer c a k = given (halvings_refusal c a k) (halved_class c a k)

-- what halvings promises: its answer; and where it accepts, the only accepted class that k doublings take to a
pub record HalvingsAnswers (c : Curve) (a : Class) (k : ℕ) (r : Result) : Type 0 where
  pub answer : r ≡ halvings_answer c a k
  pub taken_back : halvings_refusal c a k ≡ 0 → Only c (λ h. doublings c k h ≡ a) r.class

-- ---- for theorems

-- the class after k calls of half, each on the class that the call before it answered
abbrev pub halves : Curve → ℕ → Class → Class
halves c k a = repeat (λ b. (half_answer c b).class) k a
