-- The answers of the calls on elements (docs/SPECIFICATION.md, 1 and 6).
use Rattle.std.specs.Prelude.{ℕ, zero, suc, ◌^◌, ltb, Result, Ok, Err, Some, None}
use Rattle.std.specs.Prelude as std
use mathlib.Core.{Path.◌≡◌, Bool.Bool, Bool.true, Bool.cond, Bool.◌&&◌, List.List, List.[], List.◌∷◌, Logic.◌⊎◌, Option.Option, Option.none, Option.some}
use Rattle.std.proofs.Common.{arith}
use Rattle.binary_field.specs.Checks.{unless, ◌or_else◌, listed}
use Rattle.refusals.specs.{Refusals.number, declared.Refusal.Refusal}
use Rattle.binary_field_theory.specs.Quadratic as equation
use Rattle.binary_field_theory.specs.{Carryless.◌⊕◌, Element.is_degree, Element.product, Element.square, Element.root, Element.inverse, Element.OneRoot, Element.OneInverse, Quadratic.even_root}

-- an element, or a refusal with its number
pub data Reply : Type 0 where
  element : ℕ → Reply
  refusal : ℕ → Reply

-- the code's answer as a reply
abbrev pub reply : Result ℕ Refusal → Reply
reply (Ok n) = element n
reply (Err r) = refusal (number r)

-- every number of the list is below the bound
unfoldable pub below : ℕ → List ℕ → Bool
below m [] = true
below m (n ∷ ns) = ltb n m && below m ns

-- 106 for a degree other than 5 and 61, else 0
unfoldable pub degree_refusal : ℕ → ℕ
degree_refusal d = unless (is_degree d) 106

-- the number of elements of the field of degree d, which are the numbers below 2^d; 0 for a refused degree
unfoldable pub bound : ℕ → ℕ
bound d = cond (is_degree d) (2 ^ d) 0

-- the refusal of a call on elements: 106 for the degree, then 110 for a number of 2^d or more, else 0
unfoldable pub element_refusal : ℕ → List ℕ → ℕ
element_refusal d ns = degree_refusal d or_else unless (below (2 ^ d) ns) 110

-- the refusal of an inverse: 106, then 110, then 117 for 0, which has no inverse; else 0
unfoldable pub inverse_refusal : ℕ → ℕ → ℕ
inverse_refusal d a = element_refusal d (a ∷ []) or_else unless (ltb 0 a) 117

-- the numbers with which calls on elements refuse
unfoldable pub element_refusals : List ℕ
element_refusals = 106 ∷ 110 ∷ 117 ∷ []

-- a valid refusal of a call on elements: 0, or one of these numbers
unfoldable pub ValidElementRefusal : ℕ → Type 0
ValidElementRefusal n = (n ≡ 0) ⊎ (listed n element_refusals ≡ true)

-- the refusal where it is not 0, else the element v
unfoldable pub answered : ℕ → ℕ → Reply
answered zero v = element v
answered (suc k) v = refusal (suc k)

-- ---- the six calls

-- the sum: bitwise exclusive or
unfoldable pub sum_reply : ℕ → ℕ → ℕ → Reply
sum_reply d a b = answered (element_refusal d (a ∷ b ∷ [])) (a ⊕ b)

-- the product, reduced by the modulus of the degree
unfoldable pub product_reply : ℕ → ℕ → ℕ → Reply
product_reply d a b = answered (element_refusal d (a ∷ b ∷ [])) (product d a b)

-- the square
unfoldable pub square_reply : ℕ → ℕ → Reply
square_reply d a = answered (element_refusal d (a ∷ [])) (square d a)

-- the square root, which every element has
unfoldable pub root_reply : ℕ → ℕ → Reply
root_reply d a = answered (element_refusal d (a ∷ [])) (root d a)

-- the meaning of a square root's answer: b is the only element whose square is a; or k is the refusal
abbrev pub RootMeans : ℕ → ℕ → Reply → Type 0
RootMeans d a (element b) = (element_refusal d (a ∷ []) ≡ 0) × OneRoot d a b
RootMeans d a (refusal k) = (k ≡ element_refusal d (a ∷ [])) × ¬ (k ≡ 0)

-- the inverse of an element other than 0; 0 is refused
unfoldable pub inverse_reply : ℕ → ℕ → Reply
inverse_reply d zero = refusal (inverse_refusal d zero)
inverse_reply d (suc n) = answered (inverse_refusal d (suc n)) (inverse d (suc n) (λ e. omega arith))

-- the meaning of an inverse's answer: b is the only element whose product with a is 1; or k is the refusal
abbrev pub InverseMeans : ℕ → ℕ → Reply → Type 0
InverseMeans d a (element b) = (inverse_refusal d a ≡ 0) × OneInverse d a b
InverseMeans d a (refusal k) = (k ≡ inverse_refusal d a) × ¬ (k ≡ 0)

-- the answer to the equation y² + y = a: a root, that there is none, or a refusal with its number
pub data QuadraticReply : Type 0 where
  found : ℕ → QuadraticReply
  no_root : QuadraticReply
  refused : ℕ → QuadraticReply

-- the code's answer as such a reply
abbrev pub solution_reply : Result (std.Option ℕ) Refusal → QuadraticReply
solution_reply (Ok (Some y)) = found y
solution_reply (Ok None) = no_root
solution_reply (Err r) = refused (number r)

-- the refusal where it is not 0, else the root, or that there is none
unfoldable pub solved : ℕ → Option ℕ → QuadraticReply
solved zero (some y) = found y
solved zero none = no_root
solved (suc k) o = refused (suc k)

-- the root of y² + y = a with lowest bit 0, that there is no root, or the refusal
unfoldable pub quadratic_reply : ℕ → ℕ → QuadraticReply
quadratic_reply d a = solved (element_refusal d (a ∷ [])) (even_root d a)

-- the meaning of the answer: y is the root with lowest bit 0, and y + 1 is the only other root;
-- no element is a root; or k is the refusal
abbrev pub QuadraticMeans : ℕ → ℕ → QuadraticReply → Type 0
QuadraticMeans d a (found y) = (element_refusal d (a ∷ []) ≡ 0) × equation.EvenRoot d a y
QuadraticMeans d a no_root = (element_refusal d (a ∷ []) ≡ 0) × ((y : ℕ) → equation.Root d a y → ⊥)
QuadraticMeans d a (refused k) = (k ≡ element_refusal d (a ∷ [])) × ¬ (k ≡ 0)
