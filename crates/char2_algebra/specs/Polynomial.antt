-- Polynomials over a field of characteristic 2, as lists that compute: the coefficients, the lowest power's first.
-- The last element of the list is not zero, so that a polynomial has one list only.
-- Each operation computes a list and removes the zeros at its end.
use Rattle.std.specs.Prelude.{ℕ, length}
use mathlib.Core.{Path.◌≡◌, List.List, List.[], List.◌∷◌}
use Rattle.std.proofs.Math.ListN.{get_or}
use Rattle.field_laws.specs.{Field.Field2, Division.inverse_of}

-- the answer of a test is no
abbrev pub IsNo : {A : Type 0} → Dec A → Type 0
IsNo (yes _) = ⊥
IsNo (no _) = Unit {0}

module _ {K : Type 0} (F : Field2 K) where
  open F use {ring, discrete}
  open ring use {zero as 𝟘}

  -- a is not zero, by the field's test of equality
  abbrev pub Nonzero : K → Type 0
  Nonzero a = IsNo (discrete a 𝟘)

  -- the list is empty, or its last element is not zero
  abbrev pub Trimmed : List K → Type 0
  Trimmed [] = Unit {0}
  Trimmed (a ∷ []) = Nonzero a
  Trimmed (a ∷ b ∷ p) = Trimmed (b ∷ p)

-- a polynomial: its coefficients, the lowest power's first, without zeros at the end
pub record Polynomial {K : Type 0} (F : Field2 K) : Type 0 where
  pub coefficients : List K
  pub trimmed : Trimmed F coefficients

module _ {K : Type 0} (F : Field2 K) where
  open F use {ring, discrete}
  open ring use {add as ◌⊞◌, mul as ◌·◌, zero as 𝟘, one as 𝟙}

  infixl 60 ◌⊞◌
  infixl 70 ◌·◌
  -- a before the trimmed list p, trimmed: empty where p is empty and a is zero
  unfoldable pub attach : K → List K → List K
  attach a [] = elim (discrete a 𝟘) [ yes _ ↦ [] | no _ ↦ a ∷ [] ]
  attach a (b ∷ p) = a ∷ b ∷ p

  -- the list without the zeros at its end
  unfoldable pub trim : List K → List K
  unfolding attach
  trim [] = []
  trim (a ∷ p) = attach a (trim p)

  -- an element other than zero is so by the field's test
  unfoldable pub nonzero : (a : K) → ¬ (a ≡ 𝟘) → Nonzero F a
  nonzero a h = by_test (discrete a 𝟘)
    where
      by_test : (d : Dec (a ≡ 𝟘)) → IsNo d
      by_test (yes e) = h e
      by_test (no _) = tt

  -- `attach` gives a trimmed list
  unfoldable pub attach_trimmed : (a : K) (p : List K) → Trimmed F p → Trimmed F (attach a p)
  unfolding attach nonzero
  attach_trimmed a [] t = by_test (discrete a 𝟘)
    where
      by_test : (d : Dec (a ≡ 𝟘)) → Trimmed F (elim d [ yes _ ↦ [] | no _ ↦ a ∷ [] ])
      by_test (yes _) = tt
      by_test (no h) = nonzero a h
  attach_trimmed a (b ∷ p) t = t

  -- `trim` gives a trimmed list
  unfoldable pub trim_trimmed : (p : List K) → Trimmed F (trim p)
  unfolding trim attach_trimmed
  trim_trimmed [] = tt
  trim_trimmed (a ∷ p) = attach_trimmed a (trim p) (trim_trimmed p)

  -- the polynomial with given coefficients
  unfoldable pub of_list : List K → Polynomial F
  unfolding trim_trimmed
  of_list p = record { coefficients = trim p; trimmed = trim_trimmed p }

  -- the sum of two lists of coefficients, trimmed or not
  unfoldable pub add_lists : List K → List K → List K
  add_lists [] q = q
  add_lists (a ∷ p) [] = a ∷ p
  add_lists (a ∷ p) (b ∷ q) = (a ⊞ b) ∷ add_lists p q

  -- c times a list of coefficients
  unfoldable pub scale_list : K → List K → List K
  scale_list c [] = []
  scale_list c (a ∷ p) = c · a ∷ scale_list c p

  -- the product of two lists of coefficients: (a + x p) q = a q + x (p q)
  unfoldable pub mul_lists : List K → List K → List K
  unfolding add_lists scale_list
  mul_lists [] q = []
  mul_lists (a ∷ p) q = add_lists (scale_list a q) (𝟘 ∷ mul_lists p q)

  -- the inverse of an element other than zero; that of 1 is 1, without a computation
  unfoldable pub invert : (a : K) → ¬ (a ≡ 𝟘) → K
  invert a shown = elim (discrete a 𝟙) [ yes _ ↦ 𝟙 | no _ ↦ inverse_of F a shown ]

  -- one step of the division by b of degree d, where i is the inverse of b's leading coefficient:
  -- from quotient and remainder of p to quotient and remainder of a + x p
  unfoldable pub divide_step : List K → ℕ → K → K → List K × List K → List K × List K
  unfolding add_lists scale_list trim
  divide_step b d i a s =
      let c = get_or (a ∷ s.1) d 𝟘 · i in
      (c ∷ s.0, trim (add_lists (a ∷ s.1) (scale_list c b)))

  -- quotient and remainder of a list by b, one step for each coefficient, the highest first
  unfoldable pub divide_steps : List K → ℕ → K → List K → List K × List K
  unfolding divide_step
  divide_steps b d i [] = ([], [])
  divide_steps b d i (a ∷ p) = divide_step b d i a (divide_steps b d i p)

  -- quotient and remainder of two lists; by a divisor that is empty or ends with zero they are 0 and the dividend
  unfoldable pub divide_lists : List K → List K → List K × List K
  unfolding divide_steps invert
  divide_lists p [] = ([], p)
  divide_lists p (a ∷ b) =
      let leading = get_or (a ∷ b) (length b) 𝟘 in
      elim (discrete leading 𝟘) [ yes _ ↦ ([], p) | no shown ↦ divide_steps (a ∷ b) (length b) (invert leading shown) p ]

  -- the coefficient of the i-th power
  unfoldable pub coeff : Polynomial F → ℕ → K
  coeff p i = get_or p.coefficients i 𝟘

  -- the length: the degree plus one, and 0 for the polynomial 0
  unfoldable pub len : Polynomial F → ℕ
  len p = length p.coefficients

  -- the polynomial 0
  unfoldable pub zero_polynomial : Polynomial F
  zero_polynomial = record { coefficients = []; trimmed = tt }

  -- the constant a
  unfoldable pub con : K → Polynomial F
  unfolding of_list
  con a = of_list (a ∷ [])

  -- the variable x
  unfoldable pub x : Polynomial F
  unfolding of_list
  x = of_list (𝟘 ∷ 𝟙 ∷ [])

  -- the sum
  unfoldable pub add : Polynomial F → Polynomial F → Polynomial F
  unfolding of_list add_lists
  add p q = of_list (add_lists p.coefficients q.coefficients)

  -- the product
  unfoldable pub mul : Polynomial F → Polynomial F → Polynomial F
  unfolding of_list mul_lists
  mul p q = of_list (mul_lists p.coefficients q.coefficients)

  -- the quotient of a division with remainder
  unfoldable pub quot : Polynomial F → Polynomial F → Polynomial F
  unfolding of_list divide_lists
  quot p q = of_list (divide_lists p.coefficients q.coefficients).0

  -- the remainder of a division
  unfoldable pub rem : Polynomial F → Polynomial F → Polynomial F
  unfolding of_list divide_lists
  rem p q = of_list (divide_lists p.coefficients q.coefficients).1
