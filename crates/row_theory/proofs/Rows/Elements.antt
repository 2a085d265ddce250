-- Numbers in range and the elements that they stand for: the accepted degrees, 0 and 1, equality, sums and products.
use Prim.Native.Nat.{ℕ, ◌≤◌, ◌<◌, ◌^◌}
use mathlib.Core.{Path.◌≡◌, Path.refl, Path.sym, Path.◌∙◌, Path.ap, Bool.Bool, Bool.true, Bool.false, Bool.cond, Bool.◌||◌}
use native.Mathlib.Omega.{arith}
use lib.Dec.{T, eqb, lit<}
use borrow.Author.Tests.{eqb-true}
use Rattle.binary_field_theory.specs.Element.{Accepted}
use Rattle.binary_field_theory.proofs.Elements.{element_path}
use Rattle.binary_field.proofs.Field.{element_small, element_number, zero_number, one_number}
use Rattle.row_theory.specs.{Field.degree_of, Field.accepted, Field.K, Field.F, Field.el, internal.Elements.Is}

-- the degree of an accepted call is the degree itself
pub degree_is : (d : ℕ) → Accepted d → degree_of d ≡ d
unfolding degree_of
degree_is d ok = go (eqb d 5) (eqb d 61) refl refl ok
  where
    go : (b c : Bool) → eqb d 5 ≡ b → eqb d 61 ≡ c → T (b || c) → cond c 61 5 ≡ d
    go true true e f t = sym (eqb-true d 61 f)
    go false true e f t = sym (eqb-true d 61 f)
    go true false e f t = sym (eqb-true d 5 e)
    go false false e f t = absurd t

module _ (d : ℕ) where
  -- 0 and 1 are in range
  pub two_le : 2 ≤ 2 ^ degree_of d
  unfolding degree_of
  two_le = go (eqb d 61)
    where
      go : (b : Bool) → 2 ≤ 2 ^ cond b 61 5
      go true = lit< tt
      go false = lit< tt

  pub zero_lt : 0 < 2 ^ degree_of d
  zero_lt = let h : 2 ≤ 2 ^ degree_of d = two_le in omega arith

  pub one_lt : 1 < 2 ^ degree_of d
  one_lt = two_le

  pub el_number : (n : ℕ) → n < 2 ^ degree_of d → (el d n).0 ≡ n
  unfolding el
  el_number n h = element_small (degree_of d) (accepted d) n h

  -- every element is that of its number
  pub el_of : (a : K d) → el d a.0 ≡ a
  unfolding el
  el_of a = element_number (degree_of d) (accepted d) a

  pub el_zero : el d 0 ≡ (F d).ring.zero
  unfolding F
  el_zero = element_path (degree_of d) (el_number 0 zero_lt ∙ sym (zero_number (degree_of d) (accepted d)))

  pub el_one : el d 1 ≡ (F d).ring.one
  unfolding F
  el_one = element_path (degree_of d) (el_number 1 one_lt ∙ sym (one_number (degree_of d) (accepted d)))

  -- two numbers in range with the same element are equal
  pub el_injective : (m n : ℕ) → m < 2 ^ degree_of d → n < 2 ^ degree_of d → el d m ≡ el d n → m ≡ n
  el_injective m n h k e = sym (el_number m h) ∙ ap (λ a. a.0) e ∙ el_number n k

  pub zero_of_zero : (n : ℕ) → n < 2 ^ degree_of d → el d n ≡ (F d).ring.zero → n ≡ 0
  zero_of_zero n h e = el_injective n 0 h zero_lt (e ∙ sym el_zero)

  pub el_nonzero : (n : ℕ) → n < 2 ^ degree_of d → ¬ (n ≡ 0) → ¬ (el d n ≡ (F d).ring.zero)
  el_nonzero n h k e = k (zero_of_zero n h e)

  pub one_of_one : (n : ℕ) → n < 2 ^ degree_of d → el d n ≡ (F d).ring.one → n ≡ 1
  one_of_one n h e = el_injective n 1 h one_lt (e ∙ sym el_one)

  -- numbers that stand for elements
  pub zero_is : Is d 0 (F d).ring.zero
  zero_is = record { in_range = zero_lt; stands = el_zero }

  pub self_is : (n : ℕ) → n < 2 ^ degree_of d → Is d n (el d n)
  self_is n h = record { in_range = h; stands = refl }

  pub is_eq : {n : ℕ} {a b : K d} → a ≡ b → Is d n a → Is d n b
  is_eq e s = record { in_range = s.in_range; stands = s.stands ∙ e }
