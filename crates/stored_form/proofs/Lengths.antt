-- The lengths that each tag allows, and the length of a field.
-- `is_degree_length` and its like: what an allowed length is, tag by tag.
-- `by_class_length`: a class has one of four lengths. `by_tag`: a tag that allows a length is one of seven.
-- `allows_short`: no allowed length is above that of the longest body.
-- `length_stored`: a field has three bytes more than its body. `length_count`: the length of a count's field.
-- `length_released`: the length of a released step's field.
use Prim.Native.Nat.{ℕ, ◌+◌, ◌*◌, ◌/◌, ◌≤◌}
use mathlib.Core.Path.{◌≡◌, refl, sym, subst, ◌∙◌}
use native.Mathlib.Decide.{ℕ_discrete}
use mathlib.Core.Bool.{true, false, false≢true}
use mathlib.Core.List.{List}
use native.Mathlib.Omega.{arith}
use lib.Dec.{eqb, lit≤}
use lib.ListN.{length}
use borrow.Author.Tests.{ne_eqb, eqb-true, leb-true}
use Rattle.stored_form.specs.{Number.encode_number, Fields.count_field, Fields.released_field, Tags.rules, Tags.longest_body, declared.Record.Record}
use Rattle.stored_form.specs.Head.{degree_length, curve_length, count_length, drawing_limit, class_length, class_limit, head_bytes, encode_field}

pub class_length_last : (n : ℕ) → (n ≡ 0 → ⊥) → (n ≡ 16 → ⊥) → (n ≡ 32 → ⊥) → class_length n ≡ eqb n 48
unfolding class_length
class_length_last n h₀ h₁ h₂ = rw (ne_eqb n 0 h₀, ne_eqb n 16 h₁, ne_eqb n 32 h₂)

-- ---- the lengths that are allowed

module _ (h : Record) where
  pub allows_none : (t n : ℕ) → (t ≡ 0x40 → ⊥) → (t ≡ 0x41 → ⊥) → (t ≡ 0x46 → ⊥) → (t ≡ 0x42 → ⊥) → (t ≡ 0x45 → ⊥) → (t ≡ 0x43 → ⊥) → (t ≡ 0x44 → ⊥) →
      (rules t).allows h n ≡ false
  unfolding rules
  allows_none t n h₀ h₁ h₆ h₂ h₅ h₃ h₄ =
      rw (ne_eqb t 0x40 h₀, ne_eqb t 0x41 h₁, ne_eqb t 0x46 h₆, ne_eqb t 0x42 h₂, ne_eqb t 0x45 h₅, ne_eqb t 0x43 h₃, ne_eqb t 0x44 h₄)

  pub is_degree_length : {n : ℕ} → (rules 0x40).allows h n ≡ true → n ≡ degree_length
  unfolding rules
  is_degree_length e = eqb-true _ _ e

  pub is_count_length : {n : ℕ} → (rules 0x42).allows h n ≡ true → n ≡ count_length
  unfolding rules
  is_count_length e = eqb-true _ _ e

  pub is_released_length : {n : ℕ} → (rules 0x45).allows h n ≡ true → n ≡ count_length
  unfolding rules
  is_released_length e = eqb-true _ _ e

  pub is_drawing_length : {n : ℕ} → (rules 0x46).allows h n ≡ true → n ≤ drawing_limit
  unfolding rules
  is_drawing_length e = leb-true _ _ e

  pub is_curve_length : {n : ℕ} → (rules 0x41).allows h n ≡ true → n ≡ curve_length
  unfolding rules
  is_curve_length e = eqb-true _ _ e

  pub class_lengths : (n : ℕ) → (rules 0x43).allows h n ≡ class_length n
  unfolding rules
  class_lengths n = refl

  pub operation_lengths : (n : ℕ) → (rules 0x44).allows h n ≡ class_length n
  unfolding rules
  operation_lengths n = refl

-- a number is k or not k
by_case : (P : ℕ → Type 0) (n k : ℕ) → P k → ((n ≡ k → ⊥) → P n) → P n
by_case P n k p other =
    elim (ℕ_discrete n k) [
      | yes e ↦ subst P (sym e) p
      | no a ↦ other a
    ]

pub by_class_length : (P : ℕ → Type 0) → P 0 → P 16 → P 32 → P 48 → (n : ℕ) → class_length n ≡ true → P n
by_class_length P p₀ p₁ p₂ p₃ n h =
    by_case P n 0 p₀ (λ a. by_case P n 16 p₁ (λ b. by_case P n 32 p₂ (λ c. subst P (sym (eqb-true n 48 (sym (class_length_last n a b c) ∙ h))) p₃)))

pub class_length_le : (n : ℕ) → class_length n ≡ true → n ≤ class_limit
class_length_le = by_class_length (λ n. n ≤ class_limit) (lit≤ tt) (lit≤ tt) (lit≤ tt) (lit≤ tt)

pub class_length_even : (n : ℕ) → class_length n ≡ true → 16 * (n / 16) ≡ n
class_length_even = by_class_length (λ n. 16 * (n / 16) ≡ n) refl refl refl refl

module _ (h : Record) where
  pub by_tag : (P : ℕ → Type 0) → P 0x40 → P 0x41 → P 0x46 → P 0x42 → P 0x45 → P 0x43 → P 0x44 → (t n : ℕ) → (rules t).allows h n ≡ true → P t
  by_tag P p₀ p₁ p₆ p₂ p₅ p₃ p₄ t n e =
      by_case P t 0x40 p₀ (λ a₀. by_case P t 0x41 p₁ (λ a₁. by_case P t 0x46 p₆ (λ a₆. by_case P t 0x42 p₂ (λ a₂. by_case P t 0x45 p₅ (λ a₅. by_case P t 0x43 p₃ (λ a₃. by_case P t 0x44 p₄
      (λ a₄. absurd (false≢true (sym (allows_none h t n a₀ a₁ a₆ a₂ a₅ a₃ a₄) ∙ e)))))))))

  pub allows_short : (t n : ℕ) → (rules t).allows h n ≡ true → n ≤ longest_body
  allows_short t n a =
      by_tag (λ t. (rules t).allows h n ≡ true → n ≤ longest_body)
      (λ e. omega (arith, is_degree_length h e))
      (λ e. omega (arith, is_curve_length h e))
      (λ e. omega (arith, is_drawing_length h e))
      (λ e. omega (arith, is_count_length h e))
      (λ e. omega (arith, is_released_length h e))
      (λ e. omega (arith, class_length_le n (sym (class_lengths h n) ∙ e)))
      (λ e. omega (arith, class_length_le n (sym (operation_lengths h n) ∙ e)))
      t n a a

-- ---- the length of a field

pub length_stored : (tag : ℕ) (body : List ℕ) → length (encode_field tag body) ≡ 3 + length body
unfolding encode_field head_bytes encode_number
length_stored tag body = omega arith

pub length_count : (n : ℕ) → length (count_field n) ≡ 3 + count_length
unfolding count_field encode_field head_bytes encode_number
length_count n = refl

pub length_released : (n : ℕ) → length (released_field n) ≡ 3 + count_length
unfolding released_field encode_field head_bytes encode_number
length_released n = refl
