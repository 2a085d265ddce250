-- Elements decoded from a body, and the curves and classes that the code decodes from them.
-- `made`: an array whose numbers are made by calls, each at its index.
-- `elements`: the elements of a body, one by one.
-- `curve_is`, `row_is`: the curve and the row that are made of a body's elements.
-- `halves`, `class_is`: the two halves of a class's body, and the class that they decode to.
use Prim.Native.Nat.{ℕ, zero, suc, ◌+◌, ◌*◌, ◌-◌, ◌/◌, ◌≤◌, ◌<◌}
use mathlib.Core.Path.{◌≡◌, refl, sym, ap, subst, ◌∙◌}
use mathlib.Core.Bool.{true, cond}
use mathlib.Core.List.{List, map}
use native.Mathlib.Decide.{ℕ_discrete}
use native.Mathlib.Omega.{arith}
use lib.Dec.{ltb}
use lib.ListN.{length, get_or, take, drop}
use lib.Seq.{drop-drop, take_at, drop_at}
use denote.Param.Members.{Mut, Called}
use Rattle.std.specs.Array.{IsFromFnResultFrom, IsFromFnResult}
use Rattle.std.specs.List.{range_with_len}
use Rattle.std.proofs.lemmas.List.FromFn.{fill_by_all}
use Rattle.stored_form.specs.{Number.decode_numbers, Number.decode_number, Number.part, Elements.element_length, Elements.decode_elements, Classes.decode_curve, Classes.decode_row, Classes.decode_class}
use Rattle.stored_form.specs.{Head.class_length}
use Rattle.jacobian.specs.{Curves.coefficient_count, Curves.curve_with, declared.Class.Class}
use Rattle.stored_form.proofs.{Lengths.class_length_le, Lengths.class_length_even, NumberLists.length_decode_numbers, NumberLists.decode_numbers_at, NumberLists.decode_numbers_take, NumberLists.decode_numbers_add}

-- ---- arrays made by calls

module _ {F : Type 0} (g : Mut F (ℕ × Unit {0}) ℕ) (f : F) (h : ℕ → ℕ) (step : (i y : ℕ) (q : F) → Called g f (i, tt) y q → (q ≡ f) × (y ≡ h i)) where
  made_at : (ys : List ℕ) (i n : ℕ) → IsFromFnResultFrom g f ys i n → (k : ℕ) → i ≤ k → k < i + n → get_or ys k 0 ≡ h k
  made_at ys i zero w k le lt = absurd (omega arith)
  made_at ys i (suc n) w k le lt =
      let s = step i w.1 w.0 w.3 in
      elim (ℕ_discrete k i) [
        | yes e ↦ ap (λ (j : ℕ). get_or ys j 0) e ∙ w.2.1 0 ∙ s.1 ∙ ap h (sym e)
        | no a ↦ made_at ys (i + 1) n (subst (λ (q : F). IsFromFnResultFrom g q ys (i + 1) n) s.0 w.4) k (omega (arith, a)) (omega arith)
      ]

  -- an array of n numbers, the number at i made by a call at i
  pub made : (ys : List ℕ) (n : ℕ) → IsFromFnResult g f ys n → ys ≡ map h (range_with_len 0 n)
  made ys n w = fill_by_all h ys n 0 w.long (λ k lt. made_at ys 0 n w.each k (omega arith) (omega arith))

-- ---- what the code decodes

-- element i of a body
abbrev pub element : List ℕ → ℕ → ℕ
element body i = decode_number (part body (element_length * i) element_length)

pub elements : (body : List ℕ) (n : ℕ) → map (element body) (range_with_len 0 n) ≡ decode_elements n body
elements body n = sym (fill_by_all (element body) (decode_elements n body) n 0 (length_decode_numbers 8 n body) (λ k lt. decode_numbers_at 8 n body k lt))

pub curve_is : (d : ℕ) (body cs : List ℕ) → cs ≡ map (element body) (range_with_len 0 coefficient_count) → curve_with d cs ≡ decode_curve d body
unfolding decode_curve
curve_is d body cs e = ap (curve_with d) (e ∙ elements body coefficient_count)

-- coefficient i of a row of n elements, of which the highest power comes first
abbrev pub row_element : List ℕ → ℕ → ℕ → ℕ
row_element body n i = cond (ltb i n) (element body (n - 1 - i)) 0

pub row_is : (body : List ℕ) (n : ℕ) → n ≤ 3 → map (row_element body n) (range_with_len 0 3) ≡ decode_row (decode_elements n body)
unfolding decode_row decode_numbers
row_is body zero h = refl
row_is body (suc zero) h = refl
row_is body (suc (suc zero)) h = refl
row_is body (suc (suc (suc zero))) h = rw (drop-drop 8 8 body)
row_is body (suc (suc (suc (suc n)))) h = absurd (omega arith)

-- the halves of a class's body are its two rows
module _ (body : List ℕ) (ok : class_length (length body) ≡ true) where
  pub halves : (length body / 16 ≤ 3) × (length body ≡ 8 * (length body / 16) + 8 * (length body / 16))
  halves = omega (arith, class_length_le (length body) ok, class_length_even (length body) ok)

  pub class_is : {u v : List ℕ} → u ≡ decode_row (decode_elements (length body / 16) (take (8 * (length body / 16)) body)) →
      v ≡ decode_row (decode_elements (length body / 16) (drop (8 * (length body / 16)) body)) →
      ◌≡◌ {A = Class} (record { degree = length body / 16; u = u; v = v }) (decode_class body)
  unfolding decode_class
  class_is e f =
      let n = length body / 16 in
      let xs = decode_elements n body in
      let ys = decode_elements n (drop (8 * n) body) in
      let first : decode_elements n (take (8 * n) body) ≡ xs = decode_numbers_take 8 n (8 * n) body (omega arith) in
      rw (decode_numbers_add 8 n n body, take_at xs ys n (length_decode_numbers 8 n body), drop_at xs ys n (length_decode_numbers 8 n body), e, f, first)
