-- The value of a polynomial at an element, as Horner's rule computes it, by the field's laws.
-- `zero_plus`, `sum_with`: r x + a, where r is 0 and where the product is a number that stands for r x.
-- `value_lt`: the value is an element. `value_filled`: zeros at the end change nothing.
-- `none_gone`, `one_gone`, `all_gone`: the loop, from the last coefficient to the first. `last_range`: each is in range.
use Prim.Native.Nat.{ℕ, zero, suc, ◌-◌, ◌^◌, ◌<◌}
use mathlib.Core.{Path.◌≡◌, Path.refl, Path.sym, Path.ap, Path.ap₂, Path.subst, Path.◌∙◌, List.List, List.[], List.◌∷◌, List.◌++◌, List.map}
use native.Mathlib.Omega.{arith}
use lib.ListN.{length, get_or, replicate}
use Rattle.char2_algebra.proofs.Ring.{𝟘_⊞, ⊞_𝟘, ·_𝟘}
use Rattle.binary_field_theory.specs.Element.{Accepted}
use Rattle.class_group.specs.NonSingular.{evaluate}
use Rattle.row_theory.specs.{Field.degree_of, Field.K, Field.F, Field.el, Row.InRange, Row.filled, internal.Elements.Is}
use Rattle.std.proofs.Common.{append_assoc}
use Rattle.std.proofs.lemmas.List.{append-nil}
use Rattle.row_theory.proofs.Rows.{Elements.degree_is, Elements.el_number, Elements.el_zero, Elements.zero_is, Elements.self_is, Elements.is_eq, Answers.number_is}
use Rattle.stamps.specs.Stamps.{value_at}

-- a number of an accepted degree is in range for the field of that degree
pub in_field : (d : ℕ) {x : ℕ} → Accepted d → x < 2 ^ d → x < 2 ^ degree_of d
in_field d ok h = rw (degree_is d ok) h

-- ---- r x + a

module _ (d : ℕ) where
  pub zero_plus : (r x a : ℕ) → a < 2 ^ degree_of d → r ≡ 0 → Is d a ((F d).ring.add (el d a) ((F d).ring.mul (el d x) (el d r)))
  zero_plus r x a h e =
      is_eq d
      (sym (ap (λ z. (F d).ring.add (el d a) ((F d).ring.mul (el d x) z)) (ap (el d) e ∙ el_zero d) ∙ ap ((F d).ring.add (el d a)) (·_𝟘 (F d).ring (el d x)) ∙ ⊞_𝟘 (F d).ring (el d a)))
      (self_is d a h)

  -- the sum with a number that stands for an element
  pub sum_with : (a : ℕ) {p s : ℕ} {e : K d} → Is d p e → s ≡ ((F d).ring.add (el d a) (el d p)).0 → Is d s ((F d).ring.add (el d a) e)
  sum_with a {p} is e = is_eq d (ap ((F d).ring.add (el d a)) is.stands) (number_is d ((F d).ring.add (el d a) (el d p)) e)

-- ---- the value

module _ (d : ℕ) where
  -- the value in the field
  abbrev pub evaluated : List ℕ → ℕ → K d
  evaluated f x = evaluate (F d).ring (map (el d) f) (el d x)

  pub value_lt : Accepted d → (f : List ℕ) (x : ℕ) → value_at d f x < 2 ^ d
  unfolding value_at
  value_lt ok f x = subst (λ (n : ℕ). value_at d f x < 2 ^ n) (degree_is d ok) (evaluated f x).1

  -- zeros at the end change nothing
  zeros : (n : ℕ) (t : K d) → evaluate (F d).ring (map (el d) (replicate n 0)) t ≡ (F d).ring.zero
  unfolding evaluate
  zeros zero t = refl
  zeros (suc n) t = ap₂ (λ a b. (F d).ring.add a ((F d).ring.mul t b)) (el_zero d) (zeros n t) ∙ 𝟘_⊞ (F d).ring _ ∙ ·_𝟘 (F d).ring t

  filled_zeros : (f : List ℕ) (n : ℕ) (t : K d) → evaluate (F d).ring (map (el d) (f ++ replicate n 0)) t ≡ evaluate (F d).ring (map (el d) f) t
  unfolding evaluate
  filled_zeros [] n t = zeros n t
  filled_zeros (a ∷ f) n t = ap (λ b. (F d).ring.add (el d a) ((F d).ring.mul t b)) (filled_zeros f n t)

  pub value_filled : (f : List ℕ) (x : ℕ) → value_at d (filled f) x ≡ value_at d f x
  unfolding value_at filled
  value_filled f x = ap (λ (e : K d). e.0) (filled_zeros f (12 - length f) (el d x))

-- ---- the loop, from the last coefficient to the first

at_seam : (r : List ℕ) (a : ℕ) (t : List ℕ) → get_or (r ++ a ∷ t) (length r) 0 ≡ a
at_seam [] a t = refl
at_seam (b ∷ r) a t = at_seam r a t

-- r is the value of the coefficients after those that are left
pub record Gone (d : ℕ) (f : List ℕ) (x r : ℕ) (left : List ℕ) : Type 0 where
  pub tail : List ℕ
  pub is : f ≡ left ++ tail
  pub value : Is d r (evaluated d tail x)

module _ {d : ℕ} {f : List ℕ} {x : ℕ} where
  pub none_gone : {left : List ℕ} → left ≡ f → Gone d f x 0 left
  unfolding evaluate
  none_gone e = record { tail = []; is = sym e ∙ sym (append-nil _); value = zero_is d }

  pub last_range : {r : ℕ} {left : List ℕ} (rest : List ℕ) (a : ℕ) → Gone d f x r left → left ≡ rest ++ a ∷ [] → InRange d f → a < 2 ^ degree_of d
  last_range rest a g e h =
      let is : f ≡ rest ++ a ∷ g.tail = g.is ∙ ap (λ l. l ++ g.tail) e ∙ append_assoc rest (a ∷ []) g.tail in
      subst (λ n. n < 2 ^ degree_of d) (ap (λ l. get_or l (length rest) 0) is ∙ at_seam rest a g.tail) (h (length rest))

  pub one_gone : {r s : ℕ} {left : List ℕ} (rest : List ℕ) (a : ℕ) → Gone d f x r left → left ≡ rest ++ a ∷ []
      → Is d s ((F d).ring.add (el d a) ((F d).ring.mul (el d x) (el d r))) → Gone d f x s rest
  unfolding evaluate
  one_gone rest a g e h =
      record {
        tail = a ∷ g.tail;
        is = g.is ∙ ap (λ l. l ++ g.tail) e ∙ append_assoc rest (a ∷ []) g.tail;
        value = is_eq d (ap (λ z. (F d).ring.add (el d a) ((F d).ring.mul (el d x) z)) g.value.stands) h;
      }

  pub all_gone : {r : ℕ} (left : List ℕ) → length left ≡ 0 → Gone d f x r left → r ≡ value_at d f x
  unfolding value_at
  all_gone {r} [] e g = sym (el_number d r g.value.in_range) ∙ ap (λ (a : K d). a.0) (g.value.stands ∙ ap (λ l. evaluated d l x) (sym g.is))
  all_gone (a ∷ left) e g = absurd (omega arith)
