-- The answers of the calls on elements, as numbers that stand for elements.
-- `zero_times`, `times_zero`, `one_times`, `times_one`, `inverse_one`: products with 0 and 1, and the inverse of 1,
-- need no call.
use Prim.Native.Nat.{ℕ, ◌<◌, ◌^◌}
use mathlib.Core.Path.{◌≡◌, sym, ◌∙◌, ap, ap₂}
use Rattle.field_laws.specs.Division.{inverse_of}
use Rattle.binary_field_theory.specs.Element.{Accepted}
use Rattle.binary_field.specs.Answer.{element, sum_reply, product_reply, square_reply, root_reply, inverse_reply}
use Rattle.binary_field.proofs.Replies.{sum_in_field, product_in_field, square_in_field, root_in_field, inverse_in_field}
use Rattle.char2_algebra.proofs.{Ring.·_𝟘, Ring.𝟘_·, Ring.·_𝟙, Ring.𝟙_·, Product.inverse_only}
use Rattle.row_theory.specs.{Field.degree_of, Field.accepted, Field.K, Field.F, Field.el, internal.Elements.Is, internal.Elements.Inverts}
use Rattle.row_theory.proofs.Rows.Elements.{degree_is, one_lt, el_of, el_zero, el_one, zero_is, self_is, is_eq}

module _ (d : ℕ) where
  -- the number of an element stands for it
  pub number_is : {n : ℕ} (e : K d) → n ≡ e.0 → Is d n e
  number_is e h = record { in_range = rw h e.1; stands = ap (el d) h ∙ el_of d e }

  module _ (hd : Accepted d) (a : ℕ) (ha : a < 2 ^ degree_of d) where
    module _ (b : ℕ) (hb : b < 2 ^ degree_of d) where
      pub sum_answers : sum_reply d a b ≡ element ((F d).ring.add (el d a) (el d b)).0
      unfolding F el
      sum_answers = ap (λ k. sum_reply k a b) (sym (degree_is d hd)) ∙ sum_in_field (degree_of d) (accepted d) a ha b hb

      pub product_answers : product_reply d a b ≡ element ((F d).ring.mul (el d a) (el d b)).0
      unfolding F el
      product_answers = ap (λ k. product_reply k a b) (sym (degree_is d hd)) ∙ product_in_field (degree_of d) (accepted d) a ha b hb

    pub square_answers : square_reply d a ≡ element ((F d).ring.mul (el d a) (el d a)).0
    unfolding F el
    square_answers = ap (λ k. square_reply k a) (sym (degree_is d hd)) ∙ square_in_field (degree_of d) (accepted d) a ha

    pub root_answers : root_reply d a ≡ element ((F d).root (el d a)).0
    unfolding F el
    root_answers = ap (λ k. root_reply k a) (sym (degree_is d hd)) ∙ root_in_field (degree_of d) (accepted d) a ha

    pub inverse_answers : (ne : ¬ (el d a ≡ (F d).ring.zero)) → inverse_reply d a ≡ element (inverse_of (F d) (el d a) ne).0
    unfolding F el
    inverse_answers ne = ap (λ k. inverse_reply k a) (sym (degree_is d hd)) ∙ inverse_in_field (degree_of d) (accepted d) a ha ne

  -- products with 0 and 1
  pub zero_times : (a b : ℕ) → a ≡ 0 → Is d 0 ((F d).ring.mul (el d a) (el d b))
  zero_times a b e = is_eq d (sym (ap (λ z. (F d).ring.mul z (el d b)) (ap (el d) e ∙ el_zero d) ∙ 𝟘_· (F d).ring (el d b))) (zero_is d)

  pub times_zero : (a b : ℕ) → b ≡ 0 → Is d 0 ((F d).ring.mul (el d a) (el d b))
  times_zero a b e = is_eq d (sym (ap ((F d).ring.mul (el d a)) (ap (el d) e ∙ el_zero d) ∙ ·_𝟘 (F d).ring (el d a))) (zero_is d)

  pub one_times : (a b : ℕ) → b < 2 ^ degree_of d → a ≡ 1 → Is d b ((F d).ring.mul (el d a) (el d b))
  one_times a b h e = is_eq d (sym (ap (λ z. (F d).ring.mul z (el d b)) (ap (el d) e ∙ el_one d) ∙ 𝟙_· (F d).ring (el d b))) (self_is d b h)

  pub times_one : (a b : ℕ) → a < 2 ^ degree_of d → b ≡ 1 → Is d a ((F d).ring.mul (el d a) (el d b))
  times_one a b h e = is_eq d (sym (ap ((F d).ring.mul (el d a)) (ap (el d) e ∙ el_one d) ∙ ·_𝟙 (F d).ring (el d a))) (self_is d a h)

  -- the inverse of 1, which needs no call
  pub inverse_one : (a : ℕ) → a ≡ 1 → Inverts d 1 (el d a)
  inverse_one a e = record { in_range = one_lt d; unit = ap₂ (F d).ring.mul (ap (el d) e ∙ el_one d) (el_one d) ∙ ·_𝟙 (F d).ring (F d).ring.one }

  -- the number of an inverse inverts
  pub inverse_inverts : {n : ℕ} (e : K d) (ne : ¬ (e ≡ (F d).ring.zero)) → n ≡ (inverse_of (F d) e ne).0 → Inverts d n e
  inverse_inverts e ne h =
      let is = number_is (inverse_of (F d) e ne) h in
      record { in_range = is.in_range; unit = ap ((F d).ring.mul e) is.stands ∙ (F d).mul_inverse e ne }

  pub inverts_eq : {n : ℕ} {a b : K d} → a ≡ b → Inverts d n a → Inverts d n b
  inverts_eq {n} e s = record { in_range = s.in_range; unit = ap (λ z. (F d).ring.mul z (el d n)) (sym e) ∙ s.unit }

  -- a number that inverts an element stands for its inverse
  pub inverts_is : {n : ℕ} {e : K d} (ne : ¬ (e ≡ (F d).ring.zero)) → Inverts d n e → el d n ≡ inverse_of (F d) e ne
  inverts_is {n} {e} ne s = inverse_only (F d) e (el d n) ne s.unit
