-- The length (degree plus one) of a norm, for f of degree 7: 2 deg p and 2 deg q + 7 are never equal.
-- `norm_len`: the norm of p + q y, q not 0, has the larger of these two degrees.
-- `norm_short`: a norm of degree at most 6 is that of a polynomial.
-- `value_len`, `value_nonzero`: the length of v² + v + f, which is a norm, and that it is not 0.
-- `norm_nonzero`: the norm is zero only at zero.
-- `coordinate_domain`, `coordinate_one`: the coordinate ring has no zero divisors, and 1 ≠ 0 in it.
use Prim.Native.Nat.{suc, ◌≤◌, max, ◌*◌, ◌+◌}
use mathlib.Core.Path.{◌≡◌, sym, ◌∙◌, ap}
use native.Mathlib.Omega.{arith}
use native.Mathlib.Decide.{dec_le}
use Rattle.field_laws.specs.Field.{Field2}
use Rattle.char2_algebra.specs.Polynomials.{Polynomials}
use Rattle.char2_algebra.proofs.Ring.{ring2, ·_𝟘}
use Rattle.char2_algebra.proofs.Degree.{len_zero, len_of_zero, nonzero_of_len, len_add, len_add_less, len_one, one_nonzero}
use Rattle.char2_algebra.proofs.Product.{len_mul_le, len_mul, mul_nonzero, square_nonzero, square_zero, len_square}
use Rattle.class_group.proofs.Coordinate.{coordinate, norm, norm_mul, norm_constant, norm_value}

module _ {K P : Type 0} {F : Field2 K} (A : Polynomials F P) (f : P) (f_len : A.len f ≡ 8) where
  open A use {ring as R, len}
  open A.ring use {add as ◌⊞◌, mul as ◌·◌, zero as 𝟘, one as 𝟙}

  infixl 60 ◌⊞◌
  infixl 70 ◌·◌
  f_nonzero : ¬ (f ≡ 𝟘)
  f_nonzero = nonzero_of_len A f (omega arith)

  len_square_f : (q : P) → ¬ (q ≡ 𝟘) → len (q · q · f) ≡ 2 * len q + 6
  len_square_f q h =
      let a : suc (len (q · q)) ≡ len q + len q = len_square A q h in
      let b : suc (len (q · q · f)) ≡ len (q · q) + len f = len_mul A (q · q) f (square_nonzero A q h) f_nonzero in
      omega arith

  short_p : (p q : P) → ¬ (q ≡ 𝟘) → len p ≤ len q + 3 → len (p · p ⊞ p · q ⊞ q · q · f) ≡ 2 * len q + 6
  short_p p q h l =
      let n = len q in
      let a : len (p · p) ≤ n + 2 + (n + 3) = len_mul_le A (n + 2) (n + 3) p p (omega arith) l in
      let b : len (p · q) ≤ n + 2 + n = len_mul_le A (n + 2) n p q (omega arith) (omega arith) in
      let c : len (p · p ⊞ p · q) ≤ n + n + 5 = len_add A (p · p) (p · q) (n + n + 5) (omega arith) (omega arith) in
      let d : len (q · q · f) ≡ 2 * n + 6 = len_square_f q h in
      len_add_less A (p · p ⊞ p · q) (q · q · f) (omega arith) ∙ d

  norm_order : (p q : P) → p · q ⊞ q · q · f ⊞ p · p ≡ p · p ⊞ p · q ⊞ q · q · f
  norm_order p q = simp (ring2, R)

  long_p : (p q : P) → ¬ (q ≡ 𝟘) → len q + 4 ≤ len p → suc (len (p · p ⊞ p · q ⊞ q · q · f)) ≡ 2 * len p
  long_p p q h l =
      let p≢𝟘 = nonzero_of_len A p (omega arith) in
      let a : suc (len (p · p)) ≡ len p + len p = len_square A p p≢𝟘 in
      let b : suc (len (p · q)) ≡ len p + len q = len_mul A p q p≢𝟘 h in
      let d : len (q · q · f) ≡ 2 * len q + 6 = len_square_f q h in
      let m = len p + len q + 2 in
      let c : len (p · q ⊞ q · q · f) ≤ m = len_add A (p · q) (q · q · f) m (omega arith) (omega arith) in
      let e : len (p · q ⊞ q · q · f ⊞ p · p) ≡ len (p · p) = len_add_less A (p · q ⊞ q · q · f) (p · p) (omega arith) in
      let g : len (p · p ⊞ p · q ⊞ q · q · f) ≡ len (p · p) = ap len (sym (norm_order p q)) ∙ e in
      omega arith

  pub norm_len : (p q : P) → ¬ (q ≡ 𝟘) → suc (len (norm R f (p, q))) ≡ max (2 * len p) (2 * len q + 7)
  unfolding norm
  norm_len p q h = elim (dec_le (len p) (len q + 3)) [
    | yes l ↦ (let a : len (p · p ⊞ p · q ⊞ q · q · f) ≡ 2 * len q + 6 = short_p p q h l in omega arith)
    | no m ↦ (let a : suc (len (p · p ⊞ p · q ⊞ q · q · f)) ≡ 2 * len p = long_p p q h (omega arith) in omega arith)
  ]

  pub norm_short : (p q : P) → len (norm R f (p, q)) ≤ 7 → q ≡ 𝟘
  norm_short p q h = elim (dec_le 1 (len q)) [
    | yes l ↦ (let a : suc (len (norm R f (p, q))) ≡ max (2 * len p) (2 * len q + 7) = norm_len p q (nonzero_of_len A q l) in absurd (omega arith))
    | no m ↦ len_zero A q (omega arith)
  ]

  pub value_len : (v : P) → suc (len (v · v ⊞ v ⊞ f)) ≡ max (2 * len v) 9
  value_len v =
      let a : suc (len (norm R f (v, 𝟙))) ≡ max (2 * len v) (2 * len 𝟙 + 7) = norm_len v 𝟙 (one_nonzero A) in
      let b : len 𝟙 ≡ 1 = len_one A in
      let c : len (norm R f (v, 𝟙)) ≡ len (v · v ⊞ v ⊞ f) = ap len (norm_value R f v) in
      omega arith

  pub value_nonzero : (v : P) → ¬ (v · v ⊞ v ⊞ f ≡ 𝟘)
  value_nonzero v = nonzero_of_len A (v · v ⊞ v ⊞ f) (let a : suc (len (v · v ⊞ v ⊞ f)) ≡ max (2 * len v) 9 = value_len v in omega arith)

  pub norm_nonzero : (x : P × P) → ¬ (x ≡ (𝟘, 𝟘)) → ¬ (norm R f x ≡ 𝟘)
  norm_nonzero x h z =
      let q≡𝟘 = norm_short x.0 x.1 (let a : len (norm R f x) ≡ 0 = ap len z ∙ len_of_zero A in omega arith) in
      h (λ i. (square_zero A x.0 (sym (norm_constant R f x.0) ∙ ap (λ q. norm R f (x.0, q)) (sym q≡𝟘) ∙ z) i, q≡𝟘 i))

  pub coordinate_domain : (a b : P × P) → ¬ (a ≡ (coordinate R f).zero) → ¬ (b ≡ (coordinate R f).zero)
      → ¬ ((coordinate R f).mul a b ≡ (coordinate R f).zero)
  unfolding coordinate
  coordinate_domain a b h k z =
      mul_nonzero A (norm R f a) (norm R f b) (norm_nonzero a h) (norm_nonzero b k)
      (sym (norm_mul R f a b) ∙ ap (norm R f) z ∙ norm_constant R f 𝟘 ∙ ·_𝟘 R 𝟘)

  pub coordinate_one : ¬ ((coordinate R f).one ≡ (coordinate R f).zero)
  unfolding coordinate
  coordinate_one z = one_nonzero A (ap (λ x. x.0) z)
