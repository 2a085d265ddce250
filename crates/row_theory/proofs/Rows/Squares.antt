-- Coefficients of the square and of the square root of a row's polynomial, as the loops compute them.
use Prim.Native.Nat.{ℕ, zero, suc, ◌+◌, ◌≤◌}
use mathlib.Core.{Path.◌≡◌, Path.sym, Path.◌∙◌, Path.ap, Path.ap₂, List.List}
use native.Mathlib.Omega.{arith}
use lib.ListN.{get_or}
use Rattle.char2_algebra.specs.{Square.sqrt}
use Rattle.char2_algebra.proofs.{Ring.·_𝟘, Degree.len_zero, Degree.len_of_zero, Product.len_mul_le, Square.coeff_square_even, Square.coeff_square_odd, Square.root_zero}
use Rattle.row_theory.specs.{Field.F, Field.Poly, Field.𝔸, Field.el, Field.poly, internal.Elements.Is}
use Rattle.row_theory.proofs.{Rows.Elements.is_eq, Rows.Coefficients.coeff_poly, Rows.Roots.coeff_of_sqrt}

module _ (d : ℕ) where
  open 𝔸 d use {ring, coeff, con, len}
  open (𝔸 d).ring use {add as ◌⊞◌, mul as ◌·◌}
  open (F d).ring use {add as ◌⊞ₖ◌, mul as ◌·ₖ◌, zero as 𝟘ₖ}

  infixl 60 ◌⊞◌
  infixl 70 ◌·◌
  infixl 60 ◌⊞ₖ◌
  infixl 70 ◌·ₖ◌
  -- the square
  pub squared_at : (r : List ℕ) (i : ℕ) {v : ℕ} → Is d v (el d (get_or r i 0) ·ₖ el d (get_or r i 0)) → Is d v (coeff (poly d r · poly d r) (i + i))
  squared_at r i = is_eq d (sym (coeff_square_even (𝔸 d) i (poly d r) ∙ ap₂ ◌·ₖ◌ (coeff_poly d r i) (coeff_poly d r i)))

  pub squared_odd : (p : Poly d) (i : ℕ) → coeff (p · p) (i + i + 1) ≡ 𝟘ₖ
  squared_odd p i = let e : i + i + 1 ≡ suc (i + i) = omega arith in ap (coeff (p · p)) e ∙ coeff_square_odd (𝔸 d) i p

  pub squared_past : (p : Poly d) (n i : ℕ) → len p ≤ n → n + n ≤ i → coeff (p · p) i ≡ 𝟘ₖ
  squared_past p n i h k =
      (𝔸 d).len_past (p · p) i (go n h k)
    where
      go : (m : ℕ) → len p ≤ m → m + m ≤ i → len (p · p) ≤ i
      go zero a b = let e : p ≡ (𝔸 d).ring.zero = len_zero (𝔸 d) p (omega arith) in let l : len (p · p) ≡ 0 = ap (λ z. len (z · z)) e ∙ ap len (·_𝟘 (𝔸 d).ring (𝔸 d).ring.zero) ∙ len_of_zero (𝔸 d) in omega arith
      go (suc m) a b = let l : len (p · p) ≤ m + suc m = len_mul_le (𝔸 d) m (suc m) p p a a in omega arith

  -- the square root
  pub root_at : (r : List ℕ) (i : ℕ) {v : ℕ} → Is d v ((F d).root (el d (get_or r (i + i) 0))) → Is d v (coeff (sqrt (𝔸 d) (poly d r)) i)
  root_at r i = is_eq d (sym (coeff_of_sqrt (𝔸 d) (poly d r) i ∙ ap (F d).root (coeff_poly d r (i + i))))

  pub root_past : (p : Poly d) (i : ℕ) → len p ≤ i + i → coeff (sqrt (𝔸 d) p) i ≡ 𝟘ₖ
  root_past p i h = coeff_of_sqrt (𝔸 d) p i ∙ ap (F d).root ((𝔸 d).len_past p (i + i) h) ∙ root_zero (F d)
