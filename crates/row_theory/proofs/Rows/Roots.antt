-- The square root of any polynomial, coefficient by coefficient: the i-th is the root of the one at 2 i.
use Prim.Native.Nat.{ℕ, zero, suc, ◌+◌, ◌≤◌}
use mathlib.Core.Path.{◌≡◌, sym, ◌∙◌, ap}
use native.Mathlib.Omega.{arith}
use Rattle.field_laws.specs.Field.{Field2}
use Rattle.char2_algebra.specs.{Polynomials.Polynomials, Square.tail, Square.sqrt_to, Square.sqrt}
use Rattle.char2_algebra.proofs.{Degree.coeff_zero, Degree.coeff_tail, Degree.len_tail, Degree.coeff_con_add_x_mul, Degree.coeff_con_add_x_mul_suc}
pub use Rattle.char2_algebra.proofs.Square.{root_zero}

module _ {K P : Type 0} {F : Field2 K} (A : Polynomials F P) where
  open A use {coeff, len}

  coeff_sqrt_to : (n i : ℕ) (p : P) → len p ≤ n + n → coeff (sqrt_to A n p) i ≡ F.root (coeff p (i + i))
  unfolding sqrt_to
  coeff_sqrt_to zero i p h = coeff_zero A i ∙ sym (ap F.root (A.len_past p (i + i) (omega arith)) ∙ root_zero F)
  coeff_sqrt_to (suc n) zero p h = coeff_con_add_x_mul A _ _
  coeff_sqrt_to (suc n) (suc i) p h =
      let e : suc (suc (i + i)) ≡ suc i + suc i = omega arith in
      coeff_con_add_x_mul_suc A _ _ i
      ∙ coeff_sqrt_to n i (tail A (tail A p)) (len_tail A (tail A p) (n + n) (len_tail A p (suc (n + n)) (omega arith)))
      ∙ ap F.root (coeff_tail A (tail A p) (i + i) ∙ coeff_tail A p (suc (i + i)) ∙ ap (coeff p) e)

  pub coeff_of_sqrt : (p : P) (i : ℕ) → coeff (sqrt A p) i ≡ F.root (coeff p (i + i))
  unfolding sqrt
  coeff_of_sqrt p i = coeff_sqrt_to (len p) i p (omega arith)
