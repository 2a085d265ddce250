-- What the derived `==` of two classes answers is `same_class` (`class_equal`); the rows have three numbers each.
use Prim.Native.Nat.{ℕ}
use mathlib.Core.Path.{◌≡◌, ap₂, ap}
use mathlib.Core.Bool.{◌&&◌, and-true}
use mathlib.Core.List.{List, [], ◌∷◌}
use lib.{Dec.eqb, ListN.length, Pointwise.pointwise}
use Rattle.jacobian.specs.{Classes.same_row, Classes.same_class, declared.Class.Class}
use Rattle.jacobian.proofs.ByValue.Threes.{by_three}

row_equal : (r s : List ℕ) → length r ≡ 3 → length s ≡ 3 → pointwise eqb r s ≡ same_row r s
unfolding same_row
row_equal r s h k =
    by_three (λ r. pointwise eqb r s ≡ same_row r s)
    (λ x y z. by_three (λ s. pointwise eqb (x ∷ y ∷ z ∷ []) s ≡ same_row (x ∷ y ∷ z ∷ []) s) (λ p q t. simp and-true) s k)
    r
    h

pub class_equal : (a b : Class) → length a.u ≡ 3 → length a.v ≡ 3 → length b.u ≡ 3 → length b.v ≡ 3
    → (eqb a.degree b.degree && (pointwise eqb a.u b.u && pointwise eqb a.v b.v)) ≡ same_class a b
unfolding same_class
class_equal a b h k l m = ap (λ t. eqb a.degree b.degree && t) (ap₂ ◌&&◌ (row_equal a.u b.u h l) (row_equal a.v b.v k m))
