-- Checks in order: what holds where none refuses, and which refusal comes first.
use Prim.Native.Nat.{ℕ, zero, suc, ◌<◌}
use mathlib.Core.{Path.◌≡◌, Path.refl, Bool.Bool, Bool.true, Bool.false}
use native.Mathlib.Omega.{arith}
use Rattle.binary_field.specs.Checks.{unless, ◌or_else◌}

pub then_zero : (m n : ℕ) → m or_else n ≡ 0 → (m ≡ 0) × (n ≡ 0)
unfolding ◌or_else◌
then_zero zero n e = (refl, e)
then_zero (suc m) n e = absurd (omega arith)

pub first_due : {m n : ℕ} (k : ℕ) → n ≡ m → ¬ (n ≡ 0) → n ≡ m or_else k
unfolding ◌or_else◌
first_due {m = zero} k e h = absurd (h e)
first_due {m = suc m} k e h = e

pub next_due : {m n k l : ℕ} → n ≡ m → n ≡ 0 → k ≡ l → k ≡ m or_else l
unfolding ◌or_else◌
next_due {m = zero} e z h = h
next_due {m = suc m} e z h = absurd (omega arith)

pub unless_zero : (b : Bool) (n : ℕ) → 0 < n → unless b n ≡ 0 → b ≡ true
unfolding unless
unless_zero true n p e = refl
unless_zero false n p e = absurd (omega arith)
