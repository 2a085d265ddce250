-- The first that is found among g 0 .. g (n - 1).
use Rattle.std.specs.Prelude.{ℕ, zero, suc}
use Rattle.std.proofs.Math.Option.{Option, none, some}

module _ {A : Type 0} where
  -- the first of two options that has a value
  unfoldable pub earlier : Option A → Option A → Option A
  earlier (some a) o = some a
  earlier none o = o

  -- the first of g 0, .., g (n - 1) that has a value
  unfoldable pub first : (ℕ → Option A) → ℕ → Option A
  first g zero = none
  first g (suc n) = earlier (first g n) (g n)
