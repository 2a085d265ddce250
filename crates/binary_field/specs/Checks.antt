-- The checks of a call (docs/SPECIFICATION.md, 6): they are made in order, and the first that fails gives the refusal.
use Rattle.std.specs.Prelude.{ℕ, zero, suc, eqb}
use mathlib.Core.{Path.◌≡◌, Bool.Bool, Bool.false, Bool.cond, Bool.◌||◌, List.List, List.[], List.◌∷◌, Logic.◌⊎◌}

infixr 20 ◌or_else◌
-- 0, which is no refusal, where the test holds, else the refusal n
unfoldable pub unless : Bool → ℕ → ℕ
unless holds n = cond holds 0 n

-- the first refusal where there is one, else the second
unfoldable pub ◌or_else◌ : ℕ → ℕ → ℕ
◌or_else◌ zero m = m
◌or_else◌ (suc n) m = suc n

-- the list contains n
unfoldable pub listed : ℕ → List ℕ → Bool
listed n [] = false
listed n (m ∷ ms) = eqb n m || listed n ms

-- ---- what the checks of a call require, each in its place

-- a check: the number with which it refuses, and what has to hold
pub record Check : Type 1 where
  pub number : ℕ
  pub Holds : Type 0

-- the check that refuses with n unless this holds
abbrev pub check : ℕ → Type 0 → Check
check n P = record { number = n; Holds = P }

-- every check holds
abbrev pub AllHold : List Check → Type 0
AllHold [] = Unit {0}
AllHold (c ∷ cs) = c.Holds × AllHold cs

-- n is the number of the first check that does not hold
abbrev pub FirstFails : List Check → ℕ → Type 0
FirstFails [] n = ⊥
FirstFails (c ∷ cs) n = (¬ c.Holds × (n ≡ c.number)) ⊎ (c.Holds × FirstFails cs n)

-- n is the refusal of these checks, which are made in order: 0 if all hold, else the number of the first that does not
pub data RefusalOf (cs : List Check) (n : ℕ) : Type 0 where
  all_hold : n ≡ 0 → AllHold cs → RefusalOf cs n
  first_fails : ¬ (n ≡ 0) → FirstFails cs n → RefusalOf cs n
