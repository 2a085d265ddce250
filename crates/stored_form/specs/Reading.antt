-- What reading a field gives, and how readings follow each other (docs/SPECIFICATION.md, 6).
use Rattle.std.specs.Prelude.{ℕ, zero, suc, Bool, cond}

-- a value with the offset of the next field, or the number of a refusal
pub data Reading (A : Type 0) : Type 0 where
  found : A → ℕ → Reading A
  refused : ℕ → Reading A

-- refusal n if the condition holds, else r
abbrev pub refuse : {A : Type 0} → ℕ → Bool → Reading A → Reading A
refuse n b r = cond b (refused n) r

-- refusal n if n is not 0, else r
unfoldable pub checked : {A : Type 0} → ℕ → Reading A → Reading A
checked zero r = r
checked (suc n) r = refused (suc n)

infixl 20 ◌then◌
-- reads on from what was found; a refusal is the answer of the whole
unfoldable pub ◌then◌ : {A B : Type 0} → Reading A → (A → ℕ → Reading B) → Reading B
found a next then f = f a next
refused n then f = refused n

-- the number of a refusal, and 0 if there is none
abbrev pub reading_refusal : {A : Type 0} → Reading A → ℕ
reading_refusal (found a next) = 0
reading_refusal (refused n) = n
