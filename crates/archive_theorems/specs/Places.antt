-- A reading of a part of the input, stated for the whole input.
use Rattle.std.specs.Prelude.{ℕ, ◌+◌}
use Rattle.stored_form.specs.Reading.{Reading, found, refused}

-- the same reading with its offset shifted by k
unfoldable pub shift : {A : Type 0} → ℕ → Reading A → Reading A
shift k (found a next) = found a (k + next)
shift k (refused n) = refused n
