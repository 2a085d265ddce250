-- What the checks of the call that suppresses an operation require, in checking order, and that it wrote or refused
-- (docs/SPECIFICATION.md, 6 and 9).
use Rattle.std.specs.Prelude.{ℕ, ◌+◌, ◌≤◌, ◌≡◌, List, [], ◌∷◌, ◌++◌, length}
use Rattle.jacobian.specs.Checks.{Check, check, AllHold, FirstFails}
use Rattle.stored_form_theorems.specs.Numbers.{OneOf}
use Rattle.archive.specs.Archive.{archive_said}
use Rattle.archive_theorems.specs.Checking.{archive_checks}
use Rattle.suppression_theory.specs.Archives.{Held}
use Rattle.seal_archive.specs.Suppress.{WrittenEffect, refuse_archive, write_archive}

-- the checks of the call: the output is 48 bytes longer than the input, the archive's, k is one of its operations, and
-- that operation is not held
abbrev pub suppress_checks : List ℕ → ℕ → List ℕ → List Check
suppress_checks s k out =
    check 101 (length s + 48 ≤ length out)
    ∷ (archive_checks s
    ++ check 123 ((1 ≤ k) × (k ≤ length (archive_said s).operations))
    ∷ check 124 (¬ Held k (archive_said s))
    ∷ [])

-- What a call with these checks, made in order, does: if all hold, it writes these bytes.
-- Else it answers the number of the first that does not hold with the length 0, and no byte changes.
pub data WrittenEffectOf (checks : List Check) (bytes out : List ℕ) (e : WrittenEffect) : Type 0 where
  all_hold : AllHold checks → e ≡ write_archive bytes out → WrittenEffectOf checks bytes out e
  first_fails : (n : ℕ) → FirstFails checks n → e ≡ refuse_archive n out → WrittenEffectOf checks bytes out e

-- the call wrote bytes, and the output is 48 bytes longer than the input or more; or it refused with one of these
-- numbers and changed no byte
pub data WroteOrRefused (s numbers out : List ℕ) (e : WrittenEffect) : Type 0 where
  wrote : (bytes : List ℕ) → length bytes ≤ length out → length s + 48 ≤ length out → e ≡ write_archive bytes out → WroteOrRefused s numbers out e
  kept : (n : ℕ) → OneOf numbers n → e ≡ refuse_archive n out → WroteOrRefused s numbers out e

-- the member `refusal` alone decides whether the call wrote or refused
pub record RefusalDecides (s numbers out : List ℕ) (e : WrittenEffect) : Type 0 where
  pub wrote : e.written.refusal ≡ 0 → (bytes : List ℕ) × (length bytes ≤ length out) × (length s + 48 ≤ length out) × (e ≡ write_archive bytes out)
  pub kept : ¬ (e.written.refusal ≡ 0) → OneOf numbers e.written.refusal × (e.written.length ≡ 0) × (e.output ≡ out)
