-- What the checks of the two byte calls require, in checking order, and which numbers they answer
-- (docs/SPECIFICATION.md, 6 and 7).
use Rattle.std.specs.Prelude.{ℕ, ◌^◌, ◌≤◌, ◌<◌, List, [], ◌∷◌, ◌++◌, length}
use Rattle.jacobian.specs.Checks.{Check, check}
use Rattle.stored_form.specs.Reader.{class_layout}
use Rattle.stored_form_theorems.specs.{Checking.record_checks, Numbers.class_numbers}

-- the checks of n times a class: the length of the output, the record, then n
abbrev pub multiple_checks : ℕ → List ℕ → List ℕ → List Check
multiple_checks n s out = check 101 (51 ≤ length out) ∷ (record_checks class_layout s ++ check 118 (n < 2 ^ 61) ∷ [])

-- the checks of k halvings: the length of the output, the record, then k
abbrev pub halvings_checks : ℕ → List ℕ → List ℕ → List Check
halvings_checks k s out = check 101 (51 ≤ length out) ∷ (record_checks class_layout s ++ check 119 (k ≤ 64) ∷ [])

-- the numbers with which n times a class is refused
abbrev pub multiple_numbers : List ℕ
multiple_numbers = 101 ∷ 118 ∷ class_numbers

-- the numbers with which k halvings are refused
abbrev pub halvings_numbers : List ℕ
halvings_numbers = 101 ∷ 119 ∷ class_numbers
