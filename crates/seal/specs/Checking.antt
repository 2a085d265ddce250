-- What the checks of each byte call require, in checking order, and which numbers and lengths it answers
-- (docs/SPECIFICATION.md, 6 and 7).
use Rattle.std.specs.Prelude.{ℕ, ◌-◌, ◌^◌, ◌≤◌, ◌<◌, length}
use mathlib.Core.{Path.◌≡◌, List.List, List.[], List.◌∷◌, List.◌++◌}
use Rattle.jacobian.specs.Checks.{Check, check}
use Rattle.stamps.specs.Stamps.{SomeRoot}
use Rattle.stored_form.specs.declared.Record.{Record}
use Rattle.stored_form_theorems.specs.{Checking.record_checks, Checking.record_values, Numbers.class_numbers, Numbers.class_field_lengths, Numbers.register_field_lengths}
use Rattle.seal.specs.Calls.{tags}
use Rattle.seal.specs.declared.calls.Call.{Call}
use Rattle.seal.specs.declared.calls.Call.TheVariants.{Opposite, Double, Half, Sum, Commit, Undo, Release, Stamp}

-- the least length of a call's output
abbrev pub least_output : Call → ℕ
least_output Opposite = 51
least_output Double = 51
least_output Half = 51
least_output Sum = 51
least_output Commit = 61
least_output Undo = 61
least_output Release = 61
least_output (Stamp s) = 51

-- the checks of a call's values, after those of its record: of the count at its edges, or of the stamp
abbrev pub last_checks : Call → Record → List Check
last_checks Opposite h = []
last_checks Double h = []
last_checks Half h = []
last_checks Sum h = []
last_checks Commit h = check 114 (¬ (h.count ≡ 1024)) ∷ []
last_checks Undo h = check 113 (¬ (h.count ≡ 0)) ∷ check 121 (¬ (h.count ≡ h.released)) ∷ []
last_checks Release h = []
last_checks (Stamp s) h =
    check 115 (s < 2 ^ (h.curve.degree - 3))
    ∷ check 116 (SomeRoot h.curve s)
    ∷ []

-- the checks of a call: the length of its output, its record, then its values
abbrev pub checks : Call → List ℕ → List ℕ → List Check
checks call s out = check 101 (least_output call ≤ length out) ∷ (record_checks (tags call) s ++ last_checks call (record_values (tags call) s))

-- ---- what a call can answer

-- the numbers with which a call is refused
abbrev pub numbers : Call → List ℕ
numbers Opposite = 101 ∷ class_numbers
numbers Double = 101 ∷ class_numbers
numbers Half = 101 ∷ class_numbers
numbers Sum = 101 ∷ class_numbers
numbers Commit = 101 ∷ 102 ∷ 103 ∷ 104 ∷ 105 ∷ 106 ∷ 107 ∷ 109 ∷ 110 ∷ 111 ∷ 112 ∷ 114 ∷ 120 ∷ []
numbers Undo = 101 ∷ 102 ∷ 103 ∷ 104 ∷ 105 ∷ 106 ∷ 107 ∷ 109 ∷ 110 ∷ 111 ∷ 112 ∷ 113 ∷ 120 ∷ 121 ∷ []
numbers Release = 101 ∷ 102 ∷ 103 ∷ 104 ∷ 105 ∷ 106 ∷ 107 ∷ 109 ∷ 110 ∷ 111 ∷ 112 ∷ 120 ∷ []
numbers (Stamp s) = 101 ∷ 102 ∷ 103 ∷ 104 ∷ 105 ∷ 106 ∷ 107 ∷ 112 ∷ 115 ∷ 116 ∷ []

-- the lengths that a call writes: of a class, of a register's fields, of a class of degree 1
abbrev pub lengths : Call → List ℕ
lengths Opposite = class_field_lengths
lengths Double = class_field_lengths
lengths Half = class_field_lengths
lengths Sum = class_field_lengths
lengths Commit = register_field_lengths
lengths Undo = register_field_lengths
lengths Release = register_field_lengths
lengths (Stamp s) = 19 ∷ []
