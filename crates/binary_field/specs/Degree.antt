-- The number of a degree.
use Rattle.std.specs.Prelude.{ℕ}
use Rattle.binary_field.specs.declared.degree.Degree.{Degree}
use Rattle.binary_field.specs.declared.degree.Degree.TheVariants.{Five, SixtyOne}

-- the number of a degree
abbrev pub degree_number : Degree → ℕ
degree_number Five = 5
degree_number SixtyOne = 61
