-- The promise of Euclid's extended rule on rows.
use Rattle.std.specs.Prelude.{ℕ, List}
use Rattle.row_theory.specs.internal.Bezout.{BezoutRows}
use Rattle.class_rows.specs.declared.euclid.Combination.{Combination}

-- the rows of r are those of Euclid's rule for a and b
abbrev pub Combines : ℕ → List ℕ → List ℕ → Combination → Type 0
Combines d a b r = BezoutRows d a b r.g r.s r.t
