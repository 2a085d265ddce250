-- The answers of the open functions for rows of any numbers.
use Rattle.std.specs.Prelude.{ℕ, Option, Some, None}
use mathlib.Core.{Path.◌≡◌, Bool.Bool, Bool.true, Bool.false, Bool.◌&&◌, List.List}
use Rattle.class_group.specs.{Reduction.Counted, Operations.double, Moves.double_and_add}
use Rattle.row_theory.specs.Field.{Poly}
use Rattle.class_rows.specs.{Pair.rows_pair, Pair.rows_of, Checked.row_curve, Checked.is_divisor, Operations.unary, Operations.binary}
use Rattle.class_rows.specs.declared.{row.RowPair.RowPair, reduction.CountedRows.CountedRows, Unary.Unary, Unary.TheVariants.Half, Binary.Binary, Binary.TheVariants.SubtractAndHalve}

-- the rows of a class and its steps where the rows given are divisors; else none
unfoldable pub answered : (d : ℕ) → Bool → Counted (Poly d) → Option CountedRows
answered d true c = Some (record { pair = rows_of d c.class; steps = c.steps })
answered d false c = None

-- the answer of `unary_rows`: the theory's opposite, double or half of a divisor
unfoldable pub unary_answer : Unary → ℕ → List ℕ → RowPair → Option CountedRows
unary_answer op d f a = answered d (is_divisor d f a) (unary op (row_curve d f) (rows_pair d a))

-- the answer of `binary_rows`: the theory's sum of two divisors, twice the first plus the second, or the half of the
-- first less the second
unfoldable pub binary_answer : Binary → ℕ → List ℕ → RowPair → RowPair → Option CountedRows
binary_answer op d f a b = answered d (is_divisor d f a && is_divisor d f b) (binary op (row_curve d f) (rows_pair d a) (rows_pair d b))

-- an answer that is given, with the pair h
pub record Gives (r : Option CountedRows) (h : RowPair) : Type 0 where
  pub steps : ℕ
  pub is_given : r ≡ Some (record { pair = h; steps = steps })

-- h is the only divisor of the curve of f of which P holds
pub record Only (d : ℕ) (f : List ℕ) (P : RowPair → Type 0) (h : RowPair) : Type 0 where
  pub divisor : is_divisor d f h ≡ true
  pub holds : P h
  pub only : (k : RowPair) → is_divisor d f k ≡ true → P k → k ≡ h

-- twice h is a
abbrev pub IsHalf : ℕ → List ℕ → RowPair → RowPair → Type 0
IsHalf d f a h = double (row_curve d f) (rows_pair d h) ≡ rows_pair d a

-- what `unary_rows` promises: its answer; and the half of a divisor is the only divisor whose double is the one given
pub record UnaryAnswers (op : Unary) (d : ℕ) (f : List ℕ) (a : RowPair) (r : Option CountedRows) : Type 0 where
  pub answer : r ≡ unary_answer op d f a
  pub is_half : op ≡ Half → (h : RowPair) → Gives r h → Only d f (IsHalf d f a) h

-- twice h plus b is a
abbrev pub Precedes : ℕ → List ℕ → RowPair → RowPair → RowPair → Type 0
Precedes d f a b h = double_and_add (row_curve d f) (rows_pair d h) (rows_pair d b) ≡ rows_pair d a

-- what `binary_rows` promises: its answer; and the half of a less b is the only divisor h for which twice h plus b is a
pub record BinaryAnswers (op : Binary) (d : ℕ) (f : List ℕ) (a b : RowPair) (r : Option CountedRows) : Type 0 where
  pub answer : r ≡ binary_answer op d f a b
  pub taken_back : op ≡ SubtractAndHalve → (h : RowPair) → Gives r h → Only d f (Precedes d f a b) h
