-- The measure of the program's loop: `lines_left`, the number of lines that are at most to come.
-- `lines_fewer`: after each line of the report it is less.
use Prim.Native.Nat.{ℕ, zero, suc, ◌-◌, ◌≤◌, ◌<◌}
use mathlib.Core.Path.{◌≡◌, refl, sym}
use mathlib.Core.Bool.{true, true≢false}
use mathlib.Core.List.{List}
use native.Mathlib.Omega.{arith}
use Rattle.jacobian.specs.declared.Class.{Class}
use Rattle.stored_form.specs.{Reading.Reading, Reading.found, Reading.refused, Reading.◌then◌, Reader.read_field, declared.Record.Record}
use Rattle.archive.specs.{Reader.reader, Reader.operations_expected, Reader.read_next, declared.Expected.Expected, declared.Reader.Reader}
use Rattle.archive.specs.Reader as reading
use Rattle.archive.specs.declared.Expected.TheVariants as expected
use Rattle.walk_report.specs.Steps.{report_at, older, on_operation, advanced_by, advanced, undone, next_of, next_line, pending}
use Rattle.walk_report.specs.declared.{Stage.Stage, Report.Report}
use Rattle.walk_report.specs.declared.Stage.TheVariants.{Refusal, First, Last, Undo, Over}

unfoldable pub lines_left : Report → ℕ
lines_left r = elim r.stage [
  | Refusal n ↦ 1
  | First ↦ suc (suc (older r.reader.expected))
  | Last ↦ suc (older r.reader.expected)
  | Undo ↦ suc (older r.reader.expected)
  | Over ↦ 0
]

pub expected_older : (n : ℕ) → older (operations_expected n) ≡ n
unfolding operations_expected
expected_older zero = refl
expected_older (suc n) = refl

module _ (s : List ℕ) (at : ℕ) where
  -- an operation was read, or no line is to come
  read_fewer : (n : ℕ) (r : Report) (x : Reading Record) →
      lines_left (on_operation r at (x then λ more next. found (reader (operations_expected (suc n - 1)) more) next)).report ≤ suc n
  unfolding on_operation ◌then◌ lines_left
  read_fewer n r (found more next) = omega (arith, expected_older (suc n - 1))
  read_fewer n r (refused k) = omega arith

  expected_fewer : (d : Expected) (stage : Stage) (h : Record) (seal b : Class) → lines_left (advanced (report_at stage (reader d h) seal b) s at).report ≤ older d
  unfolding advanced advanced_by lines_left read_next reading.read_operation
  expected_fewer (expected.Header i) stage h seal b = omega arith
  expected_fewer (expected.Operations zero) stage h seal b = omega arith
  expected_fewer (expected.Operations (suc n)) stage h seal b = read_fewer n (report_at stage (reader (expected.Operations (suc n)) h) seal b) (read_field 0x44 h s at)
  expected_fewer expected.Pairs stage h seal b = omega arith
  expected_fewer expected.End stage h seal b = omega arith
  expected_fewer expected.Nothing stage h seal b = omega arith

  stage_fewer : (stage : Stage) (r : Reader) (seal b : Class) → pending stage ≡ true →
      let t = report_at stage r seal b in lines_left (next_of stage t s at).progress.report < lines_left t
  unfolding next_of undone lines_left
  stage_fewer (Refusal n) r seal b h = omega arith
  stage_fewer First r seal b h = omega arith
  stage_fewer Last r seal b h = omega (arith, expected_fewer r.expected Last r.values seal b)
  stage_fewer Undo r seal b h = omega (arith, expected_fewer r.expected Undo r.values seal b)
  stage_fewer Over r seal b h = absurd (true≢false (sym h))

pub lines_fewer : (r : Report) (s : List ℕ) (at : ℕ) → pending r.stage ≡ true → lines_left (next_line r s at).progress.report < lines_left r
unfolding next_line
lines_fewer r s at h = stage_fewer s at r.stage r.reader r.seal r.operation h
