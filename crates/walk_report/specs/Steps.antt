-- The report made step by step: a line, and the report's state after it (docs/SPECIFICATION.md, 10).
use Rattle.std.specs.Prelude.{ℕ, zero, suc, ◌-◌, Bool, true, false, ◌&&◌, List, []}
use Rattle.jacobian.specs.{Answer.neutral_class, Answer.subtract_and_halve_answer, declared.Curve.Curve, declared.Class.Class}
use Rattle.stored_form.specs.{Reading.Reading, Reading.found, Reading.refused, Record.drawing_name}
use Rattle.archive.specs.{Archive.archive_refusal, Reader.start, Reader.read_next, Reader.read_header, declared.Expected.Expected, declared.Reader.Reader}
use Rattle.archive.specs.declared.Expected.TheVariants as expected
use Rattle.text.specs.Line.{in_line}
use Rattle.walk_report.specs.{Lines.line, Lines.first_line, Lines.refusal_line, Walk.opposed, Walk.mark}
use Rattle.walk_report.specs.declared.{Stage.Stage, Report.Report, Progress.Progress, LineAnswer.LineAnswer}
use Rattle.walk_report.specs.declared.Stage.TheVariants.{Refusal, First, Last, Undo, Over}

-- the state at a stage, with its reader, the last seal reached and the operation to undo next
abbrev pub report_at : Stage → Reader → Class → Class → Report
report_at stage reader seal a = record { stage = stage; reader = reader; seal = seal; operation = a }

-- the state with another stage
abbrev pub with_stage : Stage → Report → Report
with_stage stage r = report_at stage r.reader r.seal r.operation

-- the state with another seal
abbrev pub with_seal : Class → Report → Report
with_seal seal r = report_at r.stage r.reader seal r.operation

-- the state with the offset of the next field
abbrev pub progress : Report → ℕ → Progress
progress r at = record { report = r; next = record { at = at } }

-- the number of operations still to be read
abbrev pub older : Expected → ℕ
older (expected.Header i) = 0
older (expected.Operations n) = n
older expected.Pairs = 0
older expected.End = 0
older expected.Nothing = 0

-- the state after a step of the reader: its operation is to be undone next; on a refusal the report is over
unfoldable pub on_operation : Report → ℕ → Reading Reader → Progress
on_operation r at (found reader next) = progress (report_at Undo reader r.seal reader.values.operation) next
on_operation r at (refused n) = progress (with_stage Over r) at

-- the state after the next operation was read, if n is not 0; else the report is over
unfoldable pub advanced_by : ℕ → Report → List ℕ → ℕ → Progress
advanced_by zero r s at = progress (with_stage Over r) at
advanced_by (suc n) r s at = on_operation r at (read_next r.reader s at)

-- the state after the next operation was read; the report is over if none is left
unfoldable pub advanced : Report → List ℕ → ℕ → Progress
advanced r s at = advanced_by (older r.reader.expected) r s at

-- whether an operation is to be undone next
abbrev pub undoing : Stage → Bool
undoing (Refusal n) = false
undoing First = false
undoing Last = false
undoing Undo = true
undoing Over = false

-- the letter of the operation a, where r is the state at the next older one, if there is one
abbrev pub letter_before : Curve → Class → Report → ℕ
letter_before c a r = mark (undoing r.stage && opposed c a r.operation) a

-- a line's text, with the state after it and the offset of the next field
pub record LineResult : Type 0 where
  pub text : List ℕ
  pub progress : Progress

-- the code's answer for a line
unfoldable pub line_answer : LineResult → LineAnswer
line_answer n = record { line = in_line n.text; progress = n.progress }

-- The line and the state after an undo of the operation.
-- Its number is the count less the operations that are still to be read.
unfoldable pub undone : Report → List ℕ → ℕ → LineResult
undone r s at =
    let values = r.reader.values in
    let seal = (subtract_and_halve_answer values.curve r.seal r.operation).class in
    let m = advanced r s at in
    record {
      text = line (values.count - older r.reader.expected) (letter_before values.curve r.operation m.report) seal;
      progress = record { report = with_seal seal m.report; next = m.next };
    }

-- the line of a stage, and the state after it
unfoldable pub next_of : Stage → Report → List ℕ → ℕ → LineResult
next_of (Refusal n) r s at = record { text = refusal_line n; progress = progress (with_stage Over r) at }
next_of First r s at = record { text = first_line r.reader.values.count (drawing_name r.reader.values.drawing); progress = progress (with_stage Last r) at }
next_of Last r s at = record { text = line 0 0x2E r.seal; progress = advanced r s at }
next_of Undo r s at = undone r s at
next_of Over r s at = record { text = []; progress = progress (with_stage Over r) at }

-- the next line, and the state after it; the text is empty if the report is over
unfoldable pub next_line : Report → List ℕ → ℕ → LineResult
next_line r s at = next_of r.stage r s at

-- the state of a report that is a refusal alone
unfoldable pub refused_report : ℕ → Progress
refused_report n = progress (report_at (Refusal n) start neutral_class neutral_class) 0

-- the state once the header was read
unfoldable pub first_report : Reading Reader → Progress
first_report (found reader next) = progress (report_at First reader reader.values.class neutral_class) next
first_report (refused n) = refused_report n

-- the state with refusal n if n is not 0, else the state once the header was read
unfoldable pub begin_by : ℕ → Reading Reader → Progress
begin_by zero x = first_report x
begin_by (suc n) x = refused_report (suc n)

-- the state before the first line of the report of these bytes: all checks are made, then the header is read again
unfoldable pub begin : List ℕ → Progress
begin s = begin_by (archive_refusal s) (read_header s)

-- whether a line is still to come
abbrev pub pending : Stage → Bool
pending (Refusal n) = true
pending First = true
pending Last = true
pending Undo = true
pending Over = false
