-- `text_short`: every line of the report fits the row of a line.
use Prim.Native.Nat.{ℕ, ◌≤◌}
use mathlib.Core.Path.{◌≡◌}
use mathlib.Core.List.{List}
use native.Mathlib.Omega.{arith}
use lib.ListN.{length, length-take}
use Rattle.stored_form.specs.{Head.drawing_limit, Record.drawing_name, declared.Drawing.Drawing}
use Rattle.text.specs.Line.{line_room}
use Rattle.walk_report.specs.Steps.{undone, next_of, next_line}
use Rattle.walk_report.specs.declared.{Stage.Stage, Report.Report}
use Rattle.walk_report.specs.declared.Stage.TheVariants.{Refusal, First, Last, Undo, Over}
use Rattle.walk_report.proofs.LineParts.{seal_short, first_short, refusal_line_short}

name_short : (d : Drawing) → length d.bytes ≡ drawing_limit → length (drawing_name d) ≤ drawing_limit
unfolding drawing_name
name_short d h = omega (arith, h, length-take d.len d.bytes)

-- ---- every line

stage_short : (stage : Stage) (r : Report) (s : List ℕ) (at : ℕ) → length r.reader.values.drawing.bytes ≡ drawing_limit → length (next_of stage r s at).text ≤ line_room
unfolding next_of undone
stage_short (Refusal n) r s at h = omega (arith, refusal_line_short n)
stage_short First r s at h = omega (arith, first_short r.reader.values.count (drawing_name r.reader.values.drawing) (name_short r.reader.values.drawing h))
stage_short Last r s at h = seal_short 0 0x2E r.seal
stage_short Undo r s at h = seal_short _ _ _
stage_short Over r s at h = omega arith

-- the row of a drawing number has `drawing_limit` bytes, as every value of the code's type has
pub text_short : (r : Report) (s : List ℕ) (at : ℕ) → length r.reader.values.drawing.bytes ≡ drawing_limit → length (next_line r s at).text ≤ line_room
unfolding next_line
text_short r s at h = stage_short r.stage r s at h
