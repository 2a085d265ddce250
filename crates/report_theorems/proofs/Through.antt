-- A line can be made from a part of the input that has the next field.
-- The part is m bytes from the offset k on; offsets of the part are shifted by k.
-- `line_through`: in a part with room for the longest field, line and state after it are those of the whole input.
-- `line_last`: so they are in a part that is all that is left of the input.
use Prim.Native.Nat.{ℕ, zero, suc, ◌+◌, ◌-◌, ◌≤◌}
use mathlib.Core.Path.{◌≡◌, refl, ap, ◌∙◌}
use mathlib.Core.List.{List}
use lib.ListN.{length}
use Rattle.stored_form.specs.{Number.part, Tags.longest_body, Reading.Reading, Reading.found, Reading.refused}
use Rattle.jacobian.specs.Answer.{subtract_and_halve_answer}
use Rattle.archive.specs.{Reader.read_next, declared.Reader.Reader}
use Rattle.archive_theorems.specs.Places.{shift}
use Rattle.archive_theorems.proofs.Windows.{read_next_through, read_next_last}
use Rattle.walk_report.specs.declared.{Stage.Stage, Report.Report, Progress.Progress}
use Rattle.walk_report.specs.declared.Stage.TheVariants.{Refusal, First, Last, Undo, Over}
use Rattle.walk_report.specs.{Lines.line, Steps.with_seal, Steps.older, Steps.on_operation, Steps.advanced_by, Steps.advanced, Steps.letter_before, Steps.undone, Steps.next_of, Steps.next_line}
use Rattle.report_theorems.specs.Through.{shift_progress, shift_line}

on_operation_shift : (k at : ℕ) (r : Report) (x : Reading Reader) → on_operation r (k + at) (shift k x) ≡ shift_progress k (on_operation r at x)
unfolding on_operation shift
on_operation_shift k at r (found reader next) = refl
on_operation_shift k at r (refused n) = refl

module _ (k : ℕ) (s t : List ℕ) (at : ℕ) where
  -- a step in the part is the step in the whole input
  module _ (r : Report) (same : read_next r.reader s (k + at) ≡ shift k (read_next r.reader t at)) where
    by_shift : (n : ℕ) → advanced_by n r s (k + at) ≡ shift_progress k (advanced_by n r t at)
    unfolding advanced_by
    by_shift zero = refl
    by_shift (suc n) = ap (on_operation r (k + at)) same ∙ on_operation_shift k at r (read_next r.reader t at)

    advanced_shift : advanced r s (k + at) ≡ shift_progress k (advanced r t at)
    unfolding advanced
    advanced_shift = by_shift (older r.reader.expected)

    stage_shift : (g : Stage) → next_of g r s (k + at) ≡ shift_line k (next_of g r t at)
    unfolding next_of undone
    stage_shift (Refusal n) = refl
    stage_shift First = refl
    stage_shift Last = ap (λ (x : Progress). record { text = line 0 0x2E r.seal; progress = x }) advanced_shift
    stage_shift Undo =
        let values = r.reader.values in
        let seal = (subtract_and_halve_answer values.curve r.seal r.operation).class in
        ap (λ (x : Progress). record {
          text = line (values.count - older r.reader.expected) (letter_before values.curve r.operation x.report) seal;
          progress = record { report = with_seal seal x.report; next = x.next };
        }) advanced_shift
    stage_shift Over = refl

    line_shift : next_line r s (k + at) ≡ shift_line k (next_line r t at)
    unfolding next_line
    line_shift = stage_shift r.stage

module _ (k m : ℕ) (s : List ℕ) (at : ℕ) (r : Report) where
  pub line_through : at + (3 + longest_body) ≤ m → next_line r s (k + at) ≡ shift_line k (next_line r (part s k m) at)
  line_through room = line_shift k s (part s k m) at r (read_next_through k m s at r.reader room)

  pub line_last : length s ≤ k + m → next_line r s (k + at) ≡ shift_line k (next_line r (part s k m) at)
  line_last h = line_shift k s (part s k m) at r (read_next_last k m s at r.reader h)
