-- Document 01's example of a report, and further lines, in print.
-- `example_printed`: the bytes of the example's archive have the example's output as their report, byte for byte.
-- `lines_printed`: the further lines are printed as the table says.
use mathlib.Core.Path.{◌≡◌, refl, ap, ◌∙◌}
use mathlib.Core.List.{map, flatten}
use lib.Dec.{lit≤}
use Rattle.lists.specs.{Lists.none, Lists.more, Walk.walk}
use Rattle.class_group.specs.Moves.{subtract_and_halve}
use Rattle.jacobian.specs.Classes.{same_row, same_class}
use Rattle.jacobian.proofs.Computing.{computing}
use Rattle.stored_form.specs.Fields.{count_limit, printable}
use Rattle.stored_form_theorems.proofs.Pairs.{none_allowed}
use Rattle.history.specs.Register.{undo_seal}
use Rattle.archive_theorems.specs.Written.{archive_bytes, Storable}
use Rattle.archive_theorems.proofs.ArchiveRoundTrips.{archive_read_back}
use Rattle.text.specs.Text.{digit, digits, decimal, hexadecimal, row_text, class_text, refusal_text}
use Rattle.walk_report.specs.{Lines.line, Lines.part_text, Lines.first_line, Lines.refusal_line, Walk.seals, Walk.opposed, Walk.neutral, Walk.next_older, Walk.mark, Walk.letter, Walk.letters}
use Rattle.walk_report.specs.Report.{seal_lines, walk_lines, lines_of, report_lines, report}
use Rattle.report_theorems.specs.Printed.{bytes_of, example_archive, example_output, printed_lines}

unfoldable texts : Unit {0}
unfolding digit digits decimal hexadecimal row_text class_text refusal_text line part_text first_line refusal_line
texts = tt

example_made : flatten (walk_lines example_archive) ≡ bytes_of example_output
unfolding example_archive example_output texts computing walk subtract_and_halve same_row same_class undo_seal seals opposed neutral next_older mark letter letters seal_lines walk_lines flatten
example_made = refl

example_storable : Storable example_archive
unfolding example_archive computing printable count_limit
example_storable = record {
  curve_allowed = refl;
  drawing_printable = refl;
  drawing_short = lit≤ tt;
  count_within = lit≤ tt;
  seal_allowed = record { none = refl };
  operations_allowed = more (record { none = refl }) (more (record { none = refl }) none);
  pairs_allowed = none_allowed 2;
  pairs_few = lit≤ tt;
}

pub example_printed : report (archive_bytes example_archive) ≡ bytes_of example_output
unfolding report report_lines lines_of
example_printed = ap (λ r. flatten (lines_of r)) (archive_read_back example_archive example_storable) ∙ example_made

pub lines_printed : map (λ x. x.made) printed_lines ≡ map (λ x. bytes_of x.print) printed_lines
unfolding printed_lines texts
lines_printed = refl
